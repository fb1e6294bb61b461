-- Lines that can be worked, and their parts.
use Rattle.std.proofs.Common.{◌≡◌, ℕ, ◌+◌, ◌≤◌, true, ◌&&◌, List, [], ◌∷◌, ◌++◌, length, refl, ap, ◌∙◌, arith, length-append}
use Rattle.std.proofs.lemmas.Bool.{and_parts, and_from}
use Rattle.quantities.specs.declared.isin.Isin.{Isin}
use Rattle.quantities.specs.Ranges.{most_titles}
use Rattle.market.specs.Records.{isin_rank}
use Rattle.account.specs.declared.line.Line.{Line}
use Rattle.account.specs.Lines.{is_in_block, keep, sum_of}
use Rattle.account.specs.declared.block_name.BlockName.{BlockName}
use Rattle.account.specs.Answers.{is_well_formed, is_well_dated, titles_of}
use Rattle.account.specs.Settings.{Setting}
use Rattle.account.specs.Valid.{all_valid}
use Rattle.account.proofs.Sums.{sum_joined}
use Rattle.valuation.specs.Checks.{Faultless}
use Rattle.valuation.specs.IsinOrder.{Rises}
use Rattle.valuation.proofs.Runs.{kept_joined}

pub record Workable (s : Setting) (ls : List Line) : Type 0 where
  pub few : length ls ≤ 65535
  pub taken : all_valid s.today ls ≡ true
  pub titles : (i : Isin) (k : BlockName) → titles_of i k ls ≤ most_titles
  pub faultless : Faultless s ls
  pub rising : Rises 0 ls

taken_parts : (today : ℕ) (ls ms : List Line) → all_valid today (ls ++ ms) ≡ true → (all_valid today ls ≡ true) × (all_valid today ms ≡ true)
taken_parts today [] ms t = (refl, t)
taken_parts today (l ∷ ls) ms t =
    let p = and_parts (is_well_formed l && is_well_dated today l.block) (all_valid today (ls ++ ms)) t in
    let q = taken_parts today ls ms p.1 in
    (and_from (is_well_formed l && is_well_dated today l.block) (all_valid today ls) p.0 q.0, q.1)

faultless_parts : (s : Setting) (ls ms : List Line) → Faultless s (ls ++ ms) → Faultless s ls × Faultless s ms
faultless_parts s [] ms f = (tt, f)
faultless_parts s (l ∷ ls) ms f = let q = faultless_parts s ls ms f.1 in ((f.0, q.0), q.1)

rises_first : (n : ℕ) (ls ms : List Line) → Rises n (ls ++ ms) → Rises n ls
rises_first n [] ms r = tt
rises_first n (l ∷ ls) ms r = (r.0, rises_first (isin_rank l.isin) ls ms r.1)

rises_later : (n : ℕ) (ls ms : List Line) → Rises n (ls ++ ms) → Rises 0 ms
rises_later n [] [] r = tt
rises_later n [] (m ∷ ms) r = (omega arith, r.1)
rises_later n (l ∷ ls) ms r = rises_later (isin_rank l.isin) ls ms r.1

titles_joined : (i : Isin) (k : BlockName) (ls ms : List Line) → titles_of i k (ls ++ ms) ≡ titles_of i k ls + titles_of i k ms
titles_joined i k ls ms = ap (sum_of (λ (l : Line). l.titles)) (kept_joined (is_in_block i k) ls ms) ∙ sum_joined (λ (l : Line). l.titles) (keep (is_in_block i k) ls) (keep (is_in_block i k) ms)

module _ (s : Setting) (ls ms : List Line) where
  pub first_part : Workable s (ls ++ ms) → Workable s ls
  first_part w =
      record {
        few = omega (arith, w.few, length-append ls ms);
        taken = (taken_parts s.today ls ms w.taken).0;
        titles = λ i k. omega (arith, w.titles i k, titles_joined i k ls ms);
        faultless = (faultless_parts s ls ms w.faultless).0;
        rising = rises_first 0 ls ms w.rising;
      }

  pub later_part : Workable s (ls ++ ms) → Workable s ms
  later_part w =
      record {
        few = omega (arith, w.few, length-append ls ms);
        taken = (taken_parts s.today ls ms w.taken).1;
        titles = λ i k. omega (arith, w.titles i k, titles_joined i k ls ms);
        faultless = (faultless_parts s ls ms w.faultless).1;
        rising = rises_later 0 ls ms w.rising;
      }
