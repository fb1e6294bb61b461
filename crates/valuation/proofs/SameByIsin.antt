-- Lines by ISIN: what holds of them by reference holds of them so, and they have the same statement.
use Rattle.std.proofs.Common.{◌≡◌, ℕ, ◌≤◌, true, ◌&&◌, ltb, List, [], ◌∷◌, length, Ok, sym, refl, ap, ◌∙◌, subst, arith}
use Rattle.std.specs.List.{AllByRecursion as All}
use Rattle.std.proofs.lemmas.Bool.{and_parts, and_from, cond_both}
use Rattle.quantities.specs.declared.isin.Isin.{Isin}
use Rattle.quantities.specs.Ranges.{most_titles}
use Rattle.register.specs.Keys.{Ascends, inserted_by}
use Rattle.market.specs.Records.{isin_rank}
use Rattle.account.specs.declared.line.Line.{Line}
use Rattle.account.specs.declared.row.Row.{Row}
use Rattle.account.specs.ByIsin.{isin_line_rank, lines_by_isin, SmallReferences}
use Rattle.account.specs.Lines.{sum_of}
use Rattle.account.specs.declared.block_name.BlockName.{BlockName}
use Rattle.account.specs.Answers.{is_well_formed, is_well_dated, fault, titles_of}
use Rattle.account.specs.Calls.{line_rank}
use Rattle.account.specs.Settings.{Setting}
use Rattle.account.specs.Valid.{all_valid}
use Rattle.account.proofs.ByIsin.{taken_small, by_isin_long, all_by_isin, by_isin_law}
use Rattle.account.proofs.Formed.{taken_bytes}
use Rattle.account.proofs.SameRows.{of_kept, rows_same, margin_same, rounded_same}
use Rattle.account.proofs.Sorted.{Rises as RankRises, rises}
use Rattle.valuation.specs.declared.stated_margin.StatedMargin.{StatedMargin}
use Rattle.valuation.specs.Checks.{Faultless}
use Rattle.valuation.specs.Statements.{StatesMargin, States}
use Rattle.valuation.specs.Tallies.{places_with_rows}
use Rattle.valuation.specs.IsinOrder.{Rises}
use Rattle.valuation.proofs.Faults.{states}
use Rattle.valuation.proofs.Parts.{Workable}

-- ---- each line
each_of_taken : (today : ℕ) (ls : List Line) → all_valid today ls ≡ true → All (λ l. (is_well_formed l && is_well_dated today l.block) ≡ true) ls
each_of_taken today [] t = tt
each_of_taken today (l ∷ ls) t = let p = and_parts (is_well_formed l && is_well_dated today l.block) (all_valid today ls) t in (p.0, each_of_taken today ls p.1)

taken_of_each : (today : ℕ) (ls : List Line) → All (λ l. (is_well_formed l && is_well_dated today l.block) ≡ true) ls → all_valid today ls ≡ true
taken_of_each today [] a = refl
taken_of_each today (l ∷ ls) a = and_from (is_well_formed l && is_well_dated today l.block) (all_valid today ls) a.0 (taken_of_each today ls a.1)

each_of_faultless : (s : Setting) (ls : List Line) → Faultless s ls → All (λ l. fault s l ≡ 0) ls
each_of_faultless s [] f = tt
each_of_faultless s (l ∷ ls) f = (f.0, each_of_faultless s ls f.1)

faultless_of_each : (s : Setting) (ls : List Line) → All (λ l. fault s l ≡ 0) ls → Faultless s ls
faultless_of_each s [] a = tt
faultless_of_each s (l ∷ ls) a = (a.0, faultless_of_each s ls a.1)

all_before : (P : Line → Type 0) (l : Line) (ls : List Line) → All P (inserted_by isin_line_rank l ls) → P l × All P ls
all_before P l [] a = (a.0, tt)
all_before P l (x ∷ xs) a =
    cond_both (ltb (isin_line_rank l) (isin_line_rank x)) (l ∷ (x ∷ xs)) (x ∷ inserted_by isin_line_rank l xs) (λ ks. All P ks → P l × All P (x ∷ xs)) (λ _ b. (b.0, b.1))
    (λ _ b. let q = all_before P l xs b.1 in (q.0, (b.0, q.1))) a

-- lines that have no fault by ISIN have none by reference
pub faultless_before : (s : Setting) (ls : List Line) → Faultless s (lines_by_isin ls) → Faultless s ls
faultless_before s ls f = faultless_of_each s ls (go ls (each_of_faultless s (lines_by_isin ls) f))
  where
    go : (ks : List Line) → All (λ l. fault s l ≡ 0) (lines_by_isin ks) → All (λ l. fault s l ≡ 0) ks
    go [] a = tt
    go (k ∷ ks) a = let q = all_before (λ l. fault s l ≡ 0) k (lines_by_isin ks) a in (q.0, go ks q.1)

-- ---- their order
rising_after : (x : Line) (xs : List Line) → RankRises isin_line_rank (x ∷ xs) → SmallReferences (x ∷ xs) → Rises (isin_rank x.isin) xs
rising_after x [] r s = tt
rising_after x (y ∷ ys) r s = (omega (arith, r.0.0, s.0, s.1.0), rising_after y ys r.1 s.1)

rising : (xs : List Line) → RankRises isin_line_rank xs → SmallReferences xs → Rises 0 xs
rising [] r s = tt
rising (x ∷ xs) r s = (omega arith, rising_after x xs r s)

module _ (s : Setting) (ls : List Line) (xs : List Line) (same : xs ≡ lines_by_isin ls) (up : Ascends line_rank ls) (taken : all_valid s.today ls ≡ true) where
  taken_too : all_valid s.today xs ≡ true
  taken_too = ap (all_valid s.today) same ∙ taken_of_each s.today (lines_by_isin ls) (all_by_isin (λ l. (is_well_formed l && is_well_dated s.today l.block) ≡ true) ls (each_of_taken s.today ls taken))

  sorted : Ascends isin_line_rank xs
  sorted = subst (Ascends isin_line_rank) (sym same) (by_isin_law ls up (taken_small s.today ls taken)).rises

  pub workable : length ls ≤ 65535 → ((i : Isin) (k : BlockName) → titles_of i k ls ≤ most_titles) → Faultless s ls → Workable s xs
  workable few titles faultless =
      record {
        few = omega (arith, ap length same, by_isin_long ls);
        taken = taken_too;
        titles = λ i k. omega (arith, ap (titles_of i k) same, ap (sum_of (λ (l : Line). l.titles)) (of_kept i k ls up), titles i k);
        faultless = subst (Faultless s) (sym same) (faultless_of_each s (lines_by_isin ls) (all_by_isin (λ l. fault s l ≡ 0) ls (each_of_faultless s ls faultless)));
        rising = rising xs (rises isin_line_rank xs sorted) (taken_small s.today xs taken_too);
      }

  stated_same : {before after : List Row} {r : StatedMargin} → StatesMargin s xs before after r → StatesMargin s ls before after r
  stated_same {before} {after} {r} m =
      let n : StatesMargin s (lines_by_isin ls) before after r = subst (λ ks. StatesMargin s ks before after r) same m in
      let twelve = taken_bytes s.today ls taken in
      let rows = rows_same ls up twelve s in
      record {
        cents = n.cents ∙ margin_same ls up twelve s;
        rounded = n.rounded ∙ rounded_same ls up twelve;
        count = n.count ∙ ap length rows;
        places = n.places ∙ ap (λ rs. places_with_rows 0 rs before) rows;
      }

  pub states_same : {t : Setting} {ys : List Line} {before after : List Row} {r : StatedMargin} → t ≡ s → ys ≡ xs → Faultless s ls → StatesMargin t ys before after r → States s ls before after (Ok r)
  states_same {t} {ys} {before} {after} {r} e d f m =
      states f (stated_same (subst (λ u. StatesMargin u xs before after r) e (subst (λ zs. StatesMargin t zs before after r) d m)))
