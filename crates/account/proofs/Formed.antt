-- The parts of a line that has its form.
use Rattle.std.proofs.Common.{◌≡◌, ℕ, zero, suc, ◌-◌, ◌%◌, ◌<◌, ◌≤◌, Bool, true, false, ◌&&◌, eqb, leb, List, [], ◌∷◌, length, get_or, take, drop, refl, ap, ◌∙◌, subst, ⊎_elim, arith}
use Rattle.std.proofs.lemmas.List.{length-take, length-drop, get_or-take, get_or-drop}
use Rattle.std.proofs.lemmas.Bool.{false≢true, and_parts, or_cases, or_left, or_right, leb-true, eqb-true, cases_lt}
use Rattle.std.specs.List.{list_all}
use Rattle.quantities.specs.Isins.{is_letter, is_digit, is_letter_or_digit, isin_shaped, check_sum, is_isin}
use Rattle.quantities.specs.Ranges.{most_cash, most_titles, highest_reference}
use Rattle.register.specs.Bytes.{Bytes}
use Rattle.account.specs.declared.line.Line.{Line}
use Rattle.account.specs.Lines.{block_name, TwelveBytes}
use Rattle.account.specs.declared.block_name.BlockName.{BlockName}
use Rattle.account.specs.declared.block_name.BlockName.TheVariants.{Trade as trade, Failed as failed, Held as held, CashOnly as cash_only}
use Rattle.account.specs.Answers.{has_titles, is_well_formed, is_well_dated}
use Rattle.account.specs.Valid.{all_valid}

pub record Formed (l : Line) : Type 0 where
  pub isin : is_isin l.isin.bytes ≡ true
  pub titles : has_titles (block_name l.block) l.titles ≡ true
  pub cash : l.cash ≤ most_cash

pub formed_parts : (l : Line) → is_well_formed l ≡ true → Formed l
formed_parts l h =
    let p = go (leb 1 l.reference && leb l.reference highest_reference) (is_isin l.isin.bytes) (has_titles (block_name l.block) l.titles) (leb l.cash most_cash) h in
    record { isin = p.0; titles = p.1; cash = leb-true l.cash most_cash p.2 }
  where
    go : (a b c d : Bool) → (a && (b && (c && d))) ≡ true → (b ≡ true) × (c ≡ true) × (d ≡ true)
    go true true true d h = (refl, refl, h)
    go true true false d h = absurd (false≢true h)
    go true false c d h = absurd (false≢true h)
    go false b c d h = absurd (false≢true h)

pub formed_titles : (l : Line) → is_well_formed l ≡ true → l.titles ≤ most_titles
formed_titles l f = go (block_name l.block) (formed_parts l f).titles
  where
    go : (k : BlockName) → has_titles k l.titles ≡ true → l.titles ≤ most_titles
    go trade h = leb-true l.titles most_titles (and_parts (leb 1 l.titles) (leb l.titles most_titles) h).1
    go failed h = leb-true l.titles most_titles (and_parts (leb 1 l.titles) (leb l.titles most_titles) h).1
    go held h = leb-true l.titles most_titles (and_parts (leb 1 l.titles) (leb l.titles most_titles) h).1
    go cash_only h = omega (arith, eqb-true l.titles 0 h)

-- ---- an ISIN is twelve bytes
all_at : (p : ℕ → Bool) (bs : List ℕ) → list_all p bs ≡ true → (i : ℕ) → i < length bs → p (get_or bs i 0) ≡ true
all_at p [] h i l = absurd (omega arith)
all_at p (b ∷ bs) h zero l = (and_parts (p b) (list_all p bs) h).0
all_at p (b ∷ bs) h (suc i) l = all_at p bs (and_parts (p b) (list_all p bs) h).1 i (omega arith)

small : (b : ℕ) → is_letter_or_digit b ≡ true → b < 256
small b h =
    ⊎_elim (λ e. omega (arith, leb-true b 90 (and_parts (leb 65 b) (leb b 90) e).1)) (λ e. omega (arith, leb-true b 57 (and_parts (leb 48 b) (leb b 57) e).1))
    (or_cases (is_letter b) (is_digit b) h)

pub isin_bytes : (bs : List ℕ) → is_isin bs ≡ true → Bytes 12 bs
isin_bytes bs h =
    let s = (and_parts (isin_shaped bs) (eqb (check_sum bs % 10) 0) h).0 in
    let a = and_parts (eqb (length bs) 12) (list_all is_letter (take 2 bs) && (list_all is_letter_or_digit (take 9 (drop 2 bs)) && list_all is_digit (take 1 (drop 11 bs)))) s in
    let b = and_parts (list_all is_letter (take 2 bs)) (list_all is_letter_or_digit (take 9 (drop 2 bs)) && list_all is_digit (take 1 (drop 11 bs))) a.1 in
    let c = and_parts (list_all is_letter_or_digit (take 9 (drop 2 bs))) (list_all is_digit (take 1 (drop 11 bs))) b.1 in
    let n : length bs ≡ 12 = eqb-true (length bs) 12 a.0 in
    record {
      many = n;
      small = λ i l. ⊎_elim
          (λ (e : i < 2). subst (λ x. x < 256) (get_or-take 2 bs i 0 e)
          (small _ (or_left _ (is_digit (get_or (take 2 bs) i 0)) (all_at is_letter (take 2 bs) b.0 i (simp length-take (omega arith))))))
          (λ (e : 2 ≤ i). ⊎_elim
          (λ (f : i < 11). subst (λ x. x < 256) (get_or-take 9 (drop 2 bs) (i - 2) 0 (omega arith) ∙ get_or-drop 2 bs (i - 2) 0 ∙ ap (λ (k : ℕ). get_or bs k 0) (omega arith))
          (small _ (all_at is_letter_or_digit (take 9 (drop 2 bs)) c.0 (i - 2) (simp (length-take, length-drop) (omega arith)))))
          (λ (f : 11 ≤ i). subst (λ x. x < 256) (get_or-take 1 (drop 11 bs) (i - 11) 0 (omega arith) ∙ get_or-drop 11 bs (i - 11) 0 ∙ ap (λ (k : ℕ). get_or bs k 0) (omega arith))
          (small _ (or_right (is_letter (get_or (take 1 (drop 11 bs)) (i - 11) 0)) _ (all_at is_digit (take 1 (drop 11 bs)) c.1 (i - 11) (simp (length-take, length-drop) (omega arith))))))
          (cases_lt i 11))
          (cases_lt i 2);
    }

pub formed_bytes : (l : Line) → is_well_formed l ≡ true → Bytes 12 l.isin.bytes
formed_bytes l h = isin_bytes l.isin.bytes (formed_parts l h).isin

-- ---- lines that a book has taken
pub taken_bytes : (today : ℕ) (ls : List Line) → all_valid today ls ≡ true → TwelveBytes ls
taken_bytes today [] t = tt
taken_bytes today (l ∷ ls) t =
    let p = and_parts (is_well_formed l && is_well_dated today l.block) (all_valid today ls) t in
    (formed_bytes l (and_parts (is_well_formed l) (is_well_dated today l.block) p.0).0, taken_bytes today ls p.1)
