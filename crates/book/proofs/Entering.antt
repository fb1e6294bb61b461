-- The checks of a line, and the answer that each leads to.
use Rattle.std.proofs.Common.{◌≡◌, ℕ, ◌<◌, Bool, true, false, cond, not, ◌&&◌, eqb, leb, ltb, List, [], ◌∷◌, length, is_some, Some, Ok, Err, Result, sym, refl, ap, ◌∙◌}
use Rattle.std.proofs.lemmas.Bool.{cond-true, cond-false, not_from_true, not_from_false, lt-ltb, le-ltb}
use Rattle.quantities.specs.declared.refusal.Refusal.{Refusal}
use Rattle.quantities.specs.declared.refusal.Refusal.TheVariants.{Full}
use Rattle.quantities.specs.Ranges.{most_cash, most_titles, highest_reference}
use Rattle.quantities.specs.Isins.{is_isin}
use Rattle.register.specs.Changes.{Inserts}
use Rattle.register.specs.Keys.{has_rank, found_by, inserted_by}
use Rattle.account.specs.declared.line.Line.{Line}
use Rattle.account.specs.declared.call.Call.TheVariants.{Enter}
use Rattle.account.specs.Calls.{accepted, refused, answer_of_enter, line_rank, lines_after}
use Rattle.account.specs.Lines.{block_name}
use Rattle.account.specs.Answers.{has_titles, is_well_formed, is_well_dated, titles_with, enter_answer}
use Rattle.book.specs.LineChecks.{IsAdmissible, parts_fit}

-- ---- a search tells whether a reference stands
pub found_is : (f : Line → ℕ) (k : ℕ) (ls : List Line) → is_some (found_by f k ls) ≡ has_rank f k ls
found_is f k [] = refl
found_is f k (l ∷ ls) = go (eqb (f l) k) (found_is f k ls)
  where
    go : (b : Bool) → is_some (found_by f k ls) ≡ has_rank f k ls → is_some (cond b (Some l) (found_by f k ls)) ≡ cond b true (has_rank f k ls)
    go true e = refl
    go false e = e

-- ---- a line's form is that of its ISIN and of its other parts
module _ (l : Line) where
  by_parts : (a b c : Bool) → (a && (b && c)) ≡ (b && (a && c))
  by_parts true true c = refl
  by_parts true false c = refl
  by_parts false true c = refl
  by_parts false false c = refl

  parts_and_isin : is_well_formed l ≡ (is_isin l.isin.bytes && parts_fit l)
  parts_and_isin = by_parts (leb 1 l.reference && leb l.reference highest_reference) (is_isin l.isin.bytes) (has_titles (block_name l.block) l.titles && leb l.cash most_cash)

  pub well_formed : parts_fit l ≡ true → is_isin l.isin.bytes ≡ true → is_well_formed l ≡ true
  well_formed p i = parts_and_isin ∙ rw (i, p) refl

  pub misfit : parts_fit l ≡ false → is_well_formed l ≡ false
  misfit p = parts_and_isin ∙ rw p (go (is_isin l.isin.bytes))
    where
      go : (b : Bool) → (b && false) ≡ false
      go true = refl
      go false = refl

  pub no_isin : is_isin l.isin.bytes ≡ false → is_well_formed l ≡ false
  no_isin i = parts_and_isin ∙ rw i refl

-- ---- the answer, check by check
module _ (today room : ℕ) (ls : List Line) (l : Line) where
  pub ill_formed : is_well_formed l ≡ false → refused 4 l.reference ≡ enter_answer today room ls l
  ill_formed f = sym (cond-true (not (is_well_formed l)) _ _ (not_from_false (is_well_formed l) f))

  pub present : is_well_formed l ≡ true → has_rank line_rank l.reference ls ≡ true → refused 6 l.reference ≡ enter_answer today room ls l
  present f h = sym (cond-false (not (is_well_formed l)) _ _ (not_from_true (is_well_formed l) f) ∙ cond-true (has_rank line_rank l.reference ls) _ _ h)

  pub ill_dated : is_well_formed l ≡ true → has_rank line_rank l.reference ls ≡ false → is_well_dated today l.block ≡ false → refused 7 l.reference ≡ enter_answer today room ls l
  ill_dated f h d =
      sym (cond-false (not (is_well_formed l)) _ _ (not_from_true (is_well_formed l) f) ∙ cond-false (has_rank line_rank l.reference ls) _ _ h
      ∙ cond-true (not (is_well_dated today l.block)) _ _ (not_from_false (is_well_dated today l.block) d))

  pub too_many : is_well_formed l ≡ true → has_rank line_rank l.reference ls ≡ false → is_well_dated today l.block ≡ true → most_titles < titles_with l ls → refused 8 l.reference ≡ enter_answer today room ls l
  too_many f h d t =
      sym (cond-false (not (is_well_formed l)) _ _ (not_from_true (is_well_formed l) f) ∙ cond-false (has_rank line_rank l.reference ls) _ _ h
      ∙ cond-false (not (is_well_dated today l.block)) _ _ (not_from_true (is_well_dated today l.block) d)
      ∙ cond-true (ltb most_titles (titles_with l ls)) _ _ (lt-ltb most_titles (titles_with l ls) t))

  -- a line that is admitted only wants a place
  pub admitted : IsAdmissible today ls l → enter_answer today room ls l ≡ cond (ltb (length ls) room) accepted (refused 9 l.reference)
  admitted a =
      cond-false (not (is_well_formed l)) _ _ (not_from_true (is_well_formed l) a.formed) ∙ cond-false (has_rank line_rank l.reference ls) _ _ a.new
      ∙ cond-false (not (is_well_dated today l.block)) _ _ (not_from_true (is_well_dated today l.block) a.dated)
      ∙ cond-false (ltb most_titles (titles_with l ls)) _ _ (le-ltb most_titles (titles_with l ls) a.titles)

-- ---- a line that is admitted stands, if there is a place
module _ (today room : ℕ) (l : Line) (ls after : List Line) (answer : Result (Unit {0}) Refusal) (a : IsAdmissible today ls l) (i : Inserts line_rank room l ls answer after) where
  entered : (answer_of_enter l answer ≡ enter_answer today room ls l) × (after ≡ lines_after (Enter l) (answer_of_enter l answer) ls)
  entered =
      let e = go (ltb (length ls) room) (i.answers ∙ cond-false (has_rank line_rank l.reference ls) _ _ a.new) (i.leaves ∙ cond-false (has_rank line_rank l.reference ls) _ _ a.new) in
      (e.0 ∙ sym (admitted today room ls l a), e.1)
    where
      go : (t : Bool) → answer ≡ cond t (Ok tt) (Err Full) → after ≡ cond t (inserted_by line_rank l ls) ls →
          (answer_of_enter l answer ≡ cond t accepted (refused 9 l.reference)) × (after ≡ lines_after (Enter l) (answer_of_enter l answer) ls)
      go true e z = (ap (answer_of_enter l) e, z ∙ sym (ap (λ r. lines_after (Enter l) (answer_of_enter l r) ls) e))
      go false e z = (ap (answer_of_enter l) e, z ∙ sym (ap (λ r. lines_after (Enter l) (answer_of_enter l r) ls) e))

  pub enter_answers : answer_of_enter l answer ≡ enter_answer today room ls l
  enter_answers = entered.0

  pub enter_leaves : after ≡ lines_after (Enter l) (answer_of_enter l answer) ls
  enter_leaves = entered.1
