-- A reference that is withdrawn: the line that stands under it goes, and nothing else.
use Rattle.std.proofs.Common.{◌≡◌, ℕ, Bool, true, false, cond, eqb, List, [], ◌∷◌, is_some, Some, None, Option, Result, sym, refl, ap, ◌∙◌}
use Rattle.std.specs.Option.{ok_or}
use Rattle.std.specs.Result.{result_ok}
use Rattle.std.proofs.lemmas.Bool.{false≢true, cond-false, ne_eqb}
use Rattle.quantities.specs.declared.refusal.Refusal.{Refusal}
use Rattle.quantities.specs.declared.refusal.Refusal.TheVariants.{NotStanding}
use Rattle.register.specs.Changes.{Removes}
use Rattle.register.specs.Keys.{has_rank, found_by, without}
use Rattle.account.specs.declared.line.Line.{Line}
use Rattle.account.specs.declared.call.Call.TheVariants.{Withdraw}
use Rattle.account.specs.Calls.{accepted, refused, answer_of_withdraw, line_rank, lines_after}
use Rattle.account.specs.Answers.{withdraw_answer}
use Rattle.book.proofs.Entering.{found_is}

without_absent : (r : ℕ) (ls : List Line) → has_rank line_rank r ls ≡ false → without line_rank r ls ≡ ls
without_absent r [] h = refl
without_absent r (l ∷ ls) h = go (eqb l.reference r) h (without_absent r ls)
  where
    go : (b : Bool) → cond b true (has_rank line_rank r ls) ≡ false → (has_rank line_rank r ls ≡ false → without line_rank r ls ≡ ls) → cond b (without line_rank r ls) (l ∷ without line_rank r ls) ≡ l ∷ ls
    go true h e = absurd (false≢true (sym h))
    go false h e = ap (λ ms. l ∷ ms) (e h)

module _ (r : ℕ) (ls after : List Line) (answer : Result Line Refusal) (some : r ≡ 0 → ⊥) (removes : Removes line_rank r ls answer after) where
  zero_not : eqb r 0 ≡ false
  zero_not = ne_eqb r 0 some

  went : (answer_of_withdraw r answer ≡ cond (has_rank line_rank r ls) accepted (refused 13 r)) × (after ≡ lines_after (Withdraw r) (answer_of_withdraw r answer) ls)
  went = go (found_by line_rank r ls) (found_is line_rank r ls) removes.answers
    where
      go : (o : Option Line) → is_some o ≡ has_rank line_rank r ls → answer ≡ ok_or o NotStanding →
          (answer_of_withdraw r answer ≡ cond (has_rank line_rank r ls) accepted (refused 13 r)) × (after ≡ lines_after (Withdraw r) (answer_of_withdraw r answer) ls)
      go None h e = (
        ap (answer_of_withdraw r) e ∙ ap (λ b. cond b accepted (refused 13 r)) h,
        removes.leaves ∙ without_absent r ls (sym h) ∙ sym (ap (λ a. lines_after (Withdraw r) (answer_of_withdraw r a) ls) e),
      )
      go (Some l) h e =
          (ap (answer_of_withdraw r) e ∙ ap (λ b. cond b accepted (refused 13 r)) h, removes.leaves ∙ sym (ap (λ a. lines_after (Withdraw r) (answer_of_withdraw r a) ls) e))

  pub withdraw_answers : answer_of_withdraw r answer ≡ withdraw_answer ls r
  withdraw_answers = went.0 ∙ sym (cond-false (eqb r 0) _ _ zero_not)

  pub withdraw_leaves : after ≡ lines_after (Withdraw r) (answer_of_withdraw r answer) ls
  withdraw_leaves = went.1

  pub withdraw_line : result_ok answer ≡ cond (eqb r 0) None (found_by line_rank r ls)
  withdraw_line = ap result_ok removes.answers ∙ go (found_by line_rank r ls) ∙ sym (cond-false (eqb r 0) None (found_by line_rank r ls) zero_not)
    where
      go : (o : Option Line) → result_ok (ok_or o NotStanding) ≡ o
      go None = refl
      go (Some l) = refl
