-- The check of lines, turn by turn.
use Rattle.std.proofs.Common.{◌≡◌, ℕ, List, [], ◌∷◌, drop, false, subst, Ok, Err, Result, sym, refl, ◌∙◌, ap₂}
use Rattle.std.specs.Result.{is_err}
use Rattle.std.proofs.lemmas.Bool.{cond-true, eq-eqb}
use Rattle.quantities.specs.declared.refusal.Refusal.{Refusal}
use Rattle.account.specs.declared.line.Line.{Line}
use Rattle.account.specs.declared.line_refusal.LineRefusal.{LineRefusal}
use Rattle.account.specs.Settings.{Setting}
use Rattle.account.specs.Margin.{margin, rounded_amounts}
use Rattle.account.specs.Calls.{given}
use Rattle.account.specs.Answers.{fault, answer_among}
use Rattle.account.specs.declared.row.Row.{Row}
use Rattle.valuation.specs.declared.stated_margin.StatedMargin.{StatedMargin}
use Rattle.valuation.specs.Statements.{StatesMargin, States}
use Rattle.valuation.specs.Checks.{number_or_zero, Faultless, FindsFirstFault}

-- ---- line by line
-- what a check says of the lines from k on, it says of all
pub record Clear (s : Setting) (ls : List Line) (k : ℕ) : Type 0 where
  pub rest : (r : Result (Unit {0}) LineRefusal) → FindsFirstFault s (drop k ls) r → FindsFirstFault s ls r

pub clear_more : (s : Setting) {rest next : List Line} {l : Line} → rest ≡ l ∷ next → fault s l ≡ 0 → Faultless s next → Faultless s rest
clear_more s h e f = subst (Faultless s) (sym h) (e, f)

pub no_fault : (r : Result (Unit {0}) Refusal) {n : ℕ} → false ≡ is_err r → number_or_zero r ≡ n → n ≡ 0
no_fault (Ok x) e d = sym d
no_fault (Err w) e d = cc

-- ---- where no line has a fault, the margin is given
clear_given : (s : Setting) (all ls : List Line) → Faultless s ls → answer_among s all ls ≡ given (margin s all) (rounded_amounts all)
clear_given s all [] h = refl
clear_given s all (l ∷ ls) h = cond-true _ _ _ (eq-eqb (fault s l) 0 h.0) ∙ clear_given s all ls h.1

-- so the margin that is stated is the answer
pub states : {s : Setting} {ls : List Line} {before after : List Row} {r : StatedMargin} → Faultless s ls → StatesMargin s ls before after r → States s ls before after (Ok r)
states {s} {ls} f m = (ap₂ given m.cents m.rounded ∙ sym (clear_given s ls ls f), m.count, m.places)
