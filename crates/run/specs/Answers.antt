-- What a run answers, and what its buffer then holds.
use Rattle.std.specs.Prelude.{◌≡◌, ℕ, List, ◌++◌, length, drop, Ok, Err, Result}
use denote.Bor.{Bor}
use Rattle.quantities.specs.Refusals.{number}
use Rattle.account.specs.Calls.{given, refused}
use Rattle.account.specs.declared.line_refusal.LineRefusal.{LineRefusal}
use Rattle.account.specs.declared.margin.Margin.{Margin}
use Rattle.account.specs.declared.row.Row.{Row}
use Rattle.run.specs.declared.refusal.RunRefusal.{RunRefusal}
use Rattle.run.specs.Refusals.{Outcome, placed_refusal}
use Rattle.run.specs.Runs.{Account, account_answer, account_rows}

-- a text is written at the front of the buffer and its length answered, the bytes behind it stay;
-- a refusal leaves the buffer as it was
abbrev pub WritesText : Outcome (List ℕ) → Result ℕ RunRefusal → List ℕ → List ℕ → Type 0
WritesText (Ok text) (Ok n) before after =
    (n ≡ length text) × (after ≡ text ++ drop (length text) before)
WritesText (Ok text) (Err e) before after = ⊥
WritesText (Err r) (Ok n) before after = ⊥
WritesText (Err r) (Err e) before after = (placed_refusal e ≡ r) × (after ≡ before)

-- the margin of an account and the rows of its statement, or why it has none
abbrev pub StatesAccount : Account → Result (Margin × Bor (List Row)) LineRefusal → Type 0
StatesAccount account (Ok r) =
    (account_answer account ≡ given r.0.cents r.0.rounded_amounts)
    × (r.1.now ≡ account_rows account)
StatesAccount account (Err e) = account_answer account ≡ refused (number e.refusal) e.reference
