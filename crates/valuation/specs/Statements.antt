-- The statement of a margin.
use Rattle.std.specs.Prelude.{◌≡◌, List, length, Ok, Err, Result}
use Rattle.quantities.specs.Refusals.{number}
use Rattle.account.specs.declared.line.Line.{Line}
use Rattle.account.specs.declared.row.Row.{Row}
use Rattle.account.specs.declared.line_refusal.LineRefusal.{LineRefusal}
use Rattle.account.specs.Settings.{Setting}
use Rattle.account.specs.Rows.{statement_rows}
use Rattle.account.specs.Margin.{margin, rounded_amounts}
use Rattle.account.specs.Calls.{refused, given}
use Rattle.account.specs.Answers.{margin_answer}
use Rattle.valuation.specs.declared.stated_margin.StatedMargin.{StatedMargin}
use Rattle.valuation.specs.Tallies.{places_with_rows}

-- the margin of lines, with the rows of its statement in the first places
pub record StatesMargin (s : Setting) (ls : List Line) (before after : List Row) (r : StatedMargin)
    : Type 0 where
  pub cents : r.margin.cents ≡ margin s ls
  pub rounded : r.margin.rounded_amounts ≡ rounded_amounts ls
  pub count : r.rows ≡ length (statement_rows s ls)
  pub places : after ≡ places_with_rows 0 (statement_rows s ls) before

-- what a portfolio states: its margin and rows, or the first fault, and then nothing is written
abbrev pub States
    : Setting → List Line → List Row → List Row → Result StatedMargin LineRefusal → Type 0
States s ls before after (Ok t) =
    (given t.margin.cents t.margin.rounded_amounts ≡ margin_answer s ls)
    × (t.rows ≡ length (statement_rows s ls))
    × (after ≡ places_with_rows 0 (statement_rows s ls) before)
States s ls before after (Err r) =
    (refused (number r.refusal) r.reference ≡ margin_answer s ls) × (after ≡ before)
