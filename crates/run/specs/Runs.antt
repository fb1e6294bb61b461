-- A run: five sheets in, a statement or a refusal out.
use Rattle.std.specs.Prelude.{ℕ, ◌-◌, Bool, if◌then◌else◌, List, [], length, Option, Some, None, Ok, Err, ℤ, ◌==◌, ◌&&◌, nat_lt}
use Rattle.quantities.specs.Refusals.{number}
use Rattle.quantities.specs.declared.refusal.Refusal.TheVariants.{Trailer, TooLong}
use Rattle.netting.specs.Rules.{net, gross}
use Rattle.register.specs.Contents.{Table}
use Rattle.curve.specs.declared.point.Point.{Point}
use Rattle.curve.specs.Points.{reach_of, step_rate, sloping_rate}
use Rattle.market.specs.Contents.{Quotes}
use Rattle.account.specs.declared.line.Line.{Line}
use Rattle.account.specs.declared.row.Row.{Row}
use Rattle.account.specs.Settings.{Setting}
use Rattle.account.specs.Rows.{statement_rows}
use Rattle.account.specs.Calls.{Answer, accepted, refused, given}
use Rattle.account.specs.Answers.{margin_answer}
use Rattle.text.specs.Lines.{lines, loose}
use Rattle.sheet.specs.Sheets.{Rest}
use Rattle.statement.specs.Statements.{statement_text}
use Rattle.valuation.specs.Setups.{setting_with}
use Rattle.rows.specs.declared.day.DayRow.{DayRow}
use Rattle.rows.specs.declared.mode.Mode.{Mode}
use Rattle.rows.specs.declared.mode.Mode.TheVariants.{Net, Gross}
use Rattle.rows.specs.declared.curve_shape.CurveShape.{CurveShape}
use Rattle.rows.specs.declared.curve_shape.CurveShape.TheVariants.{Step, Sloping}
use Rattle.rows.specs.Days.{days}
use Rattle.rows.specs.Percentages.{percentages}
use Rattle.rows.specs.Points.{points}
use Rattle.rows.specs.Prices.{prices}
use Rattle.rows.specs.Positions.{positions}
use Rattle.run.specs.Refusals.{Outcome, refusal_of_run, refusal_of_sheet, refusal_of_margin}
use Rattle.run.specs.KeptSheets.{KeptSheet, kept_sheet}
use Rattle.run.specs.Kept.{keep_day, keep_percentage, keep_point, keep_price, DayLines, keep_line}

-- what a run holds at most
abbrev pub most_bytes : ℕ
most_bytes = 65536

abbrev pub most_prices : ℕ
most_prices = 256

abbrev pub most_points : ℕ
most_points = 64

abbrev pub most_lines : ℕ
most_lines = 1024

-- one outcome after another
abbrev pub and_then : {X Y : Type 0} → Outcome X → (X → Outcome Y) → Outcome Y
and_then (Ok x) f = f x
and_then (Err e) f = Err e

-- the whole input
abbrev pub input : List ℕ → Rest
input bytes = record { lines = lines bytes; loose = loose bytes; line = 1 }

abbrev pub netting_rule : Mode → ℕ → ℕ → ℕ
netting_rule Net = net
netting_rule Gross = gross

abbrev pub rate_by_shape : CurveShape → List Point → ℕ → ℤ
rate_by_shape Step = step_rate
rate_by_shape Sloping = sloping_rate

-- a day without prices and percentages
abbrev pub quotes_of_day : DayRow → Quotes
quotes_of_day d =
    record { today = d.today; next = d.next; prices = []; percentages = []; room = most_prices }

abbrev pub no_points : Table Point
no_points = record { records = []; room = most_points }

abbrev pub no_lines : DayRow → DayLines
no_lines d = record { today = d.today; room = most_lines; standing = [] }

-- what the five sheets hold: what the margin is worked on, and the lines
pub record Account : Type 0 where
  pub setting : Setting
  pub standing : List Line

-- by a day, its prices and percentages, and the points of its curve
abbrev pub setting_of_day : DayRow → Quotes → List Point → Setting
setting_of_day d q ps =
    setting_with (reach_of ps) (rate_by_shape d.curve ps) (netting_rule d.mode) q

abbrev pub account_of_day : DayRow → Quotes → List Point → List Line → Account
account_of_day d q ps ls = record { setting = setting_of_day d q ps; standing = ls }

-- the answer to a margin that is asked of an account, and the rows of its statement
abbrev pub account_answer : Account → Answer
account_answer account = margin_answer account.setting account.standing

abbrev pub account_rows : Account → List Row
account_rows account = statement_rows account.setting account.standing

-- whether no byte is left
abbrev pub nothing_left : Rest → Bool
nothing_left left = length left.lines == 0 && length left.loose == 0

-- a day's sheet that has not just one row is refused at its trailer
abbrev pub no_day : KeptSheet (Option DayRow) → Outcome DayRow
no_day sheet = Err (refusal_of_sheet (number Trailer) (sheet.left.line - 1) 0)

abbrev pub day_among : KeptSheet (Option DayRow) → Option DayRow → Outcome DayRow
day_among sheet (Some day) = if sheet.rows == 1 then Ok day else no_day sheet
day_among sheet None = no_day sheet

-- the day, where its sheet has just one row
abbrev pub one_day : KeptSheet (Option DayRow) → Outcome DayRow
one_day sheet = day_among sheet sheet.kept

-- the account, where nothing is left behind the positions
abbrev pub whole_account : DayRow → Quotes → List Point → KeptSheet DayLines → Outcome Account
whole_account day quotes points positions =
    if nothing_left positions.left
    then Ok (account_of_day day quotes points positions.kept.standing)
    else Err (refusal_of_sheet (number Trailer) positions.left.line 0)

-- the account of five sheets, which stand one after another
abbrev pub account_of_sheets : List ℕ → Outcome Account
account_of_sheets bytes =
    and_then (kept_sheet days keep_day None (input bytes)) (λ sheet.
    and_then (one_day sheet) (λ day.
    and_then (kept_sheet percentages keep_percentage (quotes_of_day day) sheet.left) (λ par.
    and_then (kept_sheet points keep_point no_points par.left) (λ crv.
    and_then (kept_sheet prices keep_price par.kept crv.left) (λ prc.
    and_then (kept_sheet positions keep_line (no_lines day) prc.left)
    (whole_account day prc.kept crv.kept.records))))))

-- a text, where the buffer is not too short for it
abbrev pub text_in_buffer : ℕ → List ℕ → Outcome (List ℕ)
text_in_buffer buffer text =
    if nat_lt buffer (length text) then Err (refusal_of_run (number TooLong)) else Ok text

-- the statement of an account, by the answer to its margin
abbrev pub outcome_by_answer : ℕ → Account → Answer → Outcome (List ℕ)
outcome_by_answer buffer account accepted = Ok []
outcome_by_answer buffer account (refused n reference) = Err (refusal_of_margin n reference)
outcome_by_answer buffer account (given m k) =
    text_in_buffer buffer (statement_text (account_rows account) m k)

-- the statement of an account, for a buffer of so many bytes
abbrev pub account_outcome : ℕ → Account → Outcome (List ℕ)
account_outcome buffer account = outcome_by_answer buffer account (account_answer account)

-- what the sheets of a run come to, with a buffer of that length for the statement
abbrev pub sheets_outcome : List ℕ → ℕ → Outcome (List ℕ)
sheets_outcome bytes buffer = and_then (account_of_sheets bytes) (account_outcome buffer)

-- a run of those bytes: more than it may have are refused before anything is read
abbrev pub run : List ℕ → ℕ → Outcome (List ℕ)
run bytes buffer =
    if nat_lt most_bytes (length bytes) then Err (refusal_of_run (number TooLong))
    else sheets_outcome bytes buffer
