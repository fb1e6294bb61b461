-- The promise of a run.
use Rattle.std.specs.Prelude.{◌≡◌, ℕ, zero, suc, ◌+◌, ◌≤◌, ◌⊎◌, ◌≢◌, List, [], ◌∷◌, length, Some, Ok, Err}
use Rattle.quantities.specs.Refusals.{number}
use Rattle.quantities.specs.declared.refusal.Refusal.TheVariants.{Value, TooLong}
use Rattle.register.specs.Keys.{inserted_by}
use Rattle.curve.specs.declared.point.Point.{Point}
use Rattle.curve.specs.Points.{point_rank, reach_of}
use Rattle.market.specs.declared.percentage.Percentage.{Percentage}
use Rattle.market.specs.declared.price.Price.{Price}
use Rattle.market.specs.Records.{price_rank, percentage_rank}
use Rattle.account.specs.declared.line.Line.{Line}
use Rattle.account.specs.Calls.{given, line_rank}
use Rattle.account.specs.Margin.{margin, rounded_amounts}
use Rattle.account.specs.Exact.{exact_margin}
use Rattle.account.specs.Joint.{WithinCents}
use Rattle.text.specs.Lines.{lines}
use Rattle.sheet.specs.Kinds.{SheetKind}
use Rattle.sheet.specs.Sheets.{Rest, OpenSheet, open_answer, next_row, after_row}
use Rattle.sheet.specs.Written.{IsSheet}
use Rattle.statement.specs.Statements.{statement_text}
use Rattle.rows.specs.declared.day.DayRow.{DayRow}
use Rattle.rows.specs.Days.{days}
use Rattle.rows.specs.Percentages.{percentages}
use Rattle.rows.specs.Points.{points}
use Rattle.rows.specs.Prices.{prices}
use Rattle.rows.specs.Positions.{positions}
use Rattle.run.specs.Refusals.{PlacedRefusal, refusal_of_run}
use Rattle.run.specs.Runs.{input, netting_rule, rate_by_shape, Account, account_answer, account_rows, account_of_sheets, run}
use Rattle.run.specs.Spelled.{SheetsSpell}

-- the records before, with others put in by rank, one after another
abbrev pub records_with : {X : Type 0} → (X → ℕ) → List X → List X → List X
records_with rank before [] = before
records_with rank before (x ∷ xs) = records_with rank (inserted_by rank x before) xs

-- records by their ranks
abbrev pub records_by : {X : Type 0} → (X → ℕ) → List X → List X
records_by rank xs = records_with rank [] xs

-- no line is left, and no byte behind the last line feed
abbrev pub NothingStands : Rest → Type 0
NothingStands left = (left.lines ≡ []) × (left.loose ≡ [])

-- the rows of the five sheets, as they are written under the names of their columns,
-- and what is left behind each sheet
pub record DeliveredRows (bytes : List ℕ) : Type 0 where
  pub day : DayRow
  pub behind_day : Rest
  pub day_sheet : IsSheet days (input bytes) (day ∷ []) behind_day
  pub percentage_rows : List Percentage
  pub behind_percentages : Rest
  pub percentage_sheet : IsSheet percentages behind_day percentage_rows behind_percentages
  pub point_rows : List Point
  pub behind_points : Rest
  pub point_sheet : IsSheet points behind_percentages point_rows behind_points
  pub price_rows : List Price
  pub behind_prices : Rest
  pub price_sheet : IsSheet prices behind_points price_rows behind_prices
  pub lines : List Line
  pub behind_lines : Rest
  pub position_sheet : IsSheet positions behind_prices lines behind_lines
  pub nothing_behind : NothingStands behind_lines

-- what is loaded, by those rows
pub record LoadedFrom {bytes : List ℕ} (rows : DeliveredRows bytes) (account : Account) :
    Type 0 where
  pub today : account.setting.today ≡ rows.day.today
  pub next : account.setting.next ≡ rows.day.next
  pub rule : account.setting.charged ≡ netting_rule rows.day.mode
  pub percentages_are :
      account.setting.percentages ≡ records_by percentage_rank rows.percentage_rows
  pub reach : account.setting.reach ≡ reach_of (records_by point_rank rows.point_rows)
  pub rate :
      account.setting.rate ≡ rate_by_shape rows.day.curve (records_by point_rank rows.point_rows)
  pub prices_are : account.setting.prices ≡ records_by price_rank rows.price_rows
  pub standing : account.standing ≡ records_by line_rank rows.lines

-- what is loaded is what the rows of the five sheets say
abbrev pub RowsLaw : Type 0
RowsLaw =
    (bytes : List ℕ) (account : Account) → account_of_sheets bytes ≡ Ok account →
    (rows : DeliveredRows bytes) × LoadedFrom rows account

-- sheets that spell an account are read, and their rows say it: it is the only one that they spell
abbrev pub SpelledRowsLaw : Type 0
SpelledRowsLaw =
    (bytes : List ℕ) (account : Account) → SheetsSpell bytes account →
    (rows : DeliveredRows bytes) × LoadedFrom rows account

abbrev pub OneAccountLaw : Type 0
OneAccountLaw =
    (bytes : List ℕ) (account other : Account) →
    SheetsSpell bytes account → SheetsSpell bytes other → account ≡ other

-- a margin of what is loaded: it is that of the lines, never below their exact margin,
-- and above it by at most one cent for each rounded amount
pub record IsMarginOf (account : Account) (cents amounts : ℕ) : Type 0 where
  pub margin_is : cents ≡ margin account.setting account.standing
  pub amounts_are : amounts ≡ rounded_amounts account.standing
  pub within_cents : WithinCents (exact_margin account.setting account.standing) cents amounts

abbrev pub MarginLaw : Type 0
MarginLaw =
    (bytes : List ℕ) (account : Account) (cents amounts : ℕ) →
    account_of_sheets bytes ≡ Ok account → account_answer account ≡ given cents amounts →
    IsMarginOf account cents amounts

-- a statement says such a margin, and the rows that it is worked from
pub record IsStatementOf (bytes text : List ℕ) : Type 0 where
  pub account : Account
  pub account_is : account_of_sheets bytes ≡ Ok account
  pub cents : ℕ
  pub amounts : ℕ
  pub margin_is : IsMarginOf account cents amounts
  pub text_is : text ≡ statement_text (account_rows account) cents amounts

abbrev pub RunStatementLaw : Type 0
RunStatementLaw =
    (bytes : List ℕ) (buffer : ℕ) (text : List ℕ) → run bytes buffer ≡ Ok text →
    IsStatementOf bytes text

-- what is promised of a statement: it says a margin of what the rows of the five sheets say,
-- and which line of the input says what
pub record PromisedStatement (bytes text : List ℕ) : Type 0 where
  pub statement : IsStatementOf bytes text
  pub rows : DeliveredRows bytes
  pub from : LoadedFrom rows statement.account
  pub spelled : SheetsSpell bytes statement.account

-- a sheet that is being read, after so many of its rows
abbrev pub reading_after_rows : {Row : Type 0} → SheetKind Row → ℕ → OpenSheet → OpenSheet
reading_after_rows kind zero b = b
reading_after_rows kind (suc n) b = after_row kind (reading_after_rows kind n b)

-- a sheet that begins there is being read
pub record IsReadingOf {Row : Type 0} (kind : SheetKind Row) (left : Rest) (b : OpenSheet) :
    Type 0 where
  pub begun : OpenSheet
  pub begins : open_answer kind left ≡ Ok begun
  pub rows : ℕ
  pub is : b ≡ reading_after_rows kind rows begun

-- it has that row on that line
abbrev pub HasRow : {Row : Type 0} → SheetKind Row → Rest → ℕ → Row → Type 0
HasRow kind left line row =
    (b : OpenSheet)
    × (IsReadingOf kind left b × ((b.left.line ≡ line) × (next_row kind b ≡ Ok (Some row))))

-- where each of the five sheets begins: behind the one above it
abbrev pub StandsBehind : {Row : Type 0} → SheetKind Row → Rest → Rest → Type 0
StandsBehind {Row} kind above left =
    (rows : List Row) × IsSheet kind above rows left

abbrev pub DaySheetAt : List ℕ → Rest → Type 0
DaySheetAt bytes left = left ≡ input bytes

abbrev pub PercentageSheetAt : List ℕ → Rest → Type 0
PercentageSheetAt bytes left =
    (above : Rest) × (DaySheetAt bytes above × StandsBehind days above left)

abbrev pub PointSheetAt : List ℕ → Rest → Type 0
PointSheetAt bytes left =
    (above : Rest) × (PercentageSheetAt bytes above × StandsBehind percentages above left)

abbrev pub PriceSheetAt : List ℕ → Rest → Type 0
PriceSheetAt bytes left =
    (above : Rest) × (PointSheetAt bytes above × StandsBehind points above left)

abbrev pub PositionSheetAt : List ℕ → Rest → Type 0
PositionSheetAt bytes left =
    (above : Rest) × (PriceSheetAt bytes above × StandsBehind prices above left)

-- the sheet that begins there has that row on that line
abbrev pub SheetHasRow : {Row : Type 0} → SheetKind Row → (Rest → Type 0) → ℕ → Row → Type 0
SheetHasRow kind At line row = (left : Rest) × (At left × HasRow kind left line row)

-- a row on that line is one of the four sheets above the positions
abbrev pub HasRowAbovePositions : List ℕ → ℕ → Type 0
HasRowAbovePositions bytes line =
    ((row : DayRow) × SheetHasRow days (DaySheetAt bytes) line row)
    ⊎ (((row : Percentage) × SheetHasRow percentages (PercentageSheetAt bytes) line row)
    ⊎ (((row : Point) × SheetHasRow points (PointSheetAt bytes) line row)
    ⊎ ((row : Price) × SheetHasRow prices (PriceSheetAt bytes) line row)))

-- the reference of the row on a line: that of a position, 0 of any row above the positions
abbrev pub RowHasReference : List ℕ → ℕ → ℕ → Type 0
RowHasReference bytes line reference =
    ((l : Line)
    × (SheetHasRow positions (PositionSheetAt bytes) line l × (reference ≡ l.reference)))
    ⊎ (HasRowAbovePositions bytes line × (reference ≡ 0))

-- the input or the statement is too long
abbrev pub IsWholeRefusal : PlacedRefusal → Type 0
IsWholeRefusal e = e ≡ refusal_of_run (number TooLong)

-- a line of a sheet is not read: it is counted over the whole input,
-- and one that is missing is the one after the last;
-- a cell is named just where a value does not fit
pub record IsSheetRefusal (bytes : List ℕ) (e : PlacedRefusal) : Type 0 where
  pub layer : e.layer ≡ 1
  pub from_1 : 1 ≤ e.number
  pub to_5 : e.number ≤ 5
  pub line : 1 ≤ e.line
  pub within : e.line ≤ length (lines bytes) + 1
  pub cell : e.number ≢ number Value → e.cell ≡ 0
  pub value : e.number ≡ number Value → 1 ≤ e.cell
  pub reference : e.reference ≡ 0

-- a row on a line of the input is not taken
pub record IsBookRefusal (bytes : List ℕ) (e : PlacedRefusal) : Type 0 where
  pub layer : e.layer ≡ 2
  pub from_6 : 6 ≤ e.number
  pub to_9 : e.number ≤ 9
  pub line : 1 ≤ e.line
  pub within : e.line ≤ length (lines bytes)
  pub cell : e.cell ≡ 0
  pub reference : RowHasReference bytes e.line e.reference

-- a line has no margin, and is told by its reference alone
pub record IsMarginRefusal (e : PlacedRefusal) : Type 0 where
  pub layer : e.layer ≡ 3
  pub from_10 : 10 ≤ e.number
  pub to_12 : e.number ≤ 12
  pub line : e.line ≡ 0
  pub cell : e.cell ≡ 0

-- a refusal of those bytes is of one of four layers, with the numbers that the layer has
abbrev pub HasLayer : List ℕ → PlacedRefusal → Type 0
HasLayer bytes e =
    IsWholeRefusal e ⊎ (IsSheetRefusal bytes e ⊎ (IsBookRefusal bytes e ⊎ IsMarginRefusal e))

abbrev pub RefusalsLaw : Type 0
RefusalsLaw =
    (bytes : List ℕ) (buffer : ℕ) (e : PlacedRefusal) → run bytes buffer ≡ Err e → HasLayer bytes e
