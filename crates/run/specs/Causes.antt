-- The cause of each refusal of a run: it is the first thing wrong with the input.
use Rattle.std.specs.Prelude.{◌≡◌, ◌≢◌, ℕ, ◌<◌, ◌≤◌, ◌⊎◌, Result, List, [], ◌∷◌, ◌++◌, length, Ok, Err, ⊤}
use Rattle.std.specs.List.{Contains, AllByRecursion as Each}
use Rattle.curve.specs.declared.point.Point.{Point}
use Rattle.market.specs.declared.percentage.Percentage.{Percentage}
use Rattle.market.specs.declared.price.Price.{Price}
use Rattle.account.specs.declared.line.Line.{Line}
use Rattle.account.specs.declared.block_name.BlockName.TheVariants.{Trade as trade, CashOnly as cash_only}
use Rattle.account.specs.Lines.{block_name}
use Rattle.account.specs.Answers.{titles_with}
use Rattle.sheet.specs.declared.refusal.SheetRefusal.{SheetRefusal}
use Rattle.sheet.specs.Kinds.{SheetKind}
use Rattle.sheet.specs.Sheets.{Rest}
use Rattle.sheet.specs.Written.{IsRowLine, ReadsTo, line_below, IsSheet}
use Rattle.sheet.specs.Causes.{SheetCause}
use Rattle.text.specs.Cells.{Cell}
use Rattle.rows.specs.declared.day.DayRow.{DayRow}
use Rattle.rows.specs.Days.{days}
use Rattle.rows.specs.Percentages.{percentages}
use Rattle.rows.specs.Points.{points}
use Rattle.rows.specs.Prices.{prices}
use Rattle.rows.specs.Positions.{positions}
use Rattle.run.specs.Refusals.{PlacedRefusal, refusal_of_run, refusal_of_sheet, refusal_of_book, refusal_of_margin, placed_refusal, placed_sheet_refusal}
use Rattle.run.specs.Laws.{NothingStands, DeliveredRows, HasLayer}
use Rattle.run.specs.Accepted.{NoneHasKey, IsNextDay, IsPriced, IsQuoted, IsRated, LacksNothing, NoneTurnedAway, RowsAreRight, account_of_rows, account_statement}
use Rattle.account.specs.Checks.{IsInItsDays}
use Rattle.run.specs.declared.refusal.RunRefusal.{RunRefusal}
use Rattle.run.specs.Runs.{input}

-- what turns a row away, by the rows above it in its sheet: a relation to the refusal's number
abbrev pub RowCause : Type 0 → Type 1
RowCause Row = List Row → Row → ℕ → Type 0

-- 6: a row above has its key
pub record KeyStandsAbove {Row Key : Type 0} (key : Row → Key) (above : List Row) (row : Row)
    (n : ℕ) : Type 0 where
  pub number_is : n ≡ 6
  pub earlier : Row
  pub stands : Contains above earlier
  pub wrong : key earlier ≡ key row

-- 9: none has, but the most rows that there may be stand above
pub record NoPlaceIsLeft {Row Key : Type 0} (key : Row → Key) (most : ℕ) (above : List Row)
    (row : Row) (n : ℕ) : Type 0 where
  pub number_is : n ≡ 9
  pub new_key : NoneHasKey key row above
  pub wrong : most ≤ length above

-- 7: the next business day is not 1 to 10 days after today
pub record NextDayIsOutside (above : List DayRow) (day : DayRow) (n : ℕ) : Type 0 where
  pub number_is : n ≡ 7
  pub wrong : IsNextDay day → ⊥

-- 7: no line above has its reference, but its date is outside the days of its block
pub record DateIsOutside (today : ℕ) (above : List Line) (line : Line) (n : ℕ) : Type 0 where
  pub number_is : n ≡ 7
  pub new_key : NoneHasKey (λ l. l.reference) line above
  pub wrong : IsInItsDays today line.block → ⊥

-- 8: nor is its date, but with it the titles of its ISIN and block pass 2,000,000
pub record TitlesPassLimit (today : ℕ) (above : List Line) (line : Line) (n : ℕ) : Type 0 where
  pub number_is : n ≡ 8
  pub new_key : NoneHasKey (λ l. l.reference) line above
  pub dated : IsInItsDays today line.block
  pub wrong : 2000000 < titles_with line above

-- 9: nor do they, but 1,024 lines stand above
pub record NoLineIsLeft (today : ℕ) (above : List Line) (line : Line) (n : ℕ) : Type 0 where
  pub number_is : n ≡ 9
  pub new_key : NoneHasKey (λ l. l.reference) line above
  pub dated : IsInItsDays today line.block
  pub within : titles_with line above ≤ 2000000
  pub wrong : 1024 ≤ length above

abbrev pub DayCause : RowCause DayRow
DayCause = NextDayIsOutside

-- the sheet of percentages has a place for each of the six tranches
abbrev pub PercentageCause : RowCause Percentage
PercentageCause = KeyStandsAbove (λ p. p.tranche)

abbrev pub PointCause : RowCause Point
PointCause above p n =
    KeyStandsAbove (λ q. q.term) above p n ⊎ NoPlaceIsLeft (λ q. q.term) 64 above p n

abbrev pub PriceCause : RowCause Price
PriceCause above p n =
    KeyStandsAbove (λ q. q.isin) above p n ⊎ NoPlaceIsLeft (λ q. q.isin) 256 above p n

abbrev pub LineCause : ℕ → RowCause Line
LineCause today above l n =
    (KeyStandsAbove (λ m. m.reference) above l n ⊎ DateIsOutside today above l n)
    ⊎ (TitlesPassLimit today above l n ⊎ NoLineIsLeft today above l n)

-- rows below others are taken: nothing turns one of them away, by the rows above it
abbrev pub AreTakenBelow : {Row : Type 0} → RowCause Row → List Row → List Row → Type 0
AreTakenBelow Cause above [] = ⊤
AreTakenBelow Cause above (r ∷ rs) =
    ((n : ℕ) → Cause above r n → ⊥) × AreTakenBelow Cause (above ++ (r ∷ [])) rs

abbrev pub AreTaken : {Row : Type 0} → RowCause Row → List Row → Type 0
AreTaken Cause rows = AreTakenBelow Cause [] rows

-- 1 to 5: a sheet that begins there is refused, below rows that are taken
pub record SheetIsRefused {Row : Type 0} (kind : SheetKind Row) (Cause : RowCause Row) (left : Rest)
    (e : PlacedRefusal) : Type 0 where
  pub rows : List Row
  pub taken : AreTaken Cause rows
  pub refusal : SheetRefusal
  pub cause : SheetCause kind left rows refusal
  pub told : e ≡ placed_sheet_refusal refusal

-- 6 to 9: a row of the sheet that begins there is turned away, below rows that are taken
pub record RowIsTurnedAway {Row : Type 0} (kind : SheetKind Row) (Cause : RowCause Row)
    (reference : Row → ℕ) (left : Rest) (e : PlacedRefusal) : Type 0 where
  pub names : List Cell
  pub rows : List Row
  pub taken : AreTaken Cause rows
  pub line : List ℕ
  pub below : List (List ℕ)
  pub reads : ReadsTo kind left names rows (line ∷ below)
  pub row : Row
  pub row_is : IsRowLine kind reads.places (length names) line row
  pub number : ℕ
  pub cause : Cause rows row number
  pub told : e ≡ refusal_of_book number (line_below left rows) (reference row)

abbrev pub IsRefusedIn : {Row : Type 0} → SheetKind Row → RowCause Row → (Row → ℕ) → Rest →
    PlacedRefusal → Type 0
IsRefusedIn kind Cause reference left e =
    SheetIsRefused kind Cause left e ⊎ RowIsTurnedAway kind Cause reference left e

abbrev pub no_reference : {Row : Type 0} → Row → ℕ
no_reference row = 0

-- a sheet is read to its end, and its rows are taken
pub record IsTaken {Row : Type 0} (kind : SheetKind Row) (Cause : RowCause Row) (left : Rest)
    (rows : List Row) (behind : Rest) : Type 0 where
  pub sheet : IsSheet kind left rows behind
  pub taken : AreTaken Cause rows

abbrev pub IsTakenTo : {Row : Type 0} → SheetKind Row → RowCause Row → Rest → Rest → Type 0
IsTakenTo {Row} kind Cause left behind = (rows : List Row) × IsTaken kind Cause left rows behind

-- the sheets of an input are taken, one behind the other, down to what is left behind each
abbrev pub DayIsTaken : List ℕ → DayRow → Rest → Type 0
DayIsTaken bytes day behind = IsTaken days DayCause (input bytes) (day ∷ []) behind

abbrev pub PercentagesAreTaken : List ℕ → DayRow → Rest → Type 0
PercentagesAreTaken bytes day behind =
    (left : Rest) × (DayIsTaken bytes day left × IsTakenTo percentages PercentageCause left behind)

abbrev pub PointsAreTaken : List ℕ → DayRow → Rest → Type 0
PointsAreTaken bytes day behind =
    (left : Rest)
    × (PercentagesAreTaken bytes day left × IsTakenTo points PointCause left behind)

abbrev pub PricesAreTaken : List ℕ → DayRow → Rest → Type 0
PricesAreTaken bytes day behind =
    (left : Rest) × (PointsAreTaken bytes day left × IsTakenTo prices PriceCause left behind)

abbrev pub LinesAreTaken : List ℕ → DayRow → Rest → Type 0
LinesAreTaken bytes day behind =
    (left : Rest)
    × (PricesAreTaken bytes day left × IsTakenTo positions (LineCause day.today) left behind)

-- 5: the rows of the day's sheet are taken, but they are not just one; it is told at their trailer
pub record DayIsNotOne (bytes : List ℕ) (e : PlacedRefusal) : Type 0 where
  pub rows : List DayRow
  pub behind : Rest
  pub sheet : IsTaken days DayCause (input bytes) rows behind
  pub wrong : length rows ≢ 1
  pub told : e ≡ refusal_of_sheet 5 (line_below (input bytes) rows) 0

-- 5: the five sheets are taken, but bytes stand behind them
pub record BytesStandBehind (bytes : List ℕ) (e : PlacedRefusal) : Type 0 where
  pub day : DayRow
  pub behind : Rest
  pub sheets : LinesAreTaken bytes day behind
  pub wrong : NothingStands behind → ⊥
  pub told : e ≡ refusal_of_sheet 5 behind.line 0

-- 10: a line that is not cash-only lacks a price
pub record LacksPrice {bytes : List ℕ} (rows : DeliveredRows bytes) (line : Line) (n : ℕ) :
    Type 0 where
  pub number_is : n ≡ 10
  pub with_titles : block_name line.block ≢ cash_only
  pub wrong : IsPriced rows line → ⊥

-- 11: it has one, but lacks a percentage
pub record LacksPercentage {bytes : List ℕ} (rows : DeliveredRows bytes) (line : Line) (n : ℕ) :
    Type 0 where
  pub number_is : n ≡ 11
  pub with_titles : block_name line.block ≢ cash_only
  pub priced : IsPriced rows line
  pub wrong : IsQuoted rows line → ⊥

-- 12: a trade has both, but lacks a rate
pub record LacksRate {bytes : List ℕ} (rows : DeliveredRows bytes) (line : Line) (n : ℕ) :
    Type 0 where
  pub number_is : n ≡ 12
  pub trade : block_name line.block ≡ trade
  pub quoted : IsQuoted rows line
  pub wrong : IsRated rows line → ⊥

abbrev pub Lacks : {bytes : List ℕ} → DeliveredRows bytes → Line → ℕ → Type 0
Lacks rows line n = LacksPrice rows line n ⊎ (LacksPercentage rows line n ⊎ LacksRate rows line n)

-- 10 to 12: no row is turned away, but a line lacks something, and none of a lower reference does
pub record LineLacks (bytes : List ℕ) (e : PlacedRefusal) : Type 0 where
  pub rows : DeliveredRows bytes
  pub taken : NoneTurnedAway rows
  pub line : Line
  pub delivered : Contains rows.lines line
  pub none_lower :
      Each (λ other. other.reference < line.reference → LacksNothing rows other) rows.lines
  pub number : ℕ
  pub wrong : Lacks rows line number
  pub told : e ≡ refusal_of_margin number line.reference

-- 14: the rows are right, but their statement is longer than the buffer
pub record StatementIsTooLong (bytes : List ℕ) (buffer : ℕ) (e : PlacedRefusal) : Type 0 where
  pub rows : DeliveredRows bytes
  pub right : RowsAreRight rows
  pub wrong : buffer < length (account_statement (account_of_rows rows))
  pub told : e ≡ refusal_of_run 14

-- 14: the input has more than 65,536 bytes
pub record InputIsTooLong (bytes : List ℕ) (e : PlacedRefusal) : Type 0 where
  pub wrong : 65536 < length bytes
  pub told : e ≡ refusal_of_run 14

-- what is wrong with an input that is not too long, and where
pub data InputCause (bytes : List ℕ) (buffer : ℕ) (e : PlacedRefusal) : Type 0 where
  in_day : IsRefusedIn days DayCause no_reference (input bytes) e → InputCause bytes buffer e
  not_one_day : DayIsNotOne bytes e → InputCause bytes buffer e
  in_percentages : (day : DayRow) (left : Rest) → DayIsTaken bytes day left →
      IsRefusedIn percentages PercentageCause no_reference left e → InputCause bytes buffer e
  in_points : (day : DayRow) (left : Rest) → PercentagesAreTaken bytes day left →
      IsRefusedIn points PointCause no_reference left e → InputCause bytes buffer e
  in_prices : (day : DayRow) (left : Rest) → PointsAreTaken bytes day left →
      IsRefusedIn prices PriceCause no_reference left e → InputCause bytes buffer e
  in_positions : (day : DayRow) (left : Rest) → PricesAreTaken bytes day left →
      IsRefusedIn positions (LineCause day.today) (λ l. l.reference) left e →
      InputCause bytes buffer e
  behind : BytesStandBehind bytes e → InputCause bytes buffer e
  in_margin : LineLacks bytes e → InputCause bytes buffer e
  in_statement : StatementIsTooLong bytes buffer e → InputCause bytes buffer e

-- why a run is refused: no line before the one that is told has a cause, and of several causes of
-- that line it is the first
abbrev pub HasCause : List ℕ → ℕ → PlacedRefusal → Type 0
HasCause bytes buffer e =
    InputIsTooLong bytes e ⊎ ((length bytes ≤ 65536) × InputCause bytes buffer e)

-- the refusal of a run: it is of a layer, it has a cause, and no other refusal has one
pub record IsTheRefusal (bytes : List ℕ) (buffer : ℕ) (e : PlacedRefusal) : Type 0 where
  pub layer : HasLayer bytes e
  pub cause : HasCause bytes buffer e
  pub no_other : (d : PlacedRefusal) → HasCause bytes buffer d → d ≡ e

-- a run that is refused has its cause, and no refusal has one where it is not
abbrev pub RefusedByCause : List ℕ → ℕ → Result ℕ RunRefusal → Type 0
RefusedByCause bytes buffer (Ok n) = (e : PlacedRefusal) → HasCause bytes buffer e → ⊥
RefusedByCause bytes buffer (Err r) = IsTheRefusal bytes buffer (placed_refusal r)
