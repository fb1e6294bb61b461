-- Which lines of an input spell an account.
use Rattle.std.specs.Prelude.{◌≡◌, ◌≢◌, ℕ, ◌+◌, ◌-◌, ◌<◌, ◌≤◌, Bool, List, [], ◌∷◌, length, slice_index_or, Ok, Contains, IsTrue, codes, ⊤}
use Rattle.register.specs.Keys.{Ascends}
use Rattle.curve.specs.declared.point.Point.{Point}
use Rattle.curve.specs.Points.{point_rank, reach_of}
use Rattle.market.specs.Records.{price_rank, percentage_rank}
use Rattle.account.specs.Settings.{Setting}
use Rattle.account.specs.Calls.{line_rank}
use Rattle.text.specs.Cells.{Cell, cells}
use Rattle.text.specs.Lines.{lines, loose}
use Rattle.sheet.specs.Kinds.{SheetKind, cell_at}
use Rattle.sheet.specs.Sheets.{first_cell}
use Rattle.sheet.specs.Written.{AreWordAndNumber, StandsOnce, EachStands}
use Rattle.rows.specs.declared.day.DayRow.{DayRow}
use Rattle.rows.specs.Forms.{Spelling}
use Rattle.rows.specs.Days.{days, day_in_range, day_spelling}
use Rattle.rows.specs.Percentages.{percentages, percentage_in_range, percentage_spelling}
use Rattle.rows.specs.Points.{points, point_in_range, point_spelling}
use Rattle.rows.specs.Prices.{prices, price_in_range, price_spelling}
use Rattle.rows.specs.Positions.{positions, line_in_range, line_spelling}
use Rattle.run.specs.Runs.{netting_rule, rate_by_shape, Account, account_of_sheets}

-- the cells of a line of the input, by its number, counted from 1
abbrev pub cells_on : List ℕ → ℕ → List Cell
cells_on bytes n = cells (slice_index_or (lines bytes) (n - 1) [])

-- of a sheet that begins on a line and has so many rows: the line of its names,
-- whether a line is one of its rows, its trailer, and the line behind it
abbrev pub names_line : ℕ → ℕ
names_line from = from + 1

abbrev pub IsAmongRows : ℕ → ℕ → ℕ → Type 0
IsAmongRows from rows n = (from + 1 < n) × (n < from + (rows + 2))

abbrev pub trailer_line : ℕ → ℕ → ℕ
trailer_line from rows = from + (rows + 2)

abbrev pub line_behind : ℕ → ℕ → ℕ
line_behind from rows = from + (rows + 3)

-- a cell stands under a name: at the place at which the name stands in the line of names
pub record IsUnder (names : List Cell) (name : Cell) (cs : List Cell) (cell : Cell) :
    Type 0 where
  pub place : ℕ
  pub named : StandsOnce names name place
  pub there : cell_at cs place ≡ cell

-- under each name of a spelling stands its cell
abbrev pub EachUnder : List Cell → List Cell → Spelling → Type 0
EachUnder names cs [] = ⊤
EachUnder names cs (part ∷ parts) =
    IsUnder names part.0 cs part.1 × EachUnder names cs parts

-- the cells of a line say what is spelled: the line is no trailer, has a cell for each column,
-- and under each name of the spelling stands its cell
pub record Says (names cs : List Cell) (spelling : Spelling) : Type 0 where
  pub no_trailer : first_cell cs ≢ codes "END"
  pub count : length cs ≡ length names
  pub parts : EachUnder names cs spelling

-- from a line on stands a sheet that spells those records,
-- in whatever order its columns and its rows are
pub record SheetSpells {Row : Type 0} (kind : SheetKind Row) (in_range : Row → Bool)
    (spelling : Row → Spelling) (bytes : List ℕ) (from : ℕ) (records : List Row) : Type 0 where
  -- its mark, and a version from 1 to 255
  pub version : ℕ
  pub from_1 : 1 ≤ version
  pub to_255 : version ≤ 255
  pub marked : AreWordAndNumber kind.mark version (cells_on bytes from)
  -- each needed name once, among at most 32 names
  pub names : List Cell
  pub names_are : names ≡ cells_on bytes (names_line from)
  pub few : length names ≤ 32
  pub places : List ℕ
  pub named : EachStands names kind.needed places
  -- each record has the line of a row that spells it
  pub has_line : (row : Row) → Contains records row →
      (n : ℕ)
      × (IsAmongRows from (length records) n × Says names (cells_on bytes n) (spelling row))
  -- the line of each row spells a record
  pub has_record : (n : ℕ) → IsAmongRows from (length records) n →
      (row : Row) × (Contains records row × Says names (cells_on bytes n) (spelling row))
  -- no two lines spell the same
  pub one_line : (n m : ℕ) (row : Row) →
      IsAmongRows from (length records) n → IsAmongRows from (length records) m →
      Says names (cells_on bytes n) (spelling row) →
      Says names (cells_on bytes m) (spelling row) → n ≡ m
  -- each record is within its ranges
  pub ranged : (row : Row) → Contains records row → IsTrue (in_range row)
  -- and END with their count
  pub ended :
      AreWordAndNumber (codes "END") (length records)
      (cells_on bytes (trailer_line from (length records)))

-- the five sheets stand one behind the other: where all but the first begin
abbrev pub percentages_from : ℕ
percentages_from = line_behind 1 1

abbrev pub points_from : Setting → ℕ
points_from s = line_behind percentages_from (length s.percentages)

abbrev pub prices_from : Setting → List Point → ℕ
prices_from s curve = line_behind (points_from s) (length curve)

abbrev pub positions_from : Setting → List Point → ℕ
positions_from s curve = line_behind (prices_from s curve) (length s.prices)

-- the input is five sheets that spell the account, and nothing else
pub record SheetsSpell (bytes : List ℕ) (account : Account) : Type 0 where
  pub day : DayRow
  pub curve : List Point
  pub day_sheet : SheetSpells days day_in_range day_spelling bytes 1 (day ∷ [])
  pub percentage_sheet :
      SheetSpells percentages percentage_in_range percentage_spelling bytes percentages_from
      account.setting.percentages
  pub point_sheet :
      SheetSpells points point_in_range point_spelling bytes (points_from account.setting) curve
  pub price_sheet :
      SheetSpells prices price_in_range price_spelling bytes (prices_from account.setting curve)
      account.setting.prices
  pub position_sheet :
      SheetSpells positions line_in_range line_spelling bytes (positions_from account.setting curve)
      account.standing
  pub last_line :
      line_behind (positions_from account.setting curve) (length account.standing)
      ≡ length (lines bytes) + 1
  pub nothing_loose : loose bytes ≡ []
  -- each list is in the order of its key, which stands once
  pub by_tranche : Ascends percentage_rank account.setting.percentages
  pub by_term : Ascends point_rank curve
  pub by_isin : Ascends price_rank account.setting.prices
  pub by_reference : Ascends line_rank account.standing
  -- the rest of the account is of the day and the curve
  pub today : account.setting.today ≡ day.today
  pub next : account.setting.next ≡ day.next
  pub rule : account.setting.charged ≡ netting_rule day.mode
  pub reach : account.setting.reach ≡ reach_of curve
  pub rate : account.setting.rate ≡ rate_by_shape day.curve curve

-- what is loaded is spelled
abbrev pub SheetsSpellLaw : Type 0
SheetsSpellLaw =
    (bytes : List ℕ) (account : Account) → account_of_sheets bytes ≡ Ok account →
    SheetsSpell bytes account
