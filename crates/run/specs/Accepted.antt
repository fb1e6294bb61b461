-- When a run is accepted: of its bytes and of the buffer for its statement nothing is wrong.
use Rattle.std.specs.Prelude.{◌≡◌, ◌≢◌, ℕ, ◌+◌, ◌<◌, ◌≤◌, ◌⊎◌, List, [], ◌∷◌, length, ⊤}
use Rattle.std.specs.List.{Contains, AllByRecursion as Each}
use Rattle.quantities.specs.declared.isin.Isin.{Isin}
use Rattle.quantities.specs.Dates.{term, residual_life}
use Rattle.quantities.specs.Refusals.{number}
use Rattle.quantities.specs.declared.refusal.Refusal.TheVariants.{TooLong}
use Rattle.quantities.specs.Tranches.{tranche, tranche_number}
use Rattle.curve.specs.declared.point.Point.{Point}
use Rattle.curve.specs.Points.{point_rank, reach_of}
use Rattle.market.specs.declared.percentage.Percentage.{Percentage}
use Rattle.market.specs.declared.price.Price.{Price}
use Rattle.market.specs.Records.{price_rank, percentage_rank}
use Rattle.account.specs.declared.block_name.BlockName.{BlockName}
use Rattle.account.specs.declared.block_name.BlockName.TheVariants.{Trade as trade, CashOnly as cash_only}
use Rattle.account.specs.declared.line.Line.{Line}
use Rattle.account.specs.Lines.{block_name, date}
use Rattle.account.specs.Calls.{line_rank}
use Rattle.account.specs.Answers.{titles_of}
use Rattle.account.specs.Checks.{IsInItsDays}
use Rattle.account.specs.Margin.{margin, rounded_amounts}
use Rattle.statement.specs.Statements.{statement_text}
use Rattle.rows.specs.declared.day.DayRow.{DayRow}
use Rattle.run.specs.Refusals.{PlacedRefusal, refusal_of_run}
use Rattle.run.specs.Runs.{netting_rule, rate_by_shape, Account, account_rows}
use Rattle.run.specs.Laws.{records_by, DeliveredRows}

-- no row has the key of another
abbrev pub NoneHasKey : {Row Key : Type 0} → (Row → Key) → Row → List Row → Type 0
NoneHasKey key row rows = Each (λ other. key other ≢ key row) rows

-- no two rows have one key
abbrev pub NoneTwice : {Row Key : Type 0} → (Row → Key) → List Row → Type 0
NoneTwice key [] = ⊤
NoneTwice key (row ∷ rows) = NoneHasKey key row rows × NoneTwice key rows

-- the next business day is 1 to 10 days after today
abbrev pub IsNextDay : DayRow → Type 0
IsNextDay day = (day.today + 1 ≤ day.next) × (day.next ≤ day.today + 10)

-- a line has a price: one of its ISIN
pub record IsPriced {bytes : List ℕ} (rows : DeliveredRows bytes) (line : Line) : Type 0 where
  pub price : Price
  pub price_row : Contains rows.price_rows price
  pub isin : price.isin ≡ line.isin

-- a line has a price, and a percentage of the tranche of the life that its bond has left
pub record IsQuoted {bytes : List ℕ} (rows : DeliveredRows bytes) (line : Line) : Type 0 where
  pub priced : IsPriced rows line
  pub percentage : Percentage
  pub percentage_row : Contains rows.percentage_rows percentage
  pub tranche_is :
      tranche_number percentage.tranche
      ≡ tranche (residual_life rows.day.today priced.price.maturity)

-- a line has a rate: there is a point of at least its term
pub record IsRated {bytes : List ℕ} (rows : DeliveredRows bytes) (line : Line) : Type 0 where
  pub point : Point
  pub point_row : Contains rows.point_rows point
  pub reaches : term rows.day.today (date line.block) ≤ point.term

-- a line has what its block needs: cash-only lines need nothing, and only trades need a rate
pub record LacksNothing {bytes : List ℕ} (rows : DeliveredRows bytes) (line : Line) : Type 0 where
  pub quoted : block_name line.block ≢ cash_only → IsQuoted rows line
  pub rated : block_name line.block ≡ trade → IsRated rows line

-- rows of which none is turned away
pub record NoneTurnedAway {bytes : List ℕ} (rows : DeliveredRows bytes) : Type 0 where
  pub next : IsNextDay rows.day
  pub tranches : NoneTwice (λ p. p.tranche) rows.percentage_rows
  pub terms : NoneTwice (λ p. p.term) rows.point_rows
  pub few_points : length rows.point_rows ≤ 64
  pub isins : NoneTwice (λ p. p.isin) rows.price_rows
  pub few_prices : length rows.price_rows ≤ 256
  pub references : NoneTwice (λ l. l.reference) rows.lines
  pub few_lines : length rows.lines ≤ 1024
  pub dates : Each (λ l. IsInItsDays rows.day.today l.block) rows.lines
  pub titles : (i : Isin) (k : BlockName) → titles_of i k rows.lines ≤ 2000000

-- nor does one of their lines lack what it needs
pub record RowsAreRight {bytes : List ℕ} (rows : DeliveredRows bytes) : Type 0 where
  pub taken : NoneTurnedAway rows
  pub none_lacks : Each (LacksNothing rows) rows.lines

-- the account of those rows
abbrev pub account_of_rows : {bytes : List ℕ} → DeliveredRows bytes → Account
account_of_rows rows =
    record {
      setting =
          record {
            today = rows.day.today;
            next = rows.day.next;
            prices = records_by price_rank rows.price_rows;
            percentages = records_by percentage_rank rows.percentage_rows;
            reach = reach_of (records_by point_rank rows.point_rows);
            rate = rate_by_shape rows.day.curve (records_by point_rank rows.point_rows);
            charged = netting_rule rows.day.mode;
          };
      standing = records_by line_rank rows.lines;
    }

-- the statement of an account
abbrev pub account_statement : Account → List ℕ
account_statement account =
    statement_text (account_rows account) (margin account.setting account.standing)
    (rounded_amounts account.standing)

-- nothing is wrong: the input is short, it is five sheets with nothing behind them, their rows are
-- right, and their statement has room in the buffer
pub record NothingWrong (bytes : List ℕ) (buffer : ℕ) : Type 0 where
  pub short : length bytes ≤ 65536
  pub rows : DeliveredRows bytes
  pub right : RowsAreRight rows
  pub fits : length (account_statement (account_of_rows rows)) ≤ buffer

-- the input has more than 65,536 bytes, or the buffer fewer, so that a statement may have no room
abbrev pub IsTooLong : List ℕ → ℕ → Type 0
IsTooLong bytes buffer = (65536 < length bytes) ⊎ (buffer < 65536)

-- a refusal for length has one of these causes
abbrev pub TooLongOnly : List ℕ → ℕ → PlacedRefusal → Type 0
TooLongOnly bytes buffer refusal =
    refusal ≡ refusal_of_run (number TooLong) → IsTooLong bytes buffer
