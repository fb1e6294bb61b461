-- The rows of a statement: what each ISIN and block is charged.
use Rattle.std.specs.Prelude.{◌≡◌, ℕ, ◌⊎◌, List, [], ◌∷◌, ◌++◌, ℤ, pos, ◌-ℤ◌, ◌≤ℤ◌, ◌<ℤ◌, int_lt, if◌then◌else◌}
use Rattle.quantities.specs.declared.isin.Isin.{Isin}
use Rattle.netting.specs.Rules.{Netting, both_sides}
use Rattle.account.specs.declared.line.Line.{Line}
use Rattle.account.specs.declared.scenario.Scenario.{Scenario}
use Rattle.account.specs.declared.scenario.Scenario.TheVariants.{AllTrades, WithoutToday, AfterNext}
use Rattle.account.specs.declared.scope.Scope.{Scope}
use Rattle.account.specs.declared.scope.Scope.TheVariants.{Trades, FailedLines, HeldLines, CashOnlyLines}
use Rattle.account.specs.declared.row.Row.{Row}
use Rattle.account.specs.Lines.{is_in_block, keep, isins}
use Rattle.account.specs.declared.block_name.BlockName.{BlockName}
use Rattle.account.specs.declared.block_name.BlockName.TheVariants.{Trade as trade, Failed as failed, Held as held, CashOnly as cash_only}
use Rattle.account.specs.Settings.{Setting}
use Rattle.account.specs.Charges.{initial_margin_of, variation_margin_of, is_not_today, is_after_next, cash_charge}

-- the block that a row is about
abbrev pub block_of : Scope → BlockName
block_of (Trades n) = trade
block_of FailedLines = failed
block_of HeldLines = held
block_of CashOnlyLines = cash_only

-- the number of a scenario
abbrev pub scenario_number : Scenario → ℕ
scenario_number AllTrades = 1
scenario_number WithoutToday = 2
scenario_number AfterNext = 3

-- the scenario that a row is reported with: 1 to 3 of a trade row, 0 of any other
abbrev pub scenario_of : Scope → ℕ
scenario_of (Trades n) = scenario_number n
scenario_of FailedLines = 0
scenario_of HeldLines = 0
scenario_of CashOnlyLines = 0

-- the charge of a row
abbrev pub charge : Row → ℤ
charge r = pos r.initial_margin -ℤ r.variation_margin

-- the row of lines of an ISIN, by a netting rule
abbrev pub row : Setting → (ℕ → ℕ → ℕ) → Isin → Scope → List Line → Row
row s rule i scope ls =
    record {
      isin = i;
      scope = scope;
      initial_margin = initial_margin_of s rule i ls;
      variation_margin = variation_margin_of s i ls;
    }

-- the row with the larger charge, of equal charges the first
abbrev pub worse : Row → Row → Row
worse a b = if int_lt (charge a) (charge b) then b else a

-- scenario 1 has all trades of an ISIN
abbrev pub scenario_1 : Setting → Isin → List Line → Row
scenario_1 s i trades = row s s.charged i (Trades AllTrades) trades

-- scenario 2 has those that are not dated today
abbrev pub scenario_2 : Setting → Isin → List Line → Row
scenario_2 s i trades = row s s.charged i (Trades WithoutToday) (keep (is_not_today s) trades)

-- scenario 3 has those that are dated after the next business day
abbrev pub scenario_3 : Setting → Isin → List Line → Row
scenario_3 s i trades = row s s.charged i (Trades AfterNext) (keep (is_after_next s) trades)

-- the worst of the three; one that has no lines left takes part
abbrev pub worst : Setting → Isin → List Line → Row
worst s i trades =
    worse (worse (scenario_1 s i trades) (scenario_2 s i trades)) (scenario_3 s i trades)

-- the charge of a cash-only row stands under its initial margin
abbrev pub cash_row : Isin → List Line → Row
cash_row i ls =
    record {
      isin = i;
      scope = CashOnlyLines;
      initial_margin = cash_charge ls;
      variation_margin = pos 0;
    }

-- the row of the lines of an ISIN and block
abbrev pub block_row : Setting → Isin → BlockName → List Line → Row
block_row s i trade ls = worst s i ls
block_row s i failed ls = row s both_sides i FailedLines ls
block_row s i held ls = row s both_sides i HeldLines ls
block_row s i cash_only ls = cash_row i ls

-- a row where there are lines, and none elsewhere
abbrev pub if_any : List Line → Row → List Row
if_any [] r = []
if_any (l ∷ ls) r = r ∷ []

-- the row of an ISIN and block that has lines
abbrev pub block_rows : Setting → List Line → Isin → BlockName → List Row
block_rows s ls i k =
    if_any (keep (is_in_block i k) ls) (block_row s i k (keep (is_in_block i k) ls))

-- the rows of an ISIN: trades, failed, held, cash-only
abbrev pub isin_rows : Setting → List Line → Isin → List Row
isin_rows s ls i =
    block_rows s ls i trade
    ++ (block_rows s ls i failed
    ++ (block_rows s ls i held
    ++ block_rows s ls i cash_only))

-- the rows of ISINs, one after another
abbrev pub rows_of_isins : Setting → List Line → List Isin → List Row
rows_of_isins s ls [] = []
rows_of_isins s ls (i ∷ is) = isin_rows s ls i ++ rows_of_isins s ls is

-- the rows of the ISINs that have a line, in byte order
abbrev pub statement_rows : Setting → List Line → List Row
statement_rows s ls = rows_of_isins s ls (isins ls)

-- w is the worst of three scenarios: none has a larger charge, and those of a lower number have a
-- smaller one
pub record WorstOf (one two three w : Row) : Type 0 where
  pub not_below_one : charge one ≤ℤ charge w
  pub not_below_two : charge two ≤ℤ charge w
  pub not_below_three : charge three ≤ℤ charge w
  pub lowest :
      (w ≡ one)
      ⊎ (((w ≡ two) × (charge one <ℤ charge w))
      ⊎ ((w ≡ three) × (charge one <ℤ charge w) × (charge two <ℤ charge w)))

-- the trade row of an ISIN is the worst of its scenarios
abbrev pub WorstLaw : Type 0
WorstLaw =
    (s : Setting) (i : Isin) (trades : List Line) →
    WorstOf (scenario_1 s i trades) (scenario_2 s i trades) (scenario_3 s i trades)
    (worst s i trades)

-- a scenario or block that has no lines of an ISIN is charged nothing
abbrev pub NoLinesLaw : Type 0
NoLinesLaw =
    (s : Setting) → Netting s.charged → (i : Isin) (k : BlockName) (scope : Scope) →
    (charge (row s s.charged i scope []) ≡ pos 0) × (charge (block_row s i k []) ≡ pos 0)
