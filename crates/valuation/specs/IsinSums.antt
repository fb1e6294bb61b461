-- The sums of the lines of one ISIN, for each of the rows that it may have.
use Rattle.std.specs.Prelude.{ℕ}
use Rattle.account.specs.declared.line.Line.{Line}
use Rattle.account.specs.declared.scenario.Scenario.TheVariants.{AllTrades, WithoutToday, AfterNext}
use Rattle.account.specs.declared.scope.Scope.{Scope}
use Rattle.account.specs.declared.scope.Scope.TheVariants.{Trades, FailedLines, HeldLines, CashOnlyLines}
use Rattle.account.specs.Settings.{Setting}
use Rattle.valuation.specs.declared.isin_sums.IsinSums.{IsinSums}
use Rattle.valuation.specs.declared.line_sums.LineSums.{LineSums}
use Rattle.valuation.specs.LineSums.{AddsLine}

-- the sums for a row
abbrev pub scope_sums : IsinSums → Scope → LineSums
scope_sums sums (Trades AllTrades) = sums.all_trades
scope_sums sums (Trades WithoutToday) = sums.without_today
scope_sums sums (Trades AfterNext) = sums.after_next
scope_sums sums FailedLines = sums.failed
scope_sums sums HeldLines = sums.held
scope_sums sums CashOnlyLines = sums.cash_only

-- the sums for every row with one more line and its cash, where the row is worked on it
abbrev pub AddsLineToEach : Setting → Line → ℕ → IsinSums → IsinSums → Type 0
AddsLineToEach s l cash before after =
    (scope : Scope) → AddsLine s scope l cash (scope_sums before scope) (scope_sums after scope)
