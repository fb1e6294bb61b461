use Rattle.std.proofs.Common.{◌≡◌, ◌+◌, length}
use Rattle.account.specs.Lines.{is_trade, keep}
use Rattle.valuation.proofs.stated_margin.trades_in.Given as goal

abbrev pub invariant-loop-line : goal.invariant-loop-line
invariant-loop-line l = l.trades + length (keep is_trade l.line-iterator) ≡ length (keep is_trade l.lines)
