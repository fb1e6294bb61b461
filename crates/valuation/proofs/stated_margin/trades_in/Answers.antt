use Rattle.std.proofs.Common.{ap, length, arith}
use Rattle.account.specs.Lines.{is_trade, keep}
use Rattle.valuation.proofs.LineLoops.{kept_length}
use Rattle.valuation.proofs.stated_margin.trades_in.Goals as goal

pub overflow_add-trades : goal.overflow_add-trades
overflow_add-trades c =
    let more = ap (λ ms. length (keep is_trade ms)) c.in-Some.ensures.steps in
    omega (arith, c.loop-line.invariant, more, kept_length is_trade c.args.lines.now)

pub returns-clause-few : goal.returns-clause-few
returns-clause-few c = omega (arith, c.loop-line.invariant, kept_length is_trade c.args.lines.now)
