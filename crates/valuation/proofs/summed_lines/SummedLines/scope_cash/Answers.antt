use Rattle.valuation.specs.Scopes.{row_lines}
use Rattle.valuation.proofs.LineLoops.{cash_sums}
use Rattle.valuation.proofs.summed_lines.SummedLines.scope_cash.Goals as goal

pub returns : goal.returns
returns g c =
    let r = c.args.self.now.lines.now in
    let s = g.B.Basis.setting r.basis.now in
    let e = cash_sums s (row_lines s r.isin c.args.scope r.lines) c.scope_sums.ensures.cash in
    record { bought = e.0; sold = e.1; within = c.scope_sums.ensures.within }
