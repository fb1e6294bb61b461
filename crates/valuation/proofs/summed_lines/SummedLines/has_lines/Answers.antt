use Rattle.valuation.proofs.Blocks.{some_lines}
use Rattle.valuation.proofs.summed_lines.SummedLines.has_lines.Goals as goal

pub returns : goal.returns
returns g c =
    let r = c.args.self.now.lines.now in
    some_lines (g.B.Basis.setting r.basis.now) r.isin c.args.block r.lines c.whole_scope.ensures c.scope_sums.ensures
