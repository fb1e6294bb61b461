use Rattle.std.proofs.Common.{arith}
use Rattle.valuation.proofs.Scopes.{sums_within}
use Rattle.valuation.proofs.summed_lines.SummedLines.scope_titles.Goals as goal

pub overflow_cast-result : goal.overflow_cast-result
overflow_cast-result g c =
    let r = c.args.self.now.lines.now in
    omega (arith, sums_within (g.B.Basis.setting r.basis.now) r.lines r.titles r.isin c.args.scope c.scope_sums.ensures.titles)

pub overflow_cast-result-2 : goal.overflow_cast-result-2
overflow_cast-result-2 g c =
    let r = c.args.self.now.lines.now in
    omega (arith, sums_within (g.B.Basis.setting r.basis.now) r.lines r.titles r.isin c.args.scope c.scope_sums.ensures.titles)

pub invariant_of-result : goal.invariant_of-result
invariant_of-result g c =
    let r = c.args.self.now.lines.now in
    omega (arith, sums_within (g.B.Basis.setting r.basis.now) r.lines r.titles r.isin c.args.scope c.scope_sums.ensures.titles)

pub invariant_of-result-2 : goal.invariant_of-result-2
invariant_of-result-2 g c =
    let r = c.args.self.now.lines.now in
    omega (arith, sums_within (g.B.Basis.setting r.basis.now) r.lines r.titles r.isin c.args.scope c.scope_sums.ensures.titles)

pub invariant_of-result-3 : goal.invariant_of-result-3
invariant_of-result-3 g c =
    let r = c.args.self.now.lines.now in
    omega (arith, sums_within (g.B.Basis.setting r.basis.now) r.lines r.titles r.isin c.args.scope c.scope_sums.ensures.titles)

pub returns : goal.returns
returns g c = record { bought = c.scope_sums.ensures.titles.bought; sold = c.scope_sums.ensures.titles.sold }
