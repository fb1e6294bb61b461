use Rattle.std.proofs.Common.{refl, sym, ap}
use Rattle.std.proofs.lemmas.Result.{err_from_is_err_and}
use Rattle.valuation.specs.Setups.{setting_of}
use Rattle.valuation.proofs.SameByIsin.{states_same}
use Rattle.valuation.proofs.portfolio.Portfolio.statement.Goals as goal

pub returns : goal.returns
returns g c =
    let p = c.args.self.now in
    let e = c.in_ok-ready.ensures in
    let meaning = setting_of g.C.Curve.reach g.C.Curve.rate g.N.NettingRule.charged in
    states_same (meaning p.setup) p.lines.now p.by_isin p.ordered p.ascends p.taken (ap meaning e.basis) e.lines e.faultless c.statement.ensures

pub returns-in_err-ready : goal.returns-in_err-ready
returns-in_err-ready g c =
    let p = err_from_is_err_and c.from_residual.result c.from_residual.ensures.1 in
    rw (p.1, p.2) (sym (c.in_err-ready.ensures.refused c.args.self.now.lines.now), refl)
