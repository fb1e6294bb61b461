use Rattle.valuation.proofs.SameByIsin.{workable}
use Rattle.valuation.proofs.ready_lines.ReadyLines.check.Goals as goal

pub invariant_of-result : goal.invariant_of-result
invariant_of-result g c =
    let r = c.requires in
    let w = workable (g.B.Basis.setting c.args.basis.now) c.args.lines.now c.args.by_isin.now r.ordered r.ascends r.taken r.few r.titles c.in_ok-check_lines.ensures in
    record { few = w.few; taken = w.taken; titles = w.titles; faultless = w.faultless; rising = w.rising }
