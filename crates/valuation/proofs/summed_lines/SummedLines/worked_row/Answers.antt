use Rattle.std.proofs.Common.{sym}
use Rattle.valuation.proofs.Blocks.{failed_is, held_is, block_is}
use Rattle.valuation.proofs.summed_lines.SummedLines.worked_row.Goals as goal

pub returns-in-Failed-clause-is : goal.returns-in-Failed-clause-is
returns-in-Failed-clause-is g c =
    let r = c.args.self.now.lines.now in
    let s = g.B.Basis.setting r.basis.now in
    let ls = r.lines in
    block_is s r.isin ls (sym c.in-Failed.is) (failed_is s r.isin ls c.scope_row.ensures.is)

pub returns-in-Held-clause-is : goal.returns-in-Held-clause-is
returns-in-Held-clause-is g c =
    let r = c.args.self.now.lines.now in
    let s = g.B.Basis.setting r.basis.now in
    let ls = r.lines in
    block_is s r.isin ls (sym c.in-Held.is) (held_is s r.isin ls c.scope_row-in-Held.ensures.is)
