use Rattle.std.proofs.Common.{length}
use Rattle.valuation.proofs.RowsByIsin.{AwaitsRows}
use Rattle.valuation.proofs.ready_lines.ReadyLines.add_rows.Given as goal

abbrev pub invariant-loop-first : goal.invariant-loop-first
invariant-loop-first g l = AwaitsRows (g.B.Basis.setting l.self.basis.now) l.self.lines.now l.initial.tally l.rest l.tally

abbrev pub decreases-loop-first : goal.decreases-loop-first
decreases-loop-first g l = length l.rest
