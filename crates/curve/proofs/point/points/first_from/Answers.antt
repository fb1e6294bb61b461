use Rattle.std.proofs.Common.{arith}
use Rattle.curve.proofs.PassedPoints.{parts_at}
use Rattle.curve.proofs.point.points.first_from.Goals as goal

pub returns-else-points-at-2-clause-parts : goal.returns-else-points-at-2-clause-parts
returns-else-points-at-2-clause-parts c =
    parts_at c.args.points.now c.loop-at-2.at c.args.term c.loop-at-2.invariant.within c.loop-at-2.invariant.below
    (λ m. (c.index-points-at-in-loop-at-2.result, c.if-points-at-2.false))

pub returns-after-loop-at-2-clause-parts : goal.returns-after-loop-at-2-clause-parts
returns-after-loop-at-2-clause-parts c =
    parts_at c.args.points.now c.loop-at-2.at c.args.term c.loop-at-2.invariant.within c.loop-at-2.invariant.below
    (λ m. absurd (omega arith))
