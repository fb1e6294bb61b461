use Rattle.std.proofs.Common.{◌≤◌, ◌-◌, length}
use Rattle.curve.proofs.PassedPoints.{Below}
use Rattle.curve.proofs.point.points.first_from.Given as goal

abbrev pub invariant-loop-at : goal.invariant-loop-at
invariant-loop-at l = record {
  within : l.at ≤ length l.points;
  below : Below l.points l.at l.term;
}

abbrev pub decreases-loop-at : goal.decreases-loop-at
decreases-loop-at l = length l.points - l.at

abbrev pub invariant-loop-at-2 : goal.invariant-loop-at-2
invariant-loop-at-2 l = record {
  within : l.at ≤ length l.points;
  below : Below l.points l.at l.term;
}

abbrev pub decreases-loop-at-2 : goal.decreases-loop-at-2
decreases-loop-at-2 l = length l.points - l.at
