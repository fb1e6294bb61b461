use Rattle.std.proofs.Common.{◌≡◌}
use Rattle.text.specs.Ends.{start_of}
use Rattle.text.proofs.CellEnds.{Upto}
use Rattle.text.proofs.ends.far_ends.Given as goal

abbrev pub invariant-loop-place : goal.invariant-loop-place
invariant-loop-place l = Upto l.line l.initial.room l.room l.place × (l.start ≡ start_of l.room l.place)
