use Rattle.std.proofs.Common.{take}
use Rattle.text.specs.Ends.{start_of}
use Rattle.text.proofs.CellEnds.{Upto}
use Rattle.text.proofs.Marks.{Marked}
use Rattle.text.proofs.ends.near_ends.Given as goal

abbrev pub invariant-loop-place : goal.invariant-loop-place
invariant-loop-place l =
    let line = take l.end l.text in
    Upto line l.initial.room l.room l.place × Marked line (start_of l.room l.place) l.marks
