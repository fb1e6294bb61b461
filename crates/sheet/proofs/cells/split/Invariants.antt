use Rattle.std.proofs.Common.{◌≡◌, ◌++◌, length, map, take}
use Rattle.text.specs.Cells.{cells}
use Rattle.sheet.proofs.cells.split.Given as goal

abbrev pub invariant-loop-place : goal.invariant-loop-place
invariant-loop-place l =
    (map (λ cell. cell.now) (take l.place l.room) ++ cells l.rest ≡ cells l.line) × (length l.room ≡ 32)
