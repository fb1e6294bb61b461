-- A line's cells, put into a room one by one.
use Rattle.std.proofs.Common.{ℕ, ◌<◌, ◌≤◌, List, ◌++◌, length, map, take, ◌==◌, Bor, length-append, length-take, arith}
use Rattle.std.proofs.lemmas.List.{length-map}
use Rattle.std.proofs.lemmas.List.Splits.{length-slice_split}
use Rattle.text.specs.Cells.{Cell, cells}

-- what follows a semicolon has a cell more
pub one_more : (room : List (Bor Cell)) (i : ℕ) (rest : List ℕ) → i ≤ length room → i < length (map (λ cell. cell.now) (take i room) ++ cells rest)
one_more room i rest l =
    let held = take i room in
    let m = length-map held (λ (c : Bor Cell). c.now) in
    let n = length-append (map (λ cell. cell.now) held) (cells rest) in
    omega (arith, n, m, length-take i room, length-slice_split (λ b. b == 59) rest)
