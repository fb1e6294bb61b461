-- The cells of a line: 59 is the semicolon.
use Rattle.std.specs.Prelude.{ℕ, List, Option}
use Rattle.std.specs.Borrow.{Bor}
use Rattle.text.specs.Parts.{parts, parts_after}

abbrev pub Cell : Type 0
Cell = List ℕ

-- the cells of a line, parted by semicolons: one more than it has semicolons
abbrev pub cells : List ℕ → List Cell
cells line = parts 59 line

-- the cells of what follows a semicolon, if one is there
abbrev pub cells_after : Option (Bor (List ℕ)) → List Cell
cells_after rest = parts_after 59 rest
