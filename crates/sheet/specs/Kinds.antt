-- What a kind of row is.
use Rattle.std.specs.Prelude.{ℕ, Bool, List, [], Option, Some, None, if◌then◌else◌}
use Rattle.std.specs.List.{list_all, slice_index_or}
use Rattle.text.specs.Cells.{Cell}

-- what its sheet is called, the names that it needs, whether each of the cells under them fits,
-- and the row that they make; the cells are numbered as the names are, from 0
pub record SheetKind (Row : Type 0) : Type 0 where
  pub mark : List ℕ
  pub needed : List Cell
  pub fits : (ℕ → Cell) → List Bool
  pub row : (ℕ → Cell) → Row

-- the cell of a number
abbrev pub cell_at : List Cell → ℕ → Cell
cell_at cs i = slice_index_or cs i []

-- the row that cells make, where each of them fits
abbrev pub fitting_row : {Row : Type 0} → SheetKind Row → (ℕ → Cell) → Option Row
fitting_row kind cell =
    if list_all (λ fits. fits) (kind.fits cell) then Some (kind.row cell)
    else None
