-- The laws of rows: a row has one spelling.
use Rattle.std.specs.Prelude.{◌≡◌, ℕ, zero, suc, ◌+◌, Bool, List, [], ◌∷◌, length, IsTrue}
use Rattle.std.specs.List.{list_all}
use Rattle.text.specs.Cells.{Cell}
use Rattle.sheet.specs.Kinds.{SheetKind, cell_at}
use Rattle.rows.specs.Forms.{Spelling, names_of, cells_of}
use Rattle.rows.specs.Days.{days, day_in_range, day_spelling}
use Rattle.rows.specs.Percentages.{percentages, percentage_in_range, percentage_spelling}
use Rattle.rows.specs.Points.{points, point_in_range, point_spelling}
use Rattle.rows.specs.Prices.{prices, price_in_range, price_spelling}
use Rattle.rows.specs.Positions.{positions, line_in_range, line_spelling}

-- whether the cell of each needed column fits
abbrev pub all_fit : {Row : Type 0} → SheetKind Row → (ℕ → Cell) → Bool
all_fit kind cell = list_all (λ fits. fits) (kind.fits cell)

-- as many cells, from 0 on
abbrev pub first_cells : ℕ → (ℕ → Cell) → List Cell
first_cells zero cell = []
first_cells (suc n) cell = cell 0 ∷ first_cells n (λ i. cell (i + 1))

pub record OneSpelling
    {Row : Type 0} (kind : SheetKind Row) (in_range : Row → Bool) (spelling : Row → Spelling) :
    Type 0 where
  -- each part is spelled under a needed name, in the order of those
  pub named : (row : Row) → names_of (spelling row) ≡ kind.needed
  -- cells that all fit are the spelling of the row that they make, and the row is within its ranges
  pub read : (cell : ℕ → Cell) → IsTrue (all_fit kind cell) →
      (cells_of (spelling (kind.row cell)) ≡ first_cells (length kind.needed) cell)
      × IsTrue (in_range (kind.row cell))
  -- the spelling of a row within its ranges fits, and makes that row
  pub spelled : (row : Row) → IsTrue (in_range row) →
      let cell = cell_at (cells_of (spelling row)) in
      IsTrue (all_fit kind cell) × (kind.row cell ≡ row)

abbrev pub DaysLaw : Type 0
DaysLaw = OneSpelling days day_in_range day_spelling

abbrev pub PercentagesLaw : Type 0
PercentagesLaw = OneSpelling percentages percentage_in_range percentage_spelling

abbrev pub PointsLaw : Type 0
PointsLaw = OneSpelling points point_in_range point_spelling

abbrev pub PricesLaw : Type 0
PricesLaw = OneSpelling prices price_in_range price_spelling

abbrev pub PositionsLaw : Type 0
PositionsLaw = OneSpelling positions line_in_range line_spelling
