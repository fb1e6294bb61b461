-- What each column may hold: a cell fits just where it spells that.
use Rattle.std.specs.Prelude.{◌≡◌, ℕ, ◌≤◌, ◌⊎◌, ◌↔◌, Bool, false, Some, ℤ, pos, negsuc, ◌≤ℤ◌, codes, IsTrue}
use Rattle.std.specs.List.{slice_index_or}
use Rattle.text.specs.Cells.{Cell}
use Rattle.text.specs.Numbers.{number, signed_number}
use Rattle.quantities.specs.Isins.{is_isin}
use Rattle.sheet.specs.Kinds.{SheetKind, cell_at}
use Rattle.rows.specs.Days.{days}
use Rattle.rows.specs.Percentages.{percentages}
use Rattle.rows.specs.Points.{points}
use Rattle.rows.specs.Prices.{prices}
use Rattle.rows.specs.Positions.{positions}

-- a number, both ends within
abbrev pub IsNumber : ℕ → ℕ → Cell → Type 0
IsNumber low high cell = (n : ℕ) × ((number cell ≡ Some n) × ((low ≤ n) × (n ≤ high)))

-- a number that may be negative, both ends within
abbrev pub IsSigned : ℤ → ℤ → Cell → Type 0
IsSigned low high cell = (z : ℤ) × ((signed_number cell ≡ Some z) × ((low ≤ℤ z) × (z ≤ℤ high)))

-- a day number
abbrev pub IsDate : Cell → Type 0
IsDate cell = IsNumber 0 65535 cell

abbrev pub IsIsin : Cell → Type 0
IsIsin cell = IsTrue (is_isin cell)

abbrev pub IsMode : Cell → Type 0
IsMode cell = (cell ≡ codes "N") ⊎ (cell ≡ codes "G")

abbrev pub IsCurve : Cell → Type 0
IsCurve cell = (cell ≡ codes "S") ⊎ (cell ≡ codes "L")

abbrev pub IsSide : Cell → Type 0
IsSide cell = (cell ≡ codes "B") ⊎ (cell ≡ codes "S")

-- a block whose lines have titles
abbrev pub IsTitled : Cell → Type 0
IsTitled cell = (cell ≡ codes "T") ⊎ ((cell ≡ codes "F") ⊎ (cell ≡ codes "H"))

abbrev pub IsBlock : Cell → Type 0
IsBlock cell = IsTitled cell ⊎ (cell ≡ codes "C")

-- whether the cell at a place among the needed columns fits
abbrev pub fits_at : {Row : Type 0} → SheetKind Row → ℕ → (ℕ → Cell) → Bool
fits_at kind place cell = slice_index_or (kind.fits cell) place false

-- the name at a place, and what the cell there has to be: it fits just then, whatever the other
-- cells are
pub record Column
    {Row : Type 0} (kind : SheetKind Row) (place : ℕ) (name : Cell) (Is : Cell → Type 0) :
    Type 0 where
  pub named : cell_at kind.needed place ≡ name
  pub fits : (cell : ℕ → Cell) → IsTrue (fits_at kind place cell) ↔ Is (cell place)

pub record DayColumns : Type 0 where
  pub today : Column days 0 (codes "TODAY") IsDate
  pub next : Column days 1 (codes "NEXT") IsDate
  pub mode : Column days 2 (codes "MODE") IsMode
  pub curve : Column days 3 (codes "CURVE") IsCurve

pub record PercentageColumns : Type 0 where
  pub tranche : Column percentages 0 (codes "TRANCHE") (IsNumber 1 6)
  pub percentage : Column percentages 1 (codes "PCT") (IsNumber 0 10000)

pub record PointColumns : Type 0 where
  pub term : Column points 0 (codes "TERM") (IsNumber 0 65535)
  -- −500 to 3,000
  pub rate : Column points 1 (codes "RATE") (IsSigned (negsuc 499) (pos 3000))

pub record PriceColumns : Type 0 where
  pub isin : Column prices 0 (codes "ISIN") IsIsin
  pub price : Column prices 1 (codes "PRICE") (IsNumber 1 2000000)
  pub maturity : Column prices 2 (codes "MATURITY") IsDate

-- titles, by the block of their row
pub record TitlesColumn : Type 0 where
  pub named : cell_at positions.needed 4 ≡ codes "TITLES"
  pub titled : (cell : ℕ → Cell) → IsTitled (cell 3) →
      IsTrue (fits_at positions 4 cell) ↔ IsNumber 1 2000000 (cell 4)
  pub cash_only : (cell : ℕ → Cell) → cell 3 ≡ codes "C" →
      IsTrue (fits_at positions 4 cell) ↔ (cell 4 ≡ codes "0")
  pub no_block : (cell : ℕ → Cell) → ¬ IsBlock (cell 3) →
      IsTrue (fits_at positions 4 cell) ↔ IsNumber 0 2000000 (cell 4)

pub record PositionColumns : Type 0 where
  pub reference : Column positions 0 (codes "REF") (IsNumber 1 4294967295)
  pub isin : Column positions 1 (codes "ISIN") IsIsin
  pub side : Column positions 2 (codes "SIDE") IsSide
  pub block : Column positions 3 (codes "BLOCK") IsBlock
  pub titles : TitlesColumn
  pub cash : Column positions 5 (codes "CASH") (IsNumber 0 1000000000000)
  pub date : Column positions 6 (codes "DATE") IsDate
