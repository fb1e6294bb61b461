-- The columns of a sheet: what the search for needed names in line 2 answers.
use Rattle.std.specs.Prelude.{◌≡◌, ℕ, List, length, map, take, Option, Some, None, ◌==◌, if◌then◌else◌, IsTrue, IsFalse, MatchOption}
use Rattle.std.specs.Borrow.{Bor}
use Rattle.text.specs.Cells.{Cell}
use Rattle.sheet.specs.Sheets.{count_of, place_of, are_named, are_columns, places_of}

-- the cells that are lent
abbrev pub texts : List (Bor Cell) → List Cell
texts cells = map (λ cell. cell.now) cells

-- the place of a name that stands once
abbrev pub one_place : Cell → List Cell → Option ℕ
one_place name names = if count_of name names == 1 then Some (place_of name names) else None

-- where each needed name stands once, so many places begin with theirs; else there are none
abbrev pub PlacesIfNamed : List Cell → List Cell → ℕ → Option (List ℕ) → Type 0
PlacesIfNamed needed names count answer =
    MatchOption answer (IsFalse (are_named needed names))
    (λ places. IsTrue (are_named needed names) × (take count places ≡ places_of needed names))

-- line 2 has the needed names, at those places, and is so many cells wide
pub record HasColumns (needed names : List Cell) (places : List ℕ) (width : ℕ) : Type 0 where
  pub named : IsTrue (are_columns needed names)
  pub places_are : places ≡ places_of needed names
  pub width_is : width ≡ length names
