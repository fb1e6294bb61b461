-- A sheet as it is written, line by line.
use Rattle.std.specs.Prelude.{◌≡◌, ◌≢◌, ℕ, ◌+◌, ◌<◌, ◌≤◌, ◌↔◌, List, [], ◌∷◌, ◌++◌, length, Some, Ok, codes, ⊤}
use Rattle.text.specs.Cells.{Cell, cells}
use Rattle.text.specs.Numbers.{number}
use Rattle.sheet.specs.Kinds.{SheetKind, cell_at, fitting_row}
use Rattle.sheet.specs.Sheets.{Rest, first_cell, needed_cells}
use Rattle.sheet.specs.Laws.{sheet_rows}

-- the two cells of a line are a word and a number
pub record AreWordAndNumber (word : Cell) (n : ℕ) (cs : List Cell) : Type 0 where
  pub spelling : Cell
  pub cells_are : cs ≡ word ∷ (spelling ∷ [])
  pub spells : number spelling ≡ Some n

-- line 1 of a sheet: its mark, and a version from 1 to 255
pub record IsTopLine (mark line : List ℕ) : Type 0 where
  pub version : ℕ
  pub from_1 : 1 ≤ version
  pub to_255 : version ≤ 255
  pub marked : AreWordAndNumber mark version (cells line)

-- a name stands at that place among names, counted from 0, and nowhere else
pub record StandsOnce (names : List Cell) (name : Cell) (place : ℕ) : Type 0 where
  pub within : place < length names
  pub there : cell_at names place ≡ name
  pub nowhere_else : (p : ℕ) → p < length names → cell_at names p ≡ name → p ≡ place

-- the places at which needed names stand among names
abbrev pub EachStands : List Cell → List Cell → List ℕ → Type 0
EachStands names [] [] = ⊤
EachStands names [] (p ∷ ps) = ⊥
EachStands names (n ∷ ns) [] = ⊥
EachStands names (n ∷ ns) (p ∷ ps) = StandsOnce names n p × EachStands names ns ps

-- a row on a line, which is no trailer: it has a cell for each column,
-- and those at the places of the needed names fit and make the row
pub record IsRowLine {Row : Type 0} (kind : SheetKind Row) (places : List ℕ) (width : ℕ)
    (line : List ℕ) (row : Row) : Type 0 where
  pub no_trailer : first_cell (cells line) ≢ codes "END"
  pub count : length (cells line) ≡ width
  pub makes : fitting_row kind (cell_at (needed_cells places (cells line))) ≡ Some row

-- a line for each row
abbrev pub EachOnLine :
    {Row : Type 0} → SheetKind Row → List ℕ → ℕ → List (List ℕ) → List Row → Type 0
EachOnLine kind places width [] [] = ⊤
EachOnLine kind places width [] (r ∷ rs) = ⊥
EachOnLine kind places width (l ∷ ls) [] = ⊥
EachOnLine kind places width (l ∷ ls) (r ∷ rs) =
    IsRowLine kind places width l r × EachOnLine kind places width ls rs

-- a sheet that begins there: nothing is wrong with its two top lines and with those rows, below
-- which those lines stand
pub record ReadsTo {Row : Type 0} (kind : SheetKind Row) (left : Rest) (names : List Cell)
    (rows : List Row) (below : List (List ℕ)) : Type 0 where
  pub top : List ℕ
  pub name_line : List ℕ
  pub row_lines : List (List ℕ)
  pub lines : left.lines ≡ top ∷ (name_line ∷ (row_lines ++ below))
  pub top_is : IsTopLine kind.mark top
  -- each needed name once, among at most 32 names, in any order
  pub names_are : names ≡ cells name_line
  pub few : length names ≤ 32
  pub places : List ℕ
  pub named : EachStands names kind.needed places
  pub each : EachOnLine kind places (length names) row_lines rows

-- the number of the line below those rows
abbrev pub line_below : {Row : Type 0} → Rest → List Row → ℕ
line_below left rows = left.line + 2 + length rows

-- a sheet of those rows comes next, and behind its trailer, END with their count, that is left
pub record IsSheet {Row : Type 0} (kind : SheetKind Row) (left : Rest) (rows : List Row)
    (behind : Rest) : Type 0 where
  pub names : List Cell
  pub trailer : List ℕ
  pub reads : ReadsTo kind left names rows (trailer ∷ behind.lines)
  pub ended : AreWordAndNumber (codes "END") (length rows) (cells trailer)
  pub loose : behind.loose ≡ left.loose
  pub line : behind.line ≡ line_below left rows + 1

-- a sheet is read just as it is written
abbrev pub ReadAsWritten : {Row : Type 0} → SheetKind Row → Type 0
ReadAsWritten {Row} kind =
    (left : Rest) (rows : List Row) (behind : Rest) →
    (sheet_rows kind left ≡ Ok (rows, behind)) ↔ IsSheet kind left rows behind
