-- The laws of sheets, for any kind of row.
use Rattle.std.specs.Prelude.{◌≡◌, ℕ, ◌+◌, ◌<◌, ◌≤◌, Bool, true, ◌⊎◌, List, [], ◌∷◌, length, Option, Some, None, Result, Ok, Err, slice_index, ◌==◌, IsTrue, IsFalse, ⊤}
use Rattle.std.specs.List.{slice_index_or}
use Rattle.text.specs.Cells.{Cell, cells}
use Rattle.quantities.specs.declared.refusal.Refusal.{Refusal}
use Rattle.quantities.specs.declared.refusal.Refusal.TheVariants.{Value}
use Rattle.sheet.specs.declared.refusal.SheetRefusal.{SheetRefusal}
use Rattle.sheet.specs.Kinds.{SheetKind, cell_at}
use Rattle.sheet.specs.Sheets.{Rest, OpenSheet, is_top, is_trailer, are_columns, places_of, needed_cells, open_answer, row_of_cells, next_row, after_row, close_answer}
use Rattle.sheet.specs.Columns.{HasColumns}

-- each needed name stands at some place of line 2
abbrev pub EachNameStands : Type 0
EachNameStands =
    (needed names : List Cell) (i : ℕ) → IsTrue (are_columns needed names) → i < length needed →
    (p : ℕ) × ((p < length names) × (cell_at names p ≡ cell_at needed i))

-- in whatever order, a row is read by the cells at the places where the needed names stand
abbrev pub ReadByName : Type 0
ReadByName =
    (needed names cs : List Cell) (i p : ℕ) → IsTrue (are_columns needed names) →
    i < length needed → p < length names → cell_at names p ≡ cell_at needed i →
    cell_at (needed_cells (places_of needed names) cs) i ≡ cell_at cs p

-- a sheet of those names is being read
abbrev pub HasNames : {Row : Type 0} → SheetKind Row → List Cell → OpenSheet → Type 0
HasNames kind names b = HasColumns kind.needed names b.places b.width

-- so it is once it is opened, and it stays so from row to row
abbrev pub OpenedHasNames : {Row : Type 0} → SheetKind Row → Type 0
OpenedHasNames kind =
    (left : Rest) (b : OpenSheet) → open_answer kind left ≡ Ok b →
    (top : List ℕ) × ((names : List ℕ)
    × ((left.lines ≡ top ∷ (names ∷ b.left.lines)) × HasNames kind (cells names) b))

abbrev pub StaysNamed : {Row : Type 0} → SheetKind Row → Type 0
StaysNamed kind =
    (names : List Cell) (b : OpenSheet) →
    HasNames kind names b → HasNames kind names (after_row kind b)

-- whether the needed cell of a number fits
abbrev pub fits_at : {Row : Type 0} → SheetKind Row → OpenSheet → List Cell → ℕ → Bool
fits_at kind b cs i = slice_index_or (kind.fits (cell_at (needed_cells b.places cs))) i true

-- a row that is accepted has as many cells as there are names, and they fit and make it
pub record IsAccepted {Row : Type 0} (kind : SheetKind Row) (names : List Cell) (b : OpenSheet)
    (cs : List Cell) (row : Row) : Type 0 where
  pub count : length cs ≡ length names
  pub fit : (i : ℕ) → i < length kind.needed → IsTrue (fits_at kind b cs i)
  pub made : row ≡ kind.row (cell_at (needed_cells b.places cs))

abbrev pub AcceptedRows : {Row : Type 0} → SheetKind Row → Type 0
AcceptedRows {Row} kind =
    (names : List Cell) (b : OpenSheet) (cs : List Cell) (row : Row) →
    HasNames kind names b → row_of_cells kind b cs ≡ Ok row → IsAccepted kind names b cs row

-- the needed cell of number i is reported: it does not fit, and those to its left do
pub record Leftmost {Row : Type 0} (kind : SheetKind Row) (b : OpenSheet) (cs : List Cell)
    (cell i : ℕ) : Type 0 where
  pub needed : i < length kind.needed
  pub reported : cell ≡ slice_index b.places i + 1
  pub misfit : IsFalse (fits_at kind b cs i)
  pub left_fit : (j : ℕ) → j < length kind.needed →
      slice_index b.places j < slice_index b.places i → IsTrue (fits_at kind b cs j)

abbrev pub LeftmostReported : {Row : Type 0} → SheetKind Row → Type 0
LeftmostReported kind =
    (names : List Cell) (b : OpenSheet) (cs : List Cell) (e : SheetRefusal) →
    HasNames kind names b → row_of_cells kind b cs ≡ Err e → e.refusal ≡ Value →
    (i : ℕ) × Leftmost kind b cs e.cell i

-- the number of the line after the last of what is left
abbrev pub after_last : Rest → ℕ
after_last left = left.line + length left.lines

-- each line that is read raises the number of the next by one,
-- so that the one after the last keeps its number
pub record LinesCounted {Row : Type 0} (kind : SheetKind Row) : Type 0 where
  pub opening : (left : Rest) (b : OpenSheet) → open_answer kind left ≡ Ok b →
      after_last b.left ≡ after_last left
  pub row : (b : OpenSheet) → after_last (after_row kind b).left ≡ after_last b.left
  pub closing : (b : OpenSheet) (left : Rest) → close_answer b ≡ Ok left →
      after_last left ≡ after_last b.left

-- a refusal is of a line that is left, or of the one after the last, which is missing;
-- that of a row is of its own line
abbrev pub IsOfLineLeft : Rest → SheetRefusal → Type 0
IsOfLineLeft left e = (left.line ≤ e.line) × (e.line ≤ after_last left)

pub record LinesReported {Row : Type 0} (kind : SheetKind Row) : Type 0 where
  pub opening : (left : Rest) (e : SheetRefusal) →
      open_answer kind left ≡ Err e → IsOfLineLeft left e
  pub row : (b : OpenSheet) (e : SheetRefusal) → next_row kind b ≡ Err e →
      (e.line ≡ b.left.line) × (e.line < after_last b.left)
  pub closing : (b : OpenSheet) (e : SheetRefusal) → close_answer b ≡ Err e → IsOfLineLeft b.left e

-- a whole sheet: its rows and what follows its trailer, or the first refusal
abbrev pub with_row : {Row : Type 0} → Row → Result (List Row × Rest) SheetRefusal →
    Result (List Row × Rest) SheetRefusal
with_row row (Ok r) = Ok (row ∷ r.0, r.1)
with_row row (Err e) = Err e

abbrev pub no_rows : {Row : Type 0} → Result Rest SheetRefusal →
    Result (List Row × Rest) SheetRefusal
no_rows (Ok left) = Ok ([], left)
no_rows (Err e) = Err e

-- by the answer of the next row: what follows that row, or the end
abbrev pub rows_by_answer : {Row : Type 0} → Result (Option Row) SheetRefusal →
    Result (List Row × Rest) SheetRefusal → Result Rest SheetRefusal →
    Result (List Row × Rest) SheetRefusal
rows_by_answer (Ok (Some row)) follows end = with_row row follows
rows_by_answer (Ok None) follows end = no_rows end
rows_by_answer (Err e) follows end = Err e

-- the rows of a reading before which those lines stand
abbrev pub rows_in : {Row : Type 0} → SheetKind Row → List (List ℕ) → OpenSheet →
    Result (List Row × Rest) SheetRefusal
rows_in kind [] b = no_rows (close_answer b)
rows_in kind (l ∷ ls) b =
    rows_by_answer (next_row kind b) (rows_in kind ls (after_row kind b)) (close_answer b)

abbrev pub rows_if_open : {Row : Type 0} → SheetKind Row → Result OpenSheet SheetRefusal →
    Result (List Row × Rest) SheetRefusal
rows_if_open kind (Ok b) = rows_in kind b.left.lines b
rows_if_open kind (Err e) = Err e

abbrev pub sheet_rows : {Row : Type 0} → SheetKind Row → Rest →
    Result (List Row × Rest) SheetRefusal
sheet_rows kind left = rows_if_open kind (open_answer kind left)

-- two lines are one trailer, or rows of which both have the right count of cells or neither,
-- with the same cells under the needed names
pub record SameTrailer (l m : List ℕ) : Type 0 where
  pub trailer : IsTrue (is_trailer l)
  pub other : IsTrue (is_trailer m)
  pub same : cells l ≡ cells m

pub record SameRow (needed names others : List Cell) (l m : List ℕ) : Type 0 where
  pub row : IsFalse (is_trailer l)
  pub other : IsFalse (is_trailer m)
  pub count : (length (cells l) == length names) ≡ (length (cells m) == length others)
  pub same : length (cells l) ≡ length names →
      needed_cells (places_of needed names) (cells l)
      ≡ needed_cells (places_of needed others) (cells m)

-- what follows a trailer does not matter
abbrev pub SameLines : List Cell → List Cell → List Cell → List (List ℕ) → List (List ℕ) → Type 0
SameLines needed names others [] [] = ⊤
SameLines needed names others [] (m ∷ ms) = ⊥
SameLines needed names others (l ∷ ls) [] = ⊥
SameLines needed names others (l ∷ ls) (m ∷ ms) =
    SameTrailer l m ⊎ (SameRow needed names others l m × SameLines needed names others ls ms)

-- two sheets, from a line of the same number on, with the same rows under the needed names
pub record SameSheets {Row : Type 0} (kind : SheetKind Row) (left other : Rest) : Type 0 where
  pub line : left.line ≡ other.line
  pub top : List ℕ
  pub names : List ℕ
  pub rows : List (List ℕ)
  pub lines : left.lines ≡ top ∷ (names ∷ rows)
  pub other_top : List ℕ
  pub other_names : List ℕ
  pub other_rows : List (List ℕ)
  pub other_lines : other.lines ≡ other_top ∷ (other_names ∷ other_rows)
  pub tops : is_top kind.mark (cells top) ≡ is_top kind.mark (cells other_top)
  pub named : IsTrue (are_columns kind.needed (cells names))
  pub other_named : IsTrue (are_columns kind.needed (cells other_names))
  pub same : SameLines kind.needed (cells names) (cells other_names) rows other_rows

-- the report of a sheet's reading: the rows and the number of the line that follows,
-- or the refusal and the number of its line
abbrev pub reading_outcome : {Row : Type 0} → Result (List Row × Rest) SheetRefusal →
    Result (List Row × ℕ) (Refusal × ℕ)
reading_outcome (Ok r) = Ok (r.0, r.1.line)
reading_outcome (Err e) = Err (e.refusal, e.line)

-- the order of the columns and the skipped ones do not matter
abbrev pub SameReadings : {Row : Type 0} → SheetKind Row → Type 0
SameReadings kind =
    (left other : Rest) → SameSheets kind left other →
    reading_outcome (sheet_rows kind left) ≡ reading_outcome (sheet_rows kind other)
