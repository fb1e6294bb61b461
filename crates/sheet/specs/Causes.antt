-- What is wrong with a sheet that is refused: it is the first thing wrong, and it is told where it
-- stands.
use Rattle.std.specs.Prelude.{◌≡◌, ◌≢◌, ℕ, ◌+◌, ◌<◌, Bool, true, ◌⊎◌, List, [], ◌∷◌, length, Err, codes, slice_index, IsTrue, IsFalse, ⊤}
use Rattle.std.specs.List.{slice_index_or}
use Rattle.text.specs.Cells.{Cell, cells}
use Rattle.quantities.specs.declared.refusal.Refusal.{Refusal}
use Rattle.quantities.specs.declared.refusal.Refusal.TheVariants.{Mark, Columns, CellCount, Value, Trailer}
use Rattle.quantities.specs.Refusals.{number}
use Rattle.sheet.specs.declared.refusal.SheetRefusal.{SheetRefusal}
use Rattle.sheet.specs.Kinds.{SheetKind, cell_at}
use Rattle.sheet.specs.Sheets.{Rest, first_cell, needed_cells}
use Rattle.sheet.specs.Laws.{sheet_rows}
use Rattle.sheet.specs.Written.{AreWordAndNumber, IsTopLine, StandsOnce, ReadsTo, line_below}

-- the trailer behind so many rows
abbrev pub IsTrailerOf : ℕ → List ℕ → Type 0
IsTrailerOf rows line = AreWordAndNumber (codes "END") rows (cells line)

-- whether the cell of a line under a needed name fits
abbrev pub cell_fits : {Row : Type 0} → SheetKind Row → List ℕ → List ℕ → ℕ → Bool
cell_fits kind places line i =
    slice_index_or (kind.fits (cell_at (needed_cells places (cells line)))) i true

-- the first of those lines is missing, or something is wrong with it
abbrev pub MissingOr : (List ℕ → Type 0) → List (List ℕ) → Type 0
MissingOr Wrong [] = ⊤
MissingOr Wrong (l ∷ ls) = Wrong l

-- a refusal of a line and its cell, by a cause
abbrev pub Tells : SheetRefusal → Refusal → ℕ → ℕ → Type 0
Tells e cause line cell = e ≡ record { refusal = cause; line = line; cell = cell }

-- 1: line 1 is missing, or has not the mark and a version
pub record MarkIsMissing {Row : Type 0} (kind : SheetKind Row) (left : Rest) (e : SheetRefusal) :
    Type 0 where
  pub wrong : MissingOr (λ line. IsTopLine kind.mark line → ⊥) left.lines
  pub told : Tells e Mark left.line 0
  pub number_is : number e.refusal ≡ 1

-- 2: line 2 is missing, has over 32 names, or lacks a needed name or has it twice
abbrev pub NamesAreWrong : List Cell → List Cell → Type 0
NamesAreWrong needed names =
    (32 < length names)
    ⊎ ((i : ℕ) × ((i < length needed)
    × ((place : ℕ) → StandsOnce names (cell_at needed i) place → ⊥)))

pub record ColumnsAreWrong {Row : Type 0} (kind : SheetKind Row) (left : Rest) (e : SheetRefusal) :
    Type 0 where
  pub top : List ℕ
  pub below : List (List ℕ)
  pub lines : left.lines ≡ top ∷ below
  pub top_is : IsTopLine kind.mark top
  pub wrong : MissingOr (λ line. NamesAreWrong kind.needed (cells line)) below
  pub told : Tells e Columns (left.line + 1) 0
  pub number_is : number e.refusal ≡ 2

-- 3: the line below the rows is no trailer, and has not a cell for each name
pub record CellCountIsWrong {Row : Type 0} (kind : SheetKind Row) (left : Rest) (rows : List Row)
    (e : SheetRefusal) : Type 0 where
  pub names : List Cell
  pub line : List ℕ
  pub below : List (List ℕ)
  pub reads : ReadsTo kind left names rows (line ∷ below)
  pub no_trailer : first_cell (cells line) ≢ codes "END"
  pub wrong : length (cells line) ≢ length names
  pub told : Tells e CellCount (line_below left rows) 0
  pub number_is : number e.refusal ≡ 3

-- 4: it has, but the cell under a needed name does not fit, and those under needed names to its
-- left do
pub record ValueDoesNotFit {Row : Type 0} (kind : SheetKind Row) (left : Rest) (rows : List Row)
    (e : SheetRefusal) : Type 0 where
  pub names : List Cell
  pub line : List ℕ
  pub below : List (List ℕ)
  pub reads : ReadsTo kind left names rows (line ∷ below)
  pub no_trailer : first_cell (cells line) ≢ codes "END"
  pub count : length (cells line) ≡ length names
  pub needed : ℕ
  pub within : needed < length kind.needed
  pub wrong : IsFalse (cell_fits kind reads.places line needed)
  pub left_fit : (i : ℕ) → i < length kind.needed →
      slice_index reads.places i < slice_index reads.places needed →
      IsTrue (cell_fits kind reads.places line i)
  pub told : Tells e Value (line_below left rows) (slice_index reads.places needed + 1)
  pub number_is : number e.refusal ≡ 4

-- 5: the line below the rows is missing, or is a trailer with another count or more cells
pub record TrailerIsWrong {Row : Type 0} (kind : SheetKind Row) (left : Rest) (rows : List Row)
    (e : SheetRefusal) : Type 0 where
  pub names : List Cell
  pub below : List (List ℕ)
  pub reads : ReadsTo kind left names rows below
  pub wrong : MissingOr
      (λ line. (first_cell (cells line) ≡ codes "END") × (IsTrailerOf (length rows) line → ⊥)) below
  pub told : Tells e Trailer (line_below left rows) 0
  pub number_is : number e.refusal ≡ 5

-- why a sheet is refused, behind those rows
pub data SheetCause {Row : Type 0} (kind : SheetKind Row) (left : Rest) (rows : List Row)
    (e : SheetRefusal) : Type 0 where
  mark : rows ≡ [] → MarkIsMissing kind left e → SheetCause kind left rows e
  columns : rows ≡ [] → ColumnsAreWrong kind left e → SheetCause kind left rows e
  cell_count : CellCountIsWrong kind left rows e → SheetCause kind left rows e
  value : ValueDoesNotFit kind left rows e → SheetCause kind left rows e
  trailer : TrailerIsWrong kind left rows e → SheetCause kind left rows e

-- a sheet is refused just where it has such a cause, and by that cause
pub record CausesStand {Row : Type 0} (kind : SheetKind Row) : Type 0 where
  pub refused : (left : Rest) (e : SheetRefusal) → sheet_rows kind left ≡ Err e →
      (rows : List Row) × SheetCause kind left rows e
  pub by_cause : (left : Rest) (rows : List Row) (e : SheetRefusal) →
      SheetCause kind left rows e → sheet_rows kind left ≡ Err e
