-- A sheet: a mark and a version, the names of its columns, rows, and a trailer that counts them.
use Rattle.std.specs.Prelude.{◌≡◌, ℕ, ◌+◌, Bool, false, ◌&&◌, if◌then◌else◌, List, [], ◌∷◌, length, map, Option, Some, None, Result, Ok, Err, is_some, min, codes, ◌==◌, nat_le}
use Rattle.std.specs.Str.{bytes_eq}
use Rattle.std.specs.List.{list_all}
use Rattle.text.specs.Cells.{Cell, cells}
use Rattle.text.specs.Numbers.{number_in}
use Rattle.quantities.specs.declared.refusal.Refusal.{Refusal}
use Rattle.quantities.specs.declared.refusal.Refusal.TheVariants.{Mark, Columns, CellCount, Value, Trailer}
use Rattle.sheet.specs.declared.refusal.SheetRefusal.{SheetRefusal}
use Rattle.sheet.specs.Kinds.{SheetKind, cell_at}

-- what is left of an input: its lines, what stands behind the last line feed,
-- and the number of the first of the lines
pub record Rest : Type 0 where
  pub lines : List (List ℕ)
  pub loose : List ℕ
  pub line : ℕ

-- a sheet that is being read: where each needed column stands, counted from 0,
-- how many columns there are, the rows read so far, and what is left
pub record OpenSheet : Type 0 where
  pub places : List ℕ
  pub width : ℕ
  pub rows : ℕ
  pub left : Rest

-- a refusal of a line and its cell
abbrev pub sheet_refusal : {X : Type 0} → Refusal → ℕ → ℕ → Result X SheetRefusal
sheet_refusal r line cell = Err (record { refusal = r; line = line; cell = cell })

-- what is left after a line
abbrev pub rest_past_line : List (List ℕ) → Rest → Rest
rest_past_line ls left = record { lines = ls; loose = left.loose; line = left.line + 1 }

-- a line is the first of what is left, and the rest follows it
pub record Follows (left : Rest) (line : List ℕ) (rest : Rest) : Type 0 where
  pub begins : left.lines ≡ line ∷ rest.lines
  pub leaves : rest ≡ rest_past_line rest.lines left

-- line 1: a mark and a version, 1 to 255 read alike
abbrev pub is_top : List ℕ → List Cell → Bool
is_top mark (m ∷ (v ∷ [])) = bytes_eq m mark && is_some (number_in 1 255 v)
is_top mark _ = false

-- how often a name stands in line 2
abbrev pub count_of : Cell → List Cell → ℕ
count_of name [] = 0
count_of name (n ∷ names) =
    if bytes_eq name n then 1 + count_of name names
    else count_of name names

-- where it stands first, counted from 0
abbrev pub place_of : Cell → List Cell → ℕ
place_of name [] = 0
place_of name (n ∷ names) = if bytes_eq name n then 0 else 1 + place_of name names

-- each needed name stands once
abbrev pub are_named : List Cell → List Cell → Bool
are_named needed names = list_all (λ name. count_of name names == 1) needed

-- line 2: each needed name once, among at most 32
abbrev pub are_columns : List Cell → List Cell → Bool
are_columns needed names = nat_le (length names) 32 && are_named needed names

-- where each needed name stands
abbrev pub places_of : List Cell → List Cell → List ℕ
places_of needed names = map (λ name. place_of name names) needed

-- a sheet of which line 2 is read, and no row
abbrev pub started_sheet : List Cell → List Cell → Rest → OpenSheet
started_sheet needed names left = record {
  places = places_of needed names;
  width = length names;
  rows = 0;
  left = left;
}

-- the sheet of which line 2 comes next
abbrev pub open_at_names : {Row : Type 0} → SheetKind Row → List (List ℕ) → Rest →
    Result OpenSheet SheetRefusal
open_at_names kind [] left = sheet_refusal Columns left.line 0
open_at_names kind (l ∷ ls) left =
    if are_columns kind.needed (cells l)
    then Ok (started_sheet kind.needed (cells l) (rest_past_line ls left))
    else sheet_refusal Columns left.line 0

-- the sheet of which line 1 comes next
abbrev pub open_at_top : {Row : Type 0} → SheetKind Row → List (List ℕ) → Rest →
    Result OpenSheet SheetRefusal
open_at_top kind [] left = sheet_refusal Mark left.line 0
open_at_top kind (l ∷ ls) left =
    if is_top kind.mark (cells l) then open_at_names kind ls (rest_past_line ls left)
    else sheet_refusal Mark left.line 0

-- the sheet that begins an input, opened
abbrev pub open_answer : {Row : Type 0} → SheetKind Row → Rest → Result OpenSheet SheetRefusal
open_answer kind left = open_at_top kind left.lines left

-- the cells of a row under the needed names
abbrev pub needed_cells : List ℕ → List Cell → List Cell
needed_cells places cs = map (cell_at cs) places

-- a place, or a lesser one
abbrev pub least_place : ℕ → Option ℕ → ℕ
least_place p None = p
least_place p (Some q) = min p q

-- the leftmost place whose cell does not fit
abbrev pub leftmost : List Bool → List ℕ → Option ℕ
leftmost [] places = None
leftmost (f ∷ fs) [] = None
leftmost (f ∷ fs) (p ∷ ps) =
    if f then leftmost fs ps
    else Some (least_place p (leftmost fs ps))

-- a row, refused where a cell does not fit, by its number counted from 1
abbrev pub row_if : {Row : Type 0} → Option ℕ → Row → ℕ → Result Row SheetRefusal
row_if None row line = Ok row
row_if (Some place) row line = sheet_refusal Value line (place + 1)

-- what the cells of a line say
abbrev pub row_of_cells : {Row : Type 0} → SheetKind Row → OpenSheet → List Cell →
    Result Row SheetRefusal
row_of_cells kind b cs =
    let cell = cell_at (needed_cells b.places cs) in
    let misfit = leftmost (kind.fits cell) b.places in
    if length cs == b.width then row_if misfit (kind.row cell) b.left.line
    else sheet_refusal CellCount b.left.line 0

-- the first cell, empty where there is none
abbrev pub first_cell : List Cell → Cell
first_cell [] = []
first_cell (c ∷ cs) = c

-- a trailer's first cell is END
abbrev pub is_trailer : List ℕ → Bool
is_trailer l = bytes_eq (first_cell (cells l)) (codes "END")

abbrev pub row_answer : {Row : Type 0} → Result Row SheetRefusal → Result (Option Row) SheetRefusal
row_answer (Ok row) = Ok (Some row)
row_answer (Err e) = Err e

-- the row of the first of those lines
abbrev pub row_in : {Row : Type 0} → SheetKind Row → OpenSheet → List (List ℕ) →
    Result (Option Row) SheetRefusal
row_in kind b [] = Ok None
row_in kind b (l ∷ ls) =
    if is_trailer l then Ok None
    else row_answer (row_of_cells kind b (cells l))

-- the next row; none at the trailer, and where no line is left
abbrev pub next_row : {Row : Type 0} → SheetKind Row → OpenSheet → Result (Option Row) SheetRefusal
next_row kind b = row_in kind b b.left.lines

-- the reading after a row, which is the first of those lines
abbrev pub one_row_later : List (List ℕ) → OpenSheet → OpenSheet
one_row_later [] b = b
one_row_later (l ∷ ls) b = record {
  places = b.places;
  width = b.width;
  rows = b.rows + 1;
  left = rest_past_line ls b.left;
}

-- the reading after an answer
abbrev pub after_answer : {Row : Type 0} → Result (Option Row) SheetRefusal → OpenSheet → OpenSheet
after_answer (Ok (Some row)) b = one_row_later b.left.lines b
after_answer (Ok None) b = b
after_answer (Err e) b = b

-- the reading after its next row, which stays where there is none
abbrev pub after_row : {Row : Type 0} → SheetKind Row → OpenSheet → OpenSheet
after_row kind b = after_answer (next_row kind b) b

-- a trailer's second and last cell is the count of rows
abbrev pub has_row_count : ℕ → List Cell → Bool
has_row_count rows (e ∷ (n ∷ [])) = is_some (number_in rows rows n)
has_row_count rows _ = false

-- what follows the trailer, which is the first of those lines
abbrev pub closed_at : OpenSheet → List (List ℕ) → Result Rest SheetRefusal
closed_at b [] = sheet_refusal Trailer b.left.line 0
closed_at b (l ∷ ls) =
    if is_trailer l && has_row_count b.rows (cells l) then Ok (rest_past_line ls b.left)
    else sheet_refusal Trailer b.left.line 0

-- what follows the trailer
abbrev pub close_answer : OpenSheet → Result Rest SheetRefusal
close_answer b = closed_at b b.left.lines
