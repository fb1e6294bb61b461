-- The numbers of lines, as they are read and as they are reported.
use Rattle.std.proofs.Common.{◌≡◌, ℕ, ◌+◌, ◌<◌, ◌≤◌, Bool, true, false, cond, eqb, ◌&&◌, List, [], ◌∷◌, length, Option, Some, None, Result, Ok, Err, refl, ap, ◌∙◌, subst, arith}
use Rattle.text.specs.Cells.{Cell, cells}
use Rattle.quantities.specs.declared.refusal.Refusal.{Refusal}
use Rattle.quantities.specs.declared.refusal.Refusal.TheVariants.{CellCount, Columns, Mark, Trailer}
use Rattle.sheet.specs.declared.refusal.SheetRefusal.{SheetRefusal}
use Rattle.sheet.specs.Kinds.{SheetKind, cell_at}
use Rattle.sheet.specs.Sheets.{Rest, OpenSheet, sheet_refusal, rest_past_line, started_sheet, is_top, is_trailer, are_columns, needed_cells, open_at_names, open_at_top, leftmost, row_if, row_of_cells, row_answer, row_in, next_row, one_row_later, after_answer, has_row_count, closed_at}
use Rattle.sheet.specs.Laws.{after_last, LinesCounted, LinesReported}

-- the line that is reported where a test fails
if_err : {X : Type 0} (P : ℕ → Type 0) (t : Bool) (a : Result X SheetRefusal) (r : Refusal) (line : ℕ) (e : SheetRefusal) → (a ≡ Err e → P e.line) → P line → cond t a (sheet_refusal r line 0) ≡ Err e → P e.line
if_err P true a r line e h p q = h q
if_err P false a r line e h p q = subst P (let s : line ≡ e.line = cc in s) p

if_ok : {X : Type 0} (t : Bool) (a : Result X SheetRefusal) (r : Refusal) (line : ℕ) (y : X) → cond t a (sheet_refusal r line 0) ≡ Ok y → a ≡ Ok y
if_ok true a r line y h = h
if_ok false a r line y h = cc

same_ok : {X : Type 0} (x y : X) → ◌≡◌ {A = Result X SheetRefusal} (Ok x) (Ok y) → x ≡ y
same_ok x y h = cc

module _ {Row : Type 0} (kind : SheetKind Row) where
  opening_counted : (ls : List (List ℕ)) (left : Rest) (b : OpenSheet) → open_at_top kind ls left ≡ Ok b → after_last b.left ≡ left.line + length ls
  opening_counted [] left b h = cc
  opening_counted (top ∷ []) left b h = let r = if_ok (is_top kind.mark (cells top)) (open_at_names kind [] (rest_past_line [] left)) Mark left.line b h in cc
  opening_counted (top ∷ (names ∷ ls)) left b h =
      let r = if_ok (is_top kind.mark (cells top)) (open_at_names kind (names ∷ ls) (rest_past_line (names ∷ ls) left)) Mark left.line b h in
      let same = same_ok _ b (if_ok (are_columns kind.needed (cells names)) (Ok (started_sheet kind.needed (cells names) (rest_past_line ls (rest_past_line (names ∷ ls) left)))) Columns (left.line + 1) b r) in
      let line : left.line + 1 + 1 + length ls ≡ after_last b.left = ap (λ (x : OpenSheet). after_last x.left) same in
      omega arith

  row_counted : (n : Result (Option Row) SheetRefusal) (b : OpenSheet) → after_last (after_answer n b).left ≡ after_last b.left
  row_counted (Ok (Some row)) b = more b.left.lines refl
    where
      more : (ls : List (List ℕ)) → b.left.lines ≡ ls → after_last (one_row_later ls b).left ≡ after_last b.left
      more [] h = refl
      more (l ∷ ls) h = omega (arith, ap length h)
  row_counted (Ok None) b = refl
  row_counted (Err e) b = refl

  closing_counted : (ls : List (List ℕ)) (b : OpenSheet) (left : Rest) → closed_at b ls ≡ Ok left → after_last left ≡ b.left.line + length ls
  closing_counted [] b left h = cc
  closing_counted (l ∷ ls) b left h =
      let same = same_ok _ left (if_ok (is_trailer l && has_row_count b.rows (cells l)) (Ok (rest_past_line ls b.left)) Trailer b.left.line left h) in
      let line : b.left.line + 1 + length ls ≡ after_last left = ap after_last same in
      omega arith

  pub lines_counted : LinesCounted kind
  lines_counted = record {
    opening = λ left b h. opening_counted left.lines left b h;
    row = λ b. row_counted (next_row kind b) b;
    closing = λ b left h. closing_counted b.left.lines b left h;
  }

  abbrev Among : Rest → ℕ → ℕ → Type 0
  Among left many line = (left.line ≤ line) × (line ≤ left.line + many)

  opening_told : (ls : List (List ℕ)) (left : Rest) (e : SheetRefusal) → open_at_top kind ls left ≡ Err e → Among left (length ls) e.line
  opening_told [] left e h = let s : left.line ≡ e.line = cc in (omega arith, omega arith)
  opening_told (top ∷ ls) left e h =
      if_err (Among left (length (top ∷ ls))) (is_top kind.mark (cells top)) (open_at_names kind ls (rest_past_line ls left)) Mark left.line e (names_told ls) (omega arith, omega arith) h
    where
      names_told : (ms : List (List ℕ)) → open_at_names kind ms (rest_past_line ls left) ≡ Err e → Among left (length (top ∷ ls)) e.line
      names_told [] h = let s : left.line + 1 ≡ e.line = cc in (omega arith, omega arith)
      names_told (names ∷ ms) h =
          if_err (Among left (length (top ∷ ls))) (are_columns kind.needed (cells names)) (Ok (started_sheet kind.needed (cells names) (rest_past_line ms (rest_past_line ls left)))) Columns (left.line + 1) e (λ q. cc) (omega arith, omega arith) h

  value_told : (o : Option ℕ) (row : Row) (line : ℕ) (e : SheetRefusal) → row_if o row line ≡ Err e → e.line ≡ line
  value_told None row line e h = cc
  value_told (Some place) row line e h = cc

  row_told : (ls : List (List ℕ)) (b : OpenSheet) (e : SheetRefusal) → row_in kind b ls ≡ Err e → (e.line ≡ b.left.line) × (e.line < b.left.line + length ls)
  row_told [] b e h = cc
  row_told (l ∷ ls) b e h = let s = among (is_trailer l) (row_of_cells kind b (cells l)) refl h in (s, omega (arith, s))
    where
      cell : ℕ → Cell
      cell = cell_at (needed_cells b.places (cells l))

      among : (t : Bool) (r : Result Row SheetRefusal) → row_of_cells kind b (cells l) ≡ r → cond t (Ok None) (row_answer r) ≡ Err e → e.line ≡ b.left.line
      among true r q h = cc
      among false (Ok row) q h = cc
      among false (Err d) q h =
          if_err (λ line. line ≡ b.left.line) (eqb (length (cells l)) b.width) (row_if (leftmost (kind.fits cell) b.places) (kind.row cell) b.left.line) CellCount b.left.line e
          (value_told (leftmost (kind.fits cell) b.places) (kind.row cell) b.left.line e)
          refl
          (q ∙ (let s : d ≡ e = cc in ap Err s))

  closing_told : (ls : List (List ℕ)) (b : OpenSheet) (e : SheetRefusal) → closed_at b ls ≡ Err e → e.line ≡ b.left.line
  closing_told [] b e h = cc
  closing_told (l ∷ ls) b e h =
      if_err (λ line. line ≡ b.left.line) (is_trailer l && has_row_count b.rows (cells l)) (Ok (rest_past_line ls b.left)) Trailer b.left.line e (λ q. cc) refl h

  pub lines_reported : LinesReported kind
  lines_reported = record {
    opening = λ left e h. opening_told left.lines left e h;
    row = λ b e h. row_told b.left.lines b e h;
    closing = λ b e h. let s = closing_told b.left.lines b e h in (omega arith, omega arith);
  }
