-- Sheets with the same rows under the needed names are read alike.
use Rattle.std.proofs.Common.{◌≡◌, ℕ, ◌+◌, Bool, true, false, cond, eqb, ◌&&◌, List, [], ◌∷◌, length, Option, Some, None, is_some, Result, Ok, Err, refl, sym, ap, ◌∙◌, ⊎_elim, codes, arith}
use Rattle.std.specs.Str.{bytes_eq}
use Rattle.std.proofs.lemmas.Bool.{eqb-true}
use Rattle.std.proofs.lemmas.List.{length-map}
use Rattle.text.specs.Cells.{Cell, cells}
use Rattle.quantities.specs.declared.refusal.Refusal.{Refusal}
use Rattle.quantities.specs.declared.refusal.Refusal.TheVariants.{Mark, Columns, CellCount, Trailer}
use Rattle.sheet.specs.declared.refusal.SheetRefusal.{SheetRefusal}
use Rattle.sheet.specs.Kinds.{SheetKind, cell_at}
use Rattle.sheet.specs.Sheets.{Rest, OpenSheet, sheet_refusal, rest_past_line, is_top, is_trailer, are_columns, places_of, needed_cells, leftmost, row_if, row_of_cells, row_answer, first_cell, has_row_count, close_answer, after_answer, open_at_top}
use Rattle.sheet.specs.Laws.{with_row, no_rows, rows_by_answer, rows_in, rows_if_open, sheet_rows, SameTrailer, SameRow, SameLines, reading_outcome, SameReadings}

-- what is reported of a row
abbrev told_row : {Row : Type 0} → Result Row SheetRefusal → Result Row (Refusal × ℕ)
told_row (Ok row) = Ok row
told_row (Err e) = Err (e.refusal, e.line)

abbrev with_told : {Row : Type 0} → Row → Result (List Row × ℕ) (Refusal × ℕ) → Result (List Row × ℕ) (Refusal × ℕ)
with_told row (Ok r) = Ok (row ∷ r.0, r.1)
with_told row (Err e) = Err e

told_with : {Row : Type 0} (row : Row) (r : Result (List Row × Rest) SheetRefusal) → reading_outcome (with_row row r) ≡ with_told row (reading_outcome r)
told_with row (Ok r) = refl
told_with row (Err e) = refl

same_judged : (fits : List Bool) (ps qs : List ℕ) → length ps ≡ length qs → is_some (leftmost fits ps) ≡ is_some (leftmost fits qs)
same_judged [] ps qs h = refl
same_judged (f ∷ fs) [] [] h = refl
same_judged (f ∷ fs) [] (q ∷ qs) h = absurd (omega arith)
same_judged (f ∷ fs) (p ∷ ps) [] h = absurd (omega arith)
same_judged (true ∷ fs) (p ∷ ps) (q ∷ qs) h = same_judged fs ps qs (omega arith)
same_judged (false ∷ fs) (p ∷ ps) (q ∷ qs) h = refl

same_if : {Row : Type 0} (o u : Option ℕ) (row : Row) (line : ℕ) → is_some o ≡ is_some u → told_row (row_if o row line) ≡ told_row (row_if u row line)
same_if None None row line h = refl
same_if (Some p) (Some q) row line h = refl
same_if None (Some q) row line h = cc
same_if (Some p) None row line h = cc

module _ {Row : Type 0} (kind : SheetKind Row) where
  abbrev Judged : Bool → List ℕ → List Cell → ℕ → Result Row SheetRefusal
  Judged c places needed_cells line =
      cond c (row_if (leftmost (kind.fits (cell_at needed_cells)) places) (kind.row (cell_at needed_cells)) line) (Err record { refusal = CellCount; line = line; cell = 0 })

  alike : (c d : Bool) (ps qs : List ℕ) (us vs : List Cell) (line : ℕ) → c ≡ d → (c ≡ true → us ≡ vs) → length ps ≡ length qs → told_row (Judged c ps us line) ≡ told_row (Judged d qs vs line)
  alike true true ps qs us vs line e h l =
      ap (λ ws. told_row (Judged true ps ws line)) (h refl) ∙ same_if (leftmost (kind.fits (cell_at vs)) ps) (leftmost (kind.fits (cell_at vs)) qs) (kind.row (cell_at vs)) line (same_judged (kind.fits (cell_at vs)) ps qs l)
  alike false false ps qs us vs line e h l = refl
  alike true false ps qs us vs line e h l = cc
  alike false true ps qs us vs line e h l = cc

  abbrev on : List Cell → ℕ → List (List ℕ) → List ℕ → ℕ → OpenSheet
  on names rows ls loose line =
      record { places = places_of kind.needed names; width = length names; rows = rows; left = record { lines = ls; loose = loose; line = line } }

  -- what follows a line, by whether it is a trailer and by its row
  abbrev turn : Bool → Result Row SheetRefusal → List (List ℕ) → OpenSheet → Result (List Row × Rest) SheetRefusal
  turn t row ls b =
      rows_by_answer (cond t (Ok None) (row_answer row)) (rows_in kind ls (after_answer (cond t (Ok None) (row_answer row)) b)) (close_answer b)

  same_end : (t : Bool) (a b : Rest) (line : ℕ) → a.line ≡ b.line → reading_outcome {Row = Row} (no_rows (cond t (Ok a) (sheet_refusal Trailer line 0))) ≡ reading_outcome {Row = Row} (no_rows (cond t (Ok b) (sheet_refusal Trailer line 0)))
  same_end true a b line h = ap (λ n. Ok ([], n)) h
  same_end false a b line h = refl

  module _ (names others : List Cell) where
    same_row : (l m : List ℕ) (ls ms : List (List ℕ)) (rows line : ℕ) (x y : List ℕ) (p q : Result Row SheetRefusal) → told_row p ≡ told_row q → reading_outcome (rows_in kind ls (on names (rows + 1) ls x (line + 1))) ≡ reading_outcome (rows_in kind ms (on others (rows + 1) ms y (line + 1))) → reading_outcome (turn false p ls (on names rows (l ∷ ls) x line)) ≡ reading_outcome (turn false q ms (on others rows (m ∷ ms) y line))
    same_row l m ls ms rows line x y (Ok p) (Ok q) h rest =
        let more = rows_in kind ls (on names (rows + 1) ls x (line + 1)) in
        let others_more = rows_in kind ms (on others (rows + 1) ms y (line + 1)) in
        let same : p ≡ q = cc in
        told_with p more ∙ (ap (with_told p) rest ∙ (ap (λ row. with_told row (reading_outcome others_more)) same ∙ sym (told_with q others_more)))
    same_row l m ls ms rows line x y (Err p) (Err q) h rest = cc
    same_row l m ls ms rows line x y (Ok p) (Err q) h rest = cc
    same_row l m ls ms rows line x y (Err p) (Ok q) h rest = cc

    same_lines : (ls ms : List (List ℕ)) (rows line : ℕ) (x y : List ℕ) → SameLines kind.needed names others ls ms → reading_outcome (rows_in kind ls (on names rows ls x line)) ≡ reading_outcome (rows_in kind ms (on others rows ms y line))
    same_lines [] [] rows line x y s = refl
    same_lines [] (m ∷ ms) rows line x y s = absurd s
    same_lines (l ∷ ls) [] rows line x y s = absurd s
    same_lines (l ∷ ls) (m ∷ ms) rows line x y s =
        let b = on names rows (l ∷ ls) x line in
        let c = on others rows (m ∷ ms) y line in
        let row = row_of_cells kind b (cells l) in
        let other = row_of_cells kind c (cells m) in
        ⊎_elim
        (λ (t : SameTrailer l m).
        ap (λ is. reading_outcome (turn is row ls b)) t.trailer
        ∙ (ap (λ cs. reading_outcome {Row = Row} (no_rows (cond (bytes_eq (first_cell cs) (codes "END") && has_row_count rows cs) (Ok (rest_past_line ls b.left)) (sheet_refusal Trailer line 0)))) t.same
        ∙ (same_end (is_trailer m && has_row_count rows (cells m)) (rest_past_line ls b.left) (rest_past_line ms c.left) line refl
        ∙ sym (ap (λ is. reading_outcome (turn is other ms c)) t.other))))
        (λ (r : SameRow kind.needed names others l m × SameLines kind.needed names others ls ms).
        let places = places_of kind.needed names in
        let other_places = places_of kind.needed others in
        let many : length places ≡ length other_places = length-map kind.needed _ ∙ sym (length-map kind.needed _) in
        let told = alike (eqb (length (cells l)) (length names)) (eqb (length (cells m)) (length others)) places other_places (needed_cells places (cells l)) (needed_cells other_places (cells m)) line r.0.count (λ e. r.0.same (eqb-true _ _ e)) many in
        ap (λ is. reading_outcome (turn is row ls b)) r.0.row
        ∙ (same_row l m ls ms rows line x y row other told (same_lines ls ms (rows + 1) (line + 1) x y r.1)
        ∙ sym (ap (λ is. reading_outcome (turn is other ms c)) r.0.other)))
        s

  -- what a sheet says that has the needed names, by whether its first_cell line is accepted
  abbrev if_top : Bool → List Cell → List (List ℕ) → Rest → Result (List Row × Rest) SheetRefusal
  if_top t names rows left =
      rows_if_open kind (cond t (Ok (on names 0 rows left.loose (left.line + 1 + 1))) (sheet_refusal Mark left.line 0))

  named : (left : Rest) (top names : List ℕ) (rows : List (List ℕ)) → left.lines ≡ top ∷ (names ∷ rows) → are_columns kind.needed (cells names) ≡ true → reading_outcome (sheet_rows kind left) ≡ reading_outcome (if_top (is_top kind.mark (cells top)) (cells names) rows left)
  named left top names rows h e =
      ap (λ ls. reading_outcome (rows_if_open kind (open_at_top kind ls left))) h
      ∙ ap (λ n. reading_outcome (rows_if_open kind (cond (is_top kind.mark (cells top)) (cond n (Ok (on (cells names) 0 rows left.loose (left.line + 1 + 1))) (sheet_refusal Columns (left.line + 1) 0)) (sheet_refusal Mark left.line 0)))) e

  same_tops : (t : Bool) (left other : Rest) (names others : List Cell) (ls ms : List (List ℕ)) → left.line ≡ other.line → SameLines kind.needed names others ls ms → reading_outcome (if_top t names ls left) ≡ reading_outcome (if_top t others ms other)
  same_tops true left other names others ls ms h s =
      same_lines names others ls ms 0 (left.line + 1 + 1) left.loose other.loose s
      ∙ ap (λ n. reading_outcome (rows_in kind ms (on others 0 ms other.loose (n + 1 + 1)))) h
  same_tops false left other names others ls ms h s = ap (λ n. Err (Mark, n)) h

  pub same_readings : SameReadings kind
  same_readings left other s =
      let names = cells s.names in
      let others = cells s.other_names in
      named left s.top s.names s.rows s.lines s.named
      ∙ (same_tops (is_top kind.mark (cells s.top)) left other names others s.rows s.other_rows s.line s.same
      ∙ (ap (λ t. reading_outcome (if_top t others s.other_rows other)) s.tops
      ∙ sym (named other s.other_top s.other_names s.other_rows s.other_lines s.other_named)))
