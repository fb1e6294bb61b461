-- A sheet that is kept to its end: its rows are read, and kept one after another. Elsewhere its refusal is reported.
use Rattle.std.proofs.Common.{◌≡◌, ℕ, ◌+◌, ◌<◌, Bool, true, false, cond, ◌&&◌, List, [], ◌∷◌, length, Option, Some, None, Ok, Err, Result, sym, refl, ap, ◌∙◌, arith}
use Rattle.std.specs.List.{AllByRecursion}
use Rattle.text.specs.Cells.{Cell, cells}
use Rattle.sheet.specs.declared.refusal.SheetRefusal.{SheetRefusal}
use Rattle.sheet.specs.Kinds.{SheetKind, cell_at}
use Rattle.sheet.specs.Sheets.{Rest, OpenSheet, rest_past_line, needed_cells, has_row_count, row_of_cells, row_answer, is_trailer, row_in, next_row, one_row_later, after_answer, after_row, closed_at, close_answer, is_top, are_columns, started_sheet, open_at_names, open_at_top, open_answer}
use Rattle.sheet.specs.Laws.{HasNames, after_last, with_row, no_rows, rows_by_answer, rows_in, rows_if_open, sheet_rows}
use Rattle.sheet.proofs.Numbering.{lines_counted}
use Rattle.sheet.proofs.Rows.{all_from, opened_has_names, accepted_rows}
use Rattle.rows.specs.Laws.{all_fit}
use Rattle.run.specs.Refusals.{RowRefusal}
use Rattle.run.specs.KeptSheets.{KeptSheet, Keeping, trailer_outcome, row_outcome, next_outcome, kept_rest, opening_outcome, kept_sheet}

-- rows that are kept one after another
abbrev pub KeptAll : {Row S : Type 0} → Keeping Row S → S → List Row → S → Type 0
KeptAll keeping s [] t = s ≡ t
KeptAll {Row} {S} keeping s (r ∷ rs) t = (u : S) × ((keeping s r ≡ Ok u) × KeptAll keeping u rs t)

-- rows that are within their ranges
abbrev pub EachIn : {Row : Type 0} → (Row → Bool) → List Row → Type 0
EachIn in_range rows = AllByRecursion (λ r. in_range r ≡ true) rows

-- what is known of a kind: cells that fit make a row within its ranges, and each needed cell is judged
pub record Ranged {Row : Type 0} (kind : SheetKind Row) (in_range : Row → Bool) : Type 0 where
  pub fitting : (cell : ℕ → Cell) → all_fit kind cell ≡ true → in_range (kind.row cell) ≡ true
  pub judged : (cell : ℕ → Cell) → length (kind.fits cell) ≡ length kind.needed

-- what is kept of the rows that are left, up to the trailer
pub record ReadTo {Row S : Type 0} (kind : SheetKind Row) (in_range : Row → Bool) (keeping : Keeping Row S) (ls : List (List ℕ)) (b : OpenSheet) (s : S) (t : KeptSheet S) (rows : List Row) : Type 0 where
  pub read : rows_in kind ls b ≡ Ok (rows, t.left)
  pub many : t.rows ≡ b.rows + length rows
  pub line : b.left.line < t.left.line
  pub counted : after_last t.left ≡ after_last b.left
  pub ranged : EachIn in_range rows
  pub kept : KeptAll keeping s rows t.kept

-- what is kept of a whole sheet
pub record Read {Row S : Type 0} (kind : SheetKind Row) (in_range : Row → Bool) (keeping : Keeping Row S) (s : S) (left : Rest) (t : KeptSheet S) (rows : List Row) : Type 0 where
  pub read : sheet_rows kind left ≡ Ok (rows, t.left)
  pub many : t.rows ≡ length rows
  pub line : left.line < t.left.line
  pub counted : after_last t.left ≡ after_last left
  pub ranged : EachIn in_range rows
  pub kept : KeptAll keeping s rows t.kept

if_ok : {X E : Type 0} (t : Bool) (r : Result X E) (y : X) (e : E) → cond t r (Err e) ≡ Ok y → r ≡ Ok y
if_ok true r y e h = h
if_ok false r y e h = cc

same_ok : {X E : Type 0} (x y : X) → ◌≡◌ {A = Result X E} (Ok x) (Ok y) → x ≡ y
same_ok x y h = cc

closed_line : (ls : List (List ℕ)) (b : OpenSheet) (left : Rest) → closed_at b ls ≡ Ok left → left.line ≡ b.left.line + 1
closed_line [] b left e = cc
closed_line (l ∷ ls) b left e = sym (ap (λ (x : Rest). x.line) (same_ok _ _ (if_ok (is_trailer l && has_row_count b.rows (cells l)) (Ok (rest_past_line ls b.left)) left _ e)))

module _ {Row : Type 0} (kind : SheetKind Row) where
  pub opened_at : (ls : List (List ℕ)) (left : Rest) (b : OpenSheet) → open_at_top kind ls left ≡ Ok b → (b.rows ≡ 0) × (left.line < b.left.line)
  opened_at [] left b e = cc
  opened_at (top ∷ []) left b e = let r = if_ok (is_top kind.mark (cells top)) (open_at_names kind [] (rest_past_line [] left)) b _ e in cc
  opened_at (top ∷ (names ∷ ls)) left b e =
      let r = if_ok (is_top kind.mark (cells top)) (open_at_names kind (names ∷ ls) (rest_past_line (names ∷ ls) left)) b _ e in
      let same = same_ok _ _ (if_ok (are_columns kind.needed (cells names)) (Ok (started_sheet kind.needed (cells names) (rest_past_line ls (rest_past_line (names ∷ ls) left)))) b _ r) in
      let line : left.line + 1 + 1 ≡ b.left.line = ap (λ (x : OpenSheet). x.left.line) same in
      (ap (λ (x : OpenSheet). x.rows) (sym same), omega arith)

  -- the reading goes on by one line where a row is read
  gone_on : (ls : List (List ℕ)) (b : OpenSheet) (row : Row) → row_in kind b ls ≡ Ok (Some row) → ((one_row_later ls b).rows ≡ b.rows + 1) × ((one_row_later ls b).left.line ≡ b.left.line + 1)
  gone_on [] b row e = cc
  gone_on (l ∷ ls) b row e = (refl, refl)

  pub after_a_row : (b : OpenSheet) (row : Row) → next_row kind b ≡ Ok (Some row) → ((after_row kind b).rows ≡ b.rows + 1) × ((after_row kind b).left.line ≡ b.left.line + 1)
  after_a_row b row e =
      let g = gone_on b.left.lines b row e in
      (ap (λ n. (after_answer n b).rows) e ∙ g.0, ap (λ n. (after_answer n b).left.line) e ∙ g.1)

  pub stays_named : (n : Result (Option Row) SheetRefusal) (names : List Cell) (b : OpenSheet) → HasNames kind names b → HasNames kind names (after_answer n b)
  stays_named (Ok (Some row)) names b h = more b.left.lines
    where
      more : (ls : List (List ℕ)) → HasNames kind names (one_row_later ls b)
      more [] = h
      more (l ∷ ls) = record { named = h.named; places_are = h.places_are; width_is = h.width_is }
  stays_named (Ok None) names b h = h
  stays_named (Err e) names b h = h

  module _ (in_range : Row → Bool) (known : Ranged kind in_range) where
    row_ranged : (names : List Cell) (b : OpenSheet) (cs : List Cell) (row : Row) → HasNames kind names b → row_of_cells kind b cs ≡ Ok row → in_range row ≡ true
    row_ranged names b cs row h e =
        let a = accepted_rows kind known.judged names b cs row h e in
        let cell = cell_at (needed_cells b.places cs) in
        ap in_range a.made ∙ known.fitting cell (all_from (kind.fits cell) (λ i l. a.fit i (omega (arith, known.judged cell))))

    pub next_ranged : (ls : List (List ℕ)) (names : List Cell) (b : OpenSheet) (row : Row) → HasNames kind names b → row_in kind b ls ≡ Ok (Some row) → in_range row ≡ true
    next_ranged [] names b row h e = cc
    next_ranged (l ∷ ls) names b row h e = among (is_trailer l) (row_of_cells kind b (cells l)) refl e
      where
        among : (t : Bool) (r : Result Row SheetRefusal) → row_of_cells kind b (cells l) ≡ r → cond t (Ok None) (row_answer r) ≡ Ok (Some row) → in_range row ≡ true
        among true r q e = cc
        among false (Ok x) q e = row_ranged names b (cells l) row h (q ∙ (let s : x ≡ row = cc in ap Ok s))
        among false (Err d) q e = cc

    module _ {S : Type 0} (keeping : Keeping Row S) where
      ended : (c : Result Rest SheetRefusal) (b : OpenSheet) (s : S) (t : KeptSheet S) → close_answer b ≡ c → trailer_outcome s b.rows c ≡ Ok t →
          (no_rows {Row = Row} (close_answer b) ≡ Ok ([], t.left)) × ((t.rows ≡ b.rows) × ((b.left.line < t.left.line) × ((s ≡ t.kept) × (after_last t.left ≡ after_last b.left))))
      ended (Ok left) b s t q e =
          let same : record { kept = s; rows = b.rows; left = left } ≡ t = cc in
          let line = closed_line b.left.lines b left q in
          let moved = ap (λ (u : KeptSheet S). u.left.line) same in
          (ap no_rows q ∙ ap (λ (u : KeptSheet S). Ok ([], u.left)) same, (ap (λ (u : KeptSheet S). u.rows) (sym same), (omega arith, (ap (λ (u : KeptSheet S). u.kept) same, ap (λ (u : KeptSheet S). after_last u.left) (sym same) ∙ (lines_counted kind).closing b left q))))
      ended (Err d) b s t q e = cc

      read_to : (ls : List (List ℕ)) (names : List Cell) (b : OpenSheet) (s : S) (t : KeptSheet S) → HasNames kind names b → kept_rest kind keeping ls b s ≡ Ok t → (rows : List Row) × ReadTo kind in_range keeping ls b s t rows
      read_to [] names b s t h e =
          let z = ended (close_answer b) b s t refl e in
          ([], record { read = z.0; many = omega (arith, z.1.0); line = z.1.1.0; counted = z.1.1.1.1; ranged = tt; kept = z.1.1.1.0 })
      read_to (l ∷ ls) names b s t h e = by_next (next_row kind b) refl e (read_to ls names (after_row kind b))
        where
          by_next : (n : Result (Option Row) SheetRefusal) → next_row kind b ≡ n → next_outcome keeping b s (kept_rest kind keeping ls (after_row kind b)) n ≡ Ok t →
              ((u : S) (t : KeptSheet S) → HasNames kind names (after_row kind b) → kept_rest kind keeping ls (after_row kind b) u ≡ Ok t → (rows : List Row) × ReadTo kind in_range keeping ls (after_row kind b) u t rows) →
              (rows : List Row) × ReadTo kind in_range keeping (l ∷ ls) b s t rows
          by_next (Err d) q e further = cc
          by_next (Ok None) q e further =
              let z = ended (close_answer b) b s t refl e in
              ([], record { read = ap (λ n. rows_by_answer n (rows_in kind ls (after_row kind b)) (close_answer b)) q ∙ z.0; many = omega (arith, z.1.0); line = z.1.1.0; counted = z.1.1.1.1; ranged = tt; kept = z.1.1.1.0 })
          by_next (Ok (Some row)) q e further = taken (keeping s row) refl e
            where
              taken : (k : Result S RowRefusal) → keeping s row ≡ k → row_outcome b.left.line (kept_rest kind keeping ls (after_row kind b)) k ≡ Ok t → (rows : List Row) × ReadTo kind in_range keeping (l ∷ ls) b s t rows
              taken (Err d) k e = cc
              taken (Ok u) k e =
                  let r = further u t (stays_named (next_row kind b) names b h) e in
                  let a = after_a_row b row q in
                  let many = r.1.many in
                  let line = r.1.line in (
                    row ∷ r.0,
                    record {
                      read = ap (λ n. rows_by_answer n (rows_in kind ls (after_row kind b)) (close_answer b)) q ∙ ap (with_row row) r.1.read;
                      many = omega (arith, a.0);
                      line = omega (arith, a.1);
                      counted = r.1.counted ∙ (lines_counted kind).row b;
                      ranged = (next_ranged b.left.lines names b row h q, r.1.ranged);
                      kept = (u, (k, r.1.kept));
                    },
                  )

      pub sheet_read : (s : S) (left : Rest) (t : KeptSheet S) → kept_sheet kind keeping s left ≡ Ok t → (rows : List Row) × Read kind in_range keeping s left t rows
      sheet_read s left t e = by_opening (open_answer kind left) refl e
        where
          by_opening : (o : Result OpenSheet SheetRefusal) → open_answer kind left ≡ o → opening_outcome kind keeping s o ≡ Ok t → (rows : List Row) × Read kind in_range keeping s left t rows
          by_opening (Err d) q e = cc
          by_opening (Ok b) q e =
              let n = opened_has_names kind left b q in
              let r = read_to b.left.lines (cells n.1.0) b s t n.1.1.1 e in
              let a = opened_at left.lines left b q in
              let many = r.1.many in
              let line = r.1.line in
              (r.0, record { read = ap (rows_if_open kind) q ∙ r.1.read; many = omega (arith, a.0); line = omega (arith, a.1); counted = r.1.counted ∙ (lines_counted kind).opening left b q; ranged = r.1.ranged; kept = r.1.kept })
