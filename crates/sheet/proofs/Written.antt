-- A sheet is read just as it is written.
use Rattle.std.proofs.Common.{◌≡◌, ℕ, zero, suc, ◌+◌, ◌<◌, ◌≤◌, Bool, true, false, cond, eqb, leb, ◌&&◌, List, [], ◌∷◌, ◌++◌, length, Option, Some, None, Result, Ok, Err, refl, sym, ap, ap₂, ◌∙◌, subst, arith}
use Rattle.std.specs.Prelude.{is_some, codes, option_and_then}
use Rattle.std.specs.List.{list_all}
use Rattle.std.specs.Str.{bytes_eq}
use Rattle.std.proofs.lemmas.Bool.{both_ways, false_from_ne_true, and_parts, and_from, cond-true, eqb-true, eq-eqb, leb-true, le-leb, false≢true}
use Rattle.std.proofs.lemmas.List.{length-map}
use Rattle.std.proofs.lemmas.Option.{cond_some}
use Rattle.std.proofs.lemmas.Slice.Eq.{bytes_eq-Decides}
use Rattle.text.specs.Cells.{Cell, cells}
use Rattle.text.specs.Numbers.{number, within, number_in}
use Rattle.quantities.specs.declared.refusal.Refusal.TheVariants.{Mark, Columns, Trailer}
use Rattle.sheet.specs.declared.refusal.SheetRefusal.{SheetRefusal}
use Rattle.sheet.specs.Kinds.{SheetKind, cell_at}
use Rattle.sheet.specs.Sheets.{Rest, OpenSheet, sheet_refusal, rest_past_line, started_sheet, is_top, count_of, place_of, are_named, are_columns, places_of, first_cell, is_trailer, needed_cells, leftmost, row_if, row_of_cells, row_answer, after_answer, has_row_count, closed_at, open_at_top}
use Rattle.sheet.specs.Laws.{with_row, no_rows, rows_by_answer, rows_in, rows_if_open, sheet_rows}
use Rattle.sheet.specs.Written.{AreWordAndNumber, StandsOnce, EachStands, IsRowLine, EachOnLine, IsSheet, ReadAsWritten}
use Rattle.sheet.proofs.Leftmost.{none_misfits, all_fit}
use Rattle.sheet.proofs.Names.{stands, nowhere_else}
use Rattle.sheet.proofs.Rows.{if_ok, if_row, same_ok}

-- ---- a word and a number
in_range : (low high : ℕ) (o : Option ℕ) → is_some (option_and_then (within low high) o) ≡ true → (n : ℕ) × ((o ≡ Some n) × ((low ≤ n) × (n ≤ high)))
in_range low high None e = absurd (false≢true e)
in_range low high (Some n) e = among (leb low n && leb n high) refl e
  where
    among : (t : Bool) → (leb low n && leb n high) ≡ t → is_some (cond t (Some n) None) ≡ true → (m : ℕ) × ((Some n ≡ Some m) × ((low ≤ m) × (m ≤ high)))
    among true q e = let p = and_parts (leb low n) (leb n high) q in (n, (refl, (leb-true _ _ p.0, leb-true _ _ p.1)))
    among false q e = absurd (false≢true e)

spelled_in : (low high n : ℕ) (cell : Cell) → number cell ≡ Some n → low ≤ n → n ≤ high → is_some (number_in low high cell) ≡ true
spelled_in low high n cell e l h = rw (e, le-leb low n l, le-leb n high h) refl

pub top_written : (mark : Cell) (cs : List Cell) → is_top mark cs ≡ true → (v : ℕ) × ((1 ≤ v) × ((v ≤ 255) × AreWordAndNumber mark v cs))
top_written mark [] e = absurd (false≢true e)
top_written mark (m ∷ []) e = absurd (false≢true e)
top_written mark (m ∷ (v ∷ [])) e =
    let p = and_parts (bytes_eq m mark) (is_some (number_in 1 255 v)) e in
    let n = in_range 1 255 (number v) p.1 in
    (n.0, (n.1.1.0, (n.1.1.1, record { spelling = v; cells_are = ap (λ x. x ∷ (v ∷ [])) ((bytes_eq-Decides m mark).0 p.0); spells = n.1.0 })))
top_written mark (m ∷ (v ∷ (c ∷ cs))) e = absurd (false≢true e)

pub top_read : (mark : Cell) (v : ℕ) (cs : List Cell) → 1 ≤ v → v ≤ 255 → AreWordAndNumber mark v cs → is_top mark cs ≡ true
top_read mark v cs l h w = ap (is_top mark) w.cells_are ∙ and_from _ _ ((bytes_eq-Decides mark mark).1 refl) (spelled_in 1 255 v w.spelling w.spells l h)

pub trailer_written : (n : ℕ) (cs : List Cell) → (bytes_eq (first_cell cs) (codes "END") && has_row_count n cs) ≡ true → AreWordAndNumber (codes "END") n cs
trailer_written n [] e = absurd (false≢true (and_parts (bytes_eq [] (codes "END")) false e).1)
trailer_written n (c ∷ []) e = absurd (false≢true (and_parts (bytes_eq c (codes "END")) false e).1)
trailer_written n (c ∷ (s ∷ [])) e =
    let p = and_parts (bytes_eq c (codes "END")) (is_some (number_in n n s)) e in
    let m = in_range n n (number s) p.1 in
    let low = m.1.1.0 in
    let high = m.1.1.1 in
    record { spelling = s; cells_are = ap (λ x. x ∷ (s ∷ [])) ((bytes_eq-Decides c (codes "END")).0 p.0); spells = m.1.0 ∙ ap Some (omega arith) }
trailer_written n (c ∷ (s ∷ (d ∷ cs))) e = absurd (false≢true (and_parts (bytes_eq c (codes "END")) false e).1)

pub trailer_read : (n : ℕ) (cs : List Cell) → AreWordAndNumber (codes "END") n cs → (bytes_eq (first_cell cs) (codes "END") ≡ true) × (has_row_count n cs ≡ true)
trailer_read n cs w = (ap (λ ds. bytes_eq (first_cell ds) (codes "END")) w.cells_are, ap (has_row_count n) w.cells_are ∙ spelled_in n n n w.spelling w.spells (omega arith) (omega arith))

-- ---- a line whose first cell is END, or another
pub is_end : (l : List ℕ) → is_trailer l ≡ true → first_cell (cells l) ≡ codes "END"
is_end l = (bytes_eq-Decides (first_cell (cells l)) (codes "END")).0

pub end_passes : (l : List ℕ) → first_cell (cells l) ≡ codes "END" → is_trailer l ≡ true
end_passes l = (bytes_eq-Decides (first_cell (cells l)) (codes "END")).1

pub no_end : (l : List ℕ) → is_trailer l ≡ false → first_cell (cells l) ≡ codes "END" → ⊥
no_end l t e = both_ways (is_trailer l) t (end_passes l e)

pub no_end_fails : (l : List ℕ) → (first_cell (cells l) ≡ codes "END" → ⊥) → is_trailer l ≡ false
no_end_fails l n = false_from_ne_true (is_trailer l) (λ t. n (is_end l t))

-- ---- the needed names
pub stands_once : (name : Cell) (names : List Cell) → count_of name names ≡ 1 → StandsOnce names name (place_of name names)
stands_once name names once = let s = stands name names once in record { within = s.0; there = s.1; nowhere_else = λ q l h. sym (nowhere_else name names q once l h) }

pub each_stands : (needed names : List Cell) → are_named needed names ≡ true → EachStands names needed (places_of needed names)
each_stands [] names e = tt
each_stands (n ∷ ns) names e =
    let p = and_parts (eqb (count_of n names) 1) (are_named ns names) e in
    let once = eqb-true _ _ p.0 in
    (stands_once n names once, each_stands ns names p.1)

is_there : (name n : Cell) → bytes_eq name n ≡ true → n ≡ name
is_there name n e = sym ((bytes_eq-Decides name n).0 e)

counted_none : (name : Cell) (names : List Cell) → ((p : ℕ) → p < length names → cell_at names p ≡ name → ⊥) → count_of name names ≡ 0
counted_none name [] h = refl
counted_none name (n ∷ ns) h = further (bytes_eq name n) refl (counted_none name ns (λ p l e. h (suc p) (omega arith) e))
  where
    further : (t : Bool) → bytes_eq name n ≡ t → count_of name ns ≡ 0 → cond t (1 + count_of name ns) (count_of name ns) ≡ 0
    further true q e = absurd (h 0 (omega arith) (is_there name n q))
    further false q e = e

pub counted_once : (name : Cell) (names : List Cell) (p : ℕ) → StandsOnce names name p → count_of name names ≡ 1
counted_once name [] p s = absurd (omega (arith, s.within))
counted_once name (n ∷ ns) p s = further (bytes_eq name n) p refl s (counted_once name ns)
  where
    further : (t : Bool) (p : ℕ) → bytes_eq name n ≡ t → StandsOnce (n ∷ ns) name p → ((q : ℕ) → StandsOnce ns name q → count_of name ns ≡ 1) → cond t (1 + count_of name ns) (count_of name ns) ≡ 1
    further true p q s rest =
        let first = s.nowhere_else 0 (omega arith) (is_there name n q) in
        let none = counted_none name ns (λ r l e. let other = s.nowhere_else (suc r) (omega arith) e in omega (arith, first, other)) in
        omega (arith, none)
    further false zero q s rest = absurd (false≢true (sym q ∙ (bytes_eq-Decides name n).1 (sym s.there)))
    further false (suc p) q s rest =
        rest p (record { within = (let w = s.within in omega arith); there = s.there; nowhere_else = λ r l e. let same = s.nowhere_else (suc r) (omega arith) e in omega (arith, same) })

pub places_stand : (needed names : List Cell) (places : List ℕ) → EachStands names needed places → (are_named needed names ≡ true) × (places_of needed names ≡ places)
places_stand [] names [] h = (refl, refl)
places_stand [] names (p ∷ ps) h = absurd h
places_stand (n ∷ ns) names [] h = absurd h
places_stand (n ∷ ns) names (p ∷ ps) h =
    let once = counted_once n names p h.0 in
    let rest = places_stand ns names ps h.1 in
    (and_from _ _ (eq-eqb _ _ once) rest.0, ap₂ (λ x xs. x ∷ xs) (nowhere_else n names p once h.0.within h.0.there) rest.1)

-- ---- rows, up to their trailer
module _ {Row : Type 0} (kind : SheetKind Row) (places : List ℕ) (width : ℕ) (loose : List ℕ) where
  abbrev reading : ℕ → ℕ → List (List ℕ) → OpenSheet
  reading n line ls = record { places = places; width = width; rows = n; left = record { lines = ls; loose = loose; line = line } }

  record Body (n line : ℕ) (ls : List (List ℕ)) (rows : List Row) (behind : Rest) : Type 0 where
    pub row_lines : List (List ℕ)
    pub trailer : List ℕ
    pub lines : ls ≡ row_lines ++ trailer ∷ behind.lines
    pub each : EachOnLine kind places width row_lines rows
    pub ended : AreWordAndNumber (codes "END") (n + length rows) (cells trailer)
    pub loose_is : behind.loose ≡ loose
    pub line_is : behind.line ≡ line + (length rows + 1)

  module _ (n line : ℕ) (l : List ℕ) (ls : List (List ℕ)) where
    abbrev at : OpenSheet
    at = reading n line (l ∷ ls)

    abbrev cell : ℕ → Cell
    cell = cell_at (needed_cells places (cells l))

    row_read : (row : Row) → IsRowLine kind places width l row → row_of_cells kind at (cells l) ≡ Ok row
    row_read row w =
        let c = cond_some (list_all (λ f. f) (kind.fits cell)) (kind.row cell) row w.makes in
        cond-true _ _ _ (eq-eqb (length (cells l)) width w.count) ∙ (ap (λ o. row_if o (kind.row cell) line) (all_fit (kind.fits cell) places c.0) ∙ ap Ok c.1)

    row_written : length (kind.fits cell) ≤ length places → (row : Row) → is_trailer l ≡ false → row_of_cells kind at (cells l) ≡ Ok row → IsRowLine kind places width l row
    row_written judged row q e =
        let t = if_ok (eqb (length (cells l)) width) (row_if (leftmost (kind.fits cell) places) (kind.row cell) line) _ row e in
        let r = if_row (leftmost (kind.fits cell) places) (kind.row cell) line row t.1 in
        let all = none_misfits (kind.fits cell) places judged r.0 in
        record {
          no_trailer = no_end l q;
          count = eqb-true _ _ t.0;
          makes = cond-true _ _ _ all ∙ ap Some r.1;
        }

    end_written : (rows : List Row) (behind : Rest) → no_rows (closed_at at (l ∷ ls)) ≡ Ok (rows, behind) → Body n line (l ∷ ls) rows behind
    end_written rows behind e = by_test (is_trailer l && has_row_count n (cells l)) refl e
      where
        by_test : (t : Bool) → (is_trailer l && has_row_count n (cells l)) ≡ t → no_rows (cond t (Ok (rest_past_line ls at.left)) (sheet_refusal Trailer line 0)) ≡ Ok (rows, behind) → Body n line (l ∷ ls) rows behind
        by_test true q e =
            subst (λ (p : List Row × Rest). Body n line (l ∷ ls) p.0 p.1) (same_ok _ _ e)
            (record { row_lines = []; trailer = l; lines = refl; each = tt; ended = subst (λ m. AreWordAndNumber (codes "END") m (cells l)) (omega arith) (trailer_written n (cells l) q); loose_is = refl; line_is = refl })
        by_test false q e = cc

    end_read : AreWordAndNumber (codes "END") n (cells l) → rows_in kind (l ∷ ls) at ≡ Ok ([], rest_past_line ls at.left)
    end_read w =
        let t = trailer_read n (cells l) w in
        ap (λ x. rows_by_answer (cond x (Ok None) (row_answer (row_of_cells kind at (cells l)))) (rows_in kind ls (after_answer (cond x (Ok None) (row_answer (row_of_cells kind at (cells l)))) at)) (closed_at at (l ∷ ls))) t.0
        ∙ ap no_rows (cond-true (is_trailer l && has_row_count n (cells l)) _ _ (and_from _ _ t.0 t.1))

  module _ (judged : (cell : ℕ → Cell) → length (kind.fits cell) ≤ length places) where
    body_written : (ls : List (List ℕ)) (n line : ℕ) (rows : List Row) (behind : Rest) → rows_in kind ls (reading n line ls) ≡ Ok (rows, behind) → Body n line ls rows behind
    body_written [] n line rows behind e = cc
    body_written (l ∷ ls) n line rows behind e = by_next (is_trailer l) (row_of_cells kind b (cells l)) refl refl e (body_written ls (n + 1) (line + 1))
      where
        b : OpenSheet
        b = reading n line (l ∷ ls)

        by_next : (t : Bool) (r : Result Row SheetRefusal) → is_trailer l ≡ t → row_of_cells kind b (cells l) ≡ r →
            (let a = cond t (Ok None) (row_answer r) in rows_by_answer a (rows_in kind ls (after_answer a b)) (closed_at b (l ∷ ls)) ≡ Ok (rows, behind)) →
            ((rs : List Row) (left : Rest) → rows_in kind ls (reading (n + 1) (line + 1) ls) ≡ Ok (rs, left) → Body (n + 1) (line + 1) ls rs left) →
            Body n line (l ∷ ls) rows behind
        by_next true r q h e rest = end_written n line l ls rows behind e
        by_next false (Err d) q h e rest = cc
        by_next false (Ok row) q h e rest = with_rest (rows_in kind ls (reading (n + 1) (line + 1) ls)) refl e
          where
            with_rest : (f : Result (List Row × Rest) SheetRefusal) → rows_in kind ls (reading (n + 1) (line + 1) ls) ≡ f → with_row row f ≡ Ok (rows, behind) → Body n line (l ∷ ls) rows behind
            with_rest (Err d) g e = cc
            with_rest (Ok p) g e =
                let w = rest p.0 p.1 g in
                let long = w.line_is in
                subst (λ (z : List Row × Rest). Body n line (l ∷ ls) z.0 z.1) (same_ok _ _ e)
                (record {
                  row_lines = l ∷ w.row_lines;
                  trailer = w.trailer;
                  lines = ap (λ xs. l ∷ xs) w.lines;
                  each = (row_written n line l ls (judged (cell n line l ls)) row q h, w.each);
                  ended = subst (λ m. AreWordAndNumber (codes "END") m (cells w.trailer)) (omega arith) w.ended;
                  loose_is = w.loose_is;
                  line_is = omega (arith, long);
                })

  body_read : (row_lines : List (List ℕ)) (rows : List Row) (n line : ℕ) (trailer : List ℕ) (ls : List (List ℕ)) → EachOnLine kind places width row_lines rows → AreWordAndNumber (codes "END") (n + length rows) (cells trailer) →
      rows_in kind (row_lines ++ trailer ∷ ls) (reading n line (row_lines ++ trailer ∷ ls)) ≡ Ok (rows, record { lines = ls; loose = loose; line = line + (length rows + 1) })
  body_read [] [] n line trailer ls h w = end_read n line trailer ls (subst (λ m. AreWordAndNumber (codes "END") m (cells trailer)) (omega arith) w)
  body_read [] (r ∷ rs) n line trailer ls h w = absurd h
  body_read (l ∷ row_lines) [] n line trailer ls h w = absurd h
  body_read (l ∷ row_lines) (r ∷ rs) n line trailer ls h w =
      let more = row_lines ++ trailer ∷ ls in
      let b = reading n line (l ∷ more) in
      let plain = no_end_fails l h.0.no_trailer in
      let next : cond (is_trailer l) (Ok None) (row_answer (row_of_cells kind b (cells l))) ≡ Ok (Some r) = rw (plain, row_read n line l more r h.0) refl in
      let rest = body_read row_lines rs (n + 1) (line + 1) trailer ls h.1 (subst (λ m. AreWordAndNumber (codes "END") m (cells trailer)) (omega arith) w) in
      ap (λ a. rows_by_answer a (rows_in kind more (after_answer a b)) (closed_at b (l ∷ more))) next
      ∙ ap (with_row r) (rest ∙ ap (λ m. Ok (rs, record { lines = ls; loose = loose; line = m })) (omega arith))

-- ---- a whole sheet
module _ {Row : Type 0} (kind : SheetKind Row) (judged : (cell : ℕ → Cell) → length (kind.fits cell) ≡ length kind.needed) where
  sheet_written : (ls : List (List ℕ)) (loose : List ℕ) (line : ℕ) (rows : List Row) (behind : Rest) → let left : Rest = record { lines = ls; loose = loose; line = line } in
      sheet_rows kind left ≡ Ok (rows, behind) → IsSheet kind left rows behind
  sheet_written [] loose line rows behind e = cc
  sheet_written (top ∷ []) loose line rows behind e = by_top (is_top kind.mark (cells top)) e
    where
      by_top : (t : Bool) → rows_if_open kind (cond t (sheet_refusal Columns (line + 1) 0) (sheet_refusal Mark line 0)) ≡ Ok (rows, behind) → IsSheet kind (record { lines = top ∷ []; loose = loose; line = line }) rows behind
      by_top true e = cc
      by_top false e = cc
  sheet_written (top ∷ (names ∷ ls)) loose line rows behind e = opened (is_top kind.mark (cells top)) (are_columns kind.needed (cells names)) refl refl e
    where
      left : Rest
      left = record { lines = top ∷ (names ∷ ls); loose = loose; line = line }

      begun : OpenSheet
      begun = started_sheet kind.needed (cells names) (rest_past_line ls (rest_past_line (names ∷ ls) left))

      opened : (t u : Bool) → is_top kind.mark (cells top) ≡ t → are_columns kind.needed (cells names) ≡ u → rows_if_open kind (cond t (cond u (Ok begun) (sheet_refusal Columns (line + 1) 0)) (sheet_refusal Mark line 0)) ≡ Ok (rows, behind) → IsSheet kind left rows behind
      opened false u p q e = cc
      opened true false p q e = cc
      opened true true p q e =
          let v = top_written kind.mark (cells top) p in
          let c = and_parts (leb (length (cells names)) 32) (are_named kind.needed (cells names)) q in
          let enough : (cell : ℕ → Cell) → length (kind.fits cell) ≤ length (places_of kind.needed (cells names)) = λ cell. let same = judged cell in let long = length-map kind.needed (λ name. place_of name (cells names)) in omega (arith, same, long) in
          let w = body_written kind (places_of kind.needed (cells names)) (length (cells names)) loose enough ls 0 (line + 1 + 1) rows behind e in
          let long = w.line_is in
          record {
            names = cells names;
            trailer = w.trailer;
            reads =
                record {
                  top = top;
                  name_line = names;
                  row_lines = w.row_lines;
                  lines = ap (λ xs. top ∷ (names ∷ xs)) w.lines;
                  top_is = record { version = v.0; from_1 = v.1.0; to_255 = v.1.1.0; marked = v.1.1.1 };
                  names_are = refl;
                  few = leb-true _ _ c.0;
                  places = places_of kind.needed (cells names);
                  named = each_stands kind.needed (cells names) c.1;
                  each = w.each;
                };
            ended = subst (λ m. AreWordAndNumber (codes "END") m (cells w.trailer)) (omega arith) w.ended;
            loose = w.loose_is;
            line = omega (arith, long);
          }

  sheet_read : (left : Rest) (rows : List Row) (behind : Rest) → IsSheet kind left rows behind → sheet_rows kind left ≡ Ok (rows, behind)
  sheet_read left rows behind w =
      let r = w.reads in
      let top = r.top_is in
      let named = places_stand kind.needed w.names r.places r.named in
      let more = r.row_lines ++ w.trailer ∷ behind.lines in
      let begun = reading kind r.places (length w.names) left.loose 0 (left.line + 1 + 1) more in
      let opens : (ns : List Cell) → w.names ≡ ns → cond (are_columns kind.needed ns) (Ok (started_sheet kind.needed ns begun.left)) (sheet_refusal Columns (left.line + 1) 0) ≡ Ok begun =
      λ ns e. subst (λ ns. cond (are_columns kind.needed ns) (Ok (started_sheet kind.needed ns begun.left)) (sheet_refusal Columns (left.line + 1) 0) ≡ Ok begun) e
      (cond-true _ _ _ (and_from _ _ (le-leb _ _ r.few) named.0) ∙ ap (λ ps. Ok (reading kind ps (length w.names) left.loose 0 (left.line + 1 + 1) more)) named.1) in
      let begins : open_at_top kind (r.top ∷ (r.name_line ∷ more)) left ≡ Ok begun =
      cond-true _ _ _ (top_read kind.mark top.version (cells r.top) top.from_1 top.to_255 top.marked) ∙ opens (cells r.name_line) r.names_are in
      let there : record { lines = behind.lines; loose = left.loose; line = left.line + 1 + 1 + (length rows + 1) } ≡ behind =
      ap₂ (λ loose line. record { lines = behind.lines; loose = loose; line = line }) (sym w.loose) (let l = w.line in omega (arith, l)) in
      ap (λ ls. rows_if_open kind (open_at_top kind ls left)) r.lines
      ∙ (ap (rows_if_open kind) begins
      ∙ (body_read kind r.places (length w.names) left.loose r.row_lines rows 0 (left.line + 1 + 1) w.trailer behind.lines r.each (subst (λ m. AreWordAndNumber (codes "END") m (cells w.trailer)) (omega arith) w.ended)
      ∙ ap (λ b. Ok (rows, b)) there))

  pub read_as_written : ReadAsWritten kind
  read_as_written left rows behind = (sheet_written left.lines left.loose left.line rows behind, sheet_read left rows behind)
