-- What is refused of a sheet, and with which numbers.
use Rattle.std.proofs.Common.{◌≡◌, ℕ, suc, ◌+◌, ◌<◌, ◌≤◌, ◌≢◌, ◌⊎◌, inl, inr, Bool, true, false, cond, not, ◌&&◌, eqb, leb, List, [], ◌∷◌, length, Option, Some, None, Ok, Err, Result, sym, refl, ap, ◌∙◌, subst, arith}
use Rattle.std.proofs.lemmas.Bool.{and_parts, leb-true, eqb-false, not-true}
use Rattle.text.specs.Cells.{Cell, cells}
use Rattle.quantities.specs.declared.refusal.Refusal.{Refusal}
use Rattle.quantities.specs.declared.refusal.Refusal.TheVariants.{Mark, Columns, CellCount, Trailer}
use Rattle.quantities.specs.Refusals.{number}
use Rattle.sheet.specs.declared.refusal.SheetRefusal.{SheetRefusal}
use Rattle.sheet.specs.Kinds.{SheetKind, cell_at}
use Rattle.sheet.specs.Sheets.{Rest, OpenSheet, rest_past_line, needed_cells, leftmost, row_if, has_row_count, row_of_cells, row_answer, is_trailer, row_in, next_row, after_row, closed_at, close_answer, is_top, are_columns, started_sheet, open_at_names, open_at_top, open_answer}
use Rattle.sheet.specs.Laws.{HasNames, after_last, IsOfLineLeft}
use Rattle.sheet.proofs.Numbering.{lines_counted, lines_reported}
use Rattle.sheet.proofs.Rows.{opened_has_names}
use Rattle.run.specs.Refusals.{RowRefusal, PlacedRefusal, refusal_of_book, placed_sheet_refusal}
use Rattle.run.specs.KeptSheets.{Keeping, trailer_outcome, row_outcome, next_outcome, kept_rest, opening_outcome, kept_sheet}
use Rattle.run.specs.Runs.{input}
use Rattle.run.specs.Laws.{IsReadingOf, HasRow, RowHasReference, IsSheetRefusal, IsBookRefusal}
use Rattle.run.proofs.RowKinds.{Numbered}
use Rattle.run.proofs.Sheets.{Ranged, opened_at, after_a_row, stays_named, next_ranged}

-- the numbers of a sheet
record IsReported (e : SheetRefusal) : Type 0 where
  pub from_1 : 1 ≤ number e.refusal
  pub to_5 : number e.refusal ≤ 5
  pub cell : number e.refusal ≢ 4 → e.cell ≡ 0
  pub value : number e.refusal ≡ 4 → 1 ≤ e.cell

-- where it is about no one cell
of_a_line : (r : Refusal) (line : ℕ) → (leb 1 (number r) && (leb (number r) 5 && not (eqb (number r) 4))) ≡ true → IsReported (record { refusal = r; line = line; cell = 0 })
of_a_line r line h =
    let a = and_parts (leb 1 (number r)) (leb (number r) 5 && not (eqb (number r) 4)) h in
    let b = and_parts (leb (number r) 5) (not (eqb (number r) 4)) a.1 in
    let other = eqb-false (number r) 4 (not-true (eqb (number r) 4) b.1) in
    record { from_1 = leb-true 1 (number r) a.0; to_5 = leb-true (number r) 5 b.0; cell = λ n. refl; value = λ n. absurd (other n) }

-- what is left of an input, from a line on
pub record LeftOf (bytes : List ℕ) (first : ℕ) (left : Rest) : Type 0 where
  pub from : first ≤ left.line
  pub counted : after_last left ≡ after_last (input bytes)

reported : (bytes : List ℕ) (left : Rest) (e : SheetRefusal) → LeftOf bytes 1 left → IsOfLineLeft left e → IsReported e → IsSheetRefusal bytes (placed_sheet_refusal e)
reported bytes left e l m t =
    let from = l.from in
    let counted = l.counted in
    record { layer = refl; from_1 = t.from_1; to_5 = t.to_5; line = omega (arith, m.0); within = omega (arith, m.1); cell = t.cell; value = t.value; reference = refl }

same_err : {X E : Type 0} (d e : E) → ◌≡◌ {A = Result X E} (Err d) (Err e) → d ≡ e
same_err d e h = cc

-- what is refused where a test fails
if_err : {X E : Type 0} (P : E → Type 0) (t : Bool) (r : Result X E) (d e : E) → (r ≡ Err e → P e) → P d → cond t r (Err d) ≡ Err e → P e
if_err P true r d e h p q = h q
if_err P false r d e h p q = subst P (same_err d e q) p

module _ {Row : Type 0} (kind : SheetKind Row) where
  opening_reported : (ls : List (List ℕ)) (left : Rest) (e : SheetRefusal) → open_at_top kind ls left ≡ Err e → IsReported e
  opening_reported [] left e h = subst IsReported (same_err _ e h) (of_a_line Mark left.line refl)
  opening_reported (top ∷ ls) left e h = if_err IsReported (is_top kind.mark (cells top)) (open_at_names kind ls (rest_past_line ls left)) _ e (names_reported ls) (of_a_line Mark left.line refl) h
    where
      names_reported : (ms : List (List ℕ)) → open_at_names kind ms (rest_past_line ls left) ≡ Err e → IsReported e
      names_reported [] h = subst IsReported (same_err _ e h) (of_a_line Columns (left.line + 1) refl)
      names_reported (names ∷ ms) h =
          if_err IsReported (are_columns kind.needed (cells names)) (Ok (started_sheet kind.needed (cells names) (rest_past_line ms (rest_past_line ls left)))) _ e (λ q. cc) (of_a_line Columns (left.line + 1) refl) h

  value_reported : (o : Option ℕ) (row : Row) (line : ℕ) (e : SheetRefusal) → row_if o row line ≡ Err e → IsReported e
  value_reported None row line e h = cc
  value_reported (Some place) row line e h =
      subst IsReported (same_err _ e h) (record { from_1 = omega arith; to_5 = omega arith; cell = λ n. absurd (n refl); value = λ n. omega arith })

  row_reported : (ls : List (List ℕ)) (b : OpenSheet) (e : SheetRefusal) → row_in kind b ls ≡ Err e → IsReported e
  row_reported [] b e h = cc
  row_reported (l ∷ ls) b e h = among (is_trailer l) (row_of_cells kind b (cells l)) refl h
    where
      cell : ℕ → Cell
      cell = cell_at (needed_cells b.places (cells l))

      among : (t : Bool) (r : Result Row SheetRefusal) → row_of_cells kind b (cells l) ≡ r → cond t (Ok None) (row_answer r) ≡ Err e → IsReported e
      among true r q h = cc
      among false (Ok row) q h = cc
      among false (Err d) q h =
          if_err IsReported (eqb (length (cells l)) b.width) (row_if (leftmost (kind.fits cell) b.places) (kind.row cell) b.left.line) _ e
          (value_reported (leftmost (kind.fits cell) b.places) (kind.row cell) b.left.line e)
          (of_a_line CellCount b.left.line refl)
          (q ∙ (let s : d ≡ e = cc in ap Err s))

  trailer_reported : (ls : List (List ℕ)) (b : OpenSheet) (e : SheetRefusal) → closed_at b ls ≡ Err e → IsReported e
  trailer_reported [] b e h = subst IsReported (same_err _ e h) (of_a_line Trailer b.left.line refl)
  trailer_reported (l ∷ ls) b e h = if_err IsReported (is_trailer l && has_row_count b.rows (cells l)) (Ok (rest_past_line ls b.left)) _ e (λ q. cc) (of_a_line Trailer b.left.line refl) h

  -- a row stands on a line of the input
  row_within : (ls : List (List ℕ)) (b : OpenSheet) (row : Row) → b.left.lines ≡ ls → row_in kind b ls ≡ Ok (Some row) → b.left.line < after_last b.left
  row_within [] b row h e = cc
  row_within (l ∷ ls) b row h e = omega (arith, ap length h)

  module _ (in_range : Row → Bool) (known : Ranged kind in_range) {S : Type 0} (keeping : Keeping Row S) (reference : Row → ℕ) (turned : (s : S) (row : Row) (d : RowRefusal) → in_range row ≡ true → keeping s row ≡ Err d → Numbered (reference row) d)
      (bytes : List ℕ) (left : Rest) (by_row : (line : ℕ) (row : Row) → HasRow kind left line row → RowHasReference bytes line (reference row)) (e : PlacedRefusal) where
    -- a reading of the sheet
    record Reading (names : List Cell) (b : OpenSheet) : Type 0 where
      pub named : HasNames kind names b
      pub at : LeftOf bytes 1 b.left
      pub within : IsReadingOf kind left b

    goes_on : (names : List Cell) (b : OpenSheet) (row : Row) → Reading names b → next_row kind b ≡ Ok (Some row) → Reading names (after_row kind b)
    goes_on names b row r q =
        let a = after_a_row kind b row q in
        let from = r.at.from in
        let w = r.within in
        record {
          named = stays_named kind (next_row kind b) names b r.named;
          at = record { from = omega (arith, a.1); counted = (lines_counted kind).row b ∙ r.at.counted };
          within = record { begun = w.begun; begins = w.begins; rows = suc w.rows; is = ap (after_row kind) w.is };
        }

    turned_reported : (names : List Cell) (b : OpenSheet) (s : S) (row : Row) (d : RowRefusal) → Reading names b → next_row kind b ≡ Ok (Some row) → keeping s row ≡ Err d → IsBookRefusal bytes (refusal_of_book d.number b.left.line d.reference)
    turned_reported names b s row d r q k =
        let t = turned s row d (next_ranged kind in_range known b.left.lines names b row r.named q) k in
        let counted = r.at.counted in
        record {
          layer = refl;
          from_6 = t.0;
          to_9 = t.1.0;
          line = r.at.from;
          within = omega (arith, row_within b.left.lines b row refl q);
          cell = refl;
          reference = subst (RowHasReference bytes b.left.line) (sym t.1.1) (by_row b.left.line row (b, (r.within, (refl, q))));
        }

    ending_reported : (c : Result Rest SheetRefusal) (b : OpenSheet) (s : S) → close_answer b ≡ c → LeftOf bytes 1 b.left → trailer_outcome s b.rows c ≡ Err e → IsSheetRefusal bytes e ⊎ IsBookRefusal bytes e
    ending_reported (Ok after) b s q l h = cc
    ending_reported (Err d) b s q l h =
        inl (subst (IsSheetRefusal bytes) (same_err _ e h) (reported bytes b.left d l ((lines_reported kind).closing b d q) (trailer_reported b.left.lines b d q)))

    rest_reported : (ls : List (List ℕ)) (names : List Cell) (b : OpenSheet) (s : S) → Reading names b → kept_rest kind keeping ls b s ≡ Err e → IsSheetRefusal bytes e ⊎ IsBookRefusal bytes e
    rest_reported [] names b s h r = ending_reported (close_answer b) b s refl h.at r
    rest_reported (m ∷ ls) names b s h r = by_next (next_row kind b) refl r (rest_reported ls names (after_row kind b))
      where
        by_next : (n : Result (Option Row) SheetRefusal) → next_row kind b ≡ n → next_outcome keeping b s (kept_rest kind keeping ls (after_row kind b)) n ≡ Err e →
            ((u : S) → Reading names (after_row kind b) → kept_rest kind keeping ls (after_row kind b) u ≡ Err e → IsSheetRefusal bytes e ⊎ IsBookRefusal bytes e) →
            IsSheetRefusal bytes e ⊎ IsBookRefusal bytes e
        by_next (Err d) q r further =
            let w = (lines_reported kind).row b d q in
            inl (subst (IsSheetRefusal bytes) (same_err _ e r) (reported bytes b.left d h.at (omega (arith, w.0), omega (arith, w.1)) (row_reported b.left.lines b d q)))
        by_next (Ok None) q r further = ending_reported (close_answer b) b s refl h.at r
        by_next (Ok (Some row)) q r further = taken (keeping s row) refl r
          where
            taken : (k : Result S RowRefusal) → keeping s row ≡ k → row_outcome b.left.line (kept_rest kind keeping ls (after_row kind b)) k ≡ Err e → IsSheetRefusal bytes e ⊎ IsBookRefusal bytes e
            taken (Err d) k r = inr (subst (IsBookRefusal bytes) (same_err _ e r) (turned_reported names b s row d h q k))
            taken (Ok u) k r = further u (goes_on names b row h q) r

    pub sheet_reported : (s : S) → LeftOf bytes 1 left → kept_sheet kind keeping s left ≡ Err e → IsSheetRefusal bytes e ⊎ IsBookRefusal bytes e
    sheet_reported s l h = by_opening (open_answer kind left) refl h
      where
        by_opening : (o : Result OpenSheet SheetRefusal) → open_answer kind left ≡ o → opening_outcome kind keeping s o ≡ Err e → IsSheetRefusal bytes e ⊎ IsBookRefusal bytes e
        by_opening (Err d) q h =
            inl (subst (IsSheetRefusal bytes) (same_err _ e h) (reported bytes left d l ((lines_reported kind).opening left d q) (opening_reported left.lines left d q)))
        by_opening (Ok b) q h =
            let n = opened_has_names kind left b q in
            let a = opened_at kind left.lines left b q in
            let from = l.from in
            let at : LeftOf bytes 1 b.left = record { from = omega (arith, a.1); counted = (lines_counted kind).opening left b q ∙ l.counted } in
            rest_reported b.left.lines (cells n.1.0) b s (record { named = n.1.1.1; at = at; within = record { begun = b; begins = q; rows = 0; is = refl } }) h
