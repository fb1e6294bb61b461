-- A sheet whose rows are all kept is kept to its end.
use Rattle.std.proofs.Common.{◌≡◌, ℕ, Bool, List, [], ◌∷◌, length, Option, Some, None, Ok, Err, Result, sym, refl, ap, ◌∙◌, ap₂, subst, arith}
use Rattle.sheet.specs.declared.refusal.SheetRefusal.{SheetRefusal}
use Rattle.sheet.specs.Kinds.{SheetKind}
use Rattle.sheet.specs.Sheets.{Rest, OpenSheet, open_answer, next_row, after_row, close_answer}
use Rattle.sheet.specs.Laws.{with_row, no_rows, rows_by_answer, rows_in, rows_if_open, sheet_rows}
use Rattle.run.specs.Refusals.{Outcome}
use Rattle.run.specs.KeptSheets.{KeptSheet, Keeping, trailer_outcome, row_outcome, next_outcome, kept_rest, opening_outcome, kept_sheet}
use Rattle.run.proofs.Sheets.{KeptAll, EachIn, Ranged, sheet_read}

pub ok_same : {X E : Type 0} (x y : X) → ◌≡◌ {A = Result X E} (Ok x) (Ok y) → x ≡ y
ok_same x y e = cc

-- ---- a sheet whose rows are kept one after another is kept to its end
module _ {Row S : Type 0} (kind : SheetKind Row) (keeping : Keeping Row S) where
  abbrev Reaches : List Row → Rest → S → Outcome (KeptSheet S) → Type 0
  Reaches rows left t o = (n : ℕ) × (o ≡ Ok (record { kept = t; rows = n; left = left }))

  closing : (c : Result Rest SheetRefusal) (b : OpenSheet) (s t : S) (rows : List Row) (left : Rest) → no_rows c ≡ Ok (rows, left) → KeptAll keeping s rows t → Reaches rows left t (trailer_outcome s b.rows c)
  closing (Ok l) b s t [] left e k = let q : l ≡ left = ap (λ (p : List Row × Rest). p.1) (ok_same _ _ e) in (b.rows, ap₂ (λ x y. Ok (record { kept = x; rows = b.rows; left = y })) k q)
  closing (Ok l) b s t (r ∷ rs) left e k =
      let none : [] ≡ r ∷ rs = ap (λ (p : List Row × Rest). p.0) (ok_same _ _ e) in
      let n = ap length none in
      absurd (omega arith)
  closing (Err d) b s t rows left e k = cc

  abbrev Further : List (List ℕ) → OpenSheet → Rest → S → Type 0
  Further ls b left t = (u : S) (rs : List Row) → rows_in kind ls b ≡ Ok (rs, left) → KeptAll keeping u rs t → Reaches rs left t (kept_rest kind keeping ls b u)

  rest_from : (ls : List (List ℕ)) (b : OpenSheet) (s t : S) (rows : List Row) (left : Rest) → rows_in kind ls b ≡ Ok (rows, left) → KeptAll keeping s rows t → Reaches rows left t (kept_rest kind keeping ls b s)
  rest_from [] b s t rows left e k = closing (close_answer b) b s t rows left e k
  rest_from (l ∷ ls) b s t rows left e k = by_next (next_row kind b) rows e k (λ u rs q m. rest_from ls (after_row kind b) u t rs left q m)
    where
      by_next : (n : Result (Option Row) SheetRefusal) (rows : List Row) → rows_by_answer n (rows_in kind ls (after_row kind b)) (close_answer b) ≡ Ok (rows, left) → KeptAll keeping s rows t → Further ls (after_row kind b) left t → Reaches rows left t (next_outcome keeping b s (kept_rest kind keeping ls (after_row kind b)) n)
      by_next (Err d) rows e k more = cc
      by_next (Ok None) rows e k more = closing (close_answer b) b s t rows left e k
      by_next (Ok (Some row)) rows e k more = further (rows_in kind ls (after_row kind b)) rows refl e k
        where
          further : (f : Result (List Row × Rest) SheetRefusal) (rows : List Row) → rows_in kind ls (after_row kind b) ≡ f → with_row row f ≡ Ok (rows, left) → KeptAll keeping s rows t →
              Reaches rows left t (row_outcome b.left.line (kept_rest kind keeping ls (after_row kind b)) (keeping s row))
          further (Err d) rows q e k = cc
          further (Ok r) [] q e k =
              let none : row ∷ r.0 ≡ [] = ap (λ (p : List Row × Rest). p.0) (ok_same _ _ e) in
              let n = ap length none in
              absurd (omega arith)
          further (Ok r) (x ∷ xs) q e k =
              let same = ok_same _ _ e in
              let first : row ∷ r.0 ≡ x ∷ xs = ap (λ (p : List Row × Rest). p.0) same in
              let last : r.1 ≡ left = ap (λ (p : List Row × Rest). p.1) same in
              let one : row ≡ x = cc in
              let others : r.0 ≡ xs = cc in
              let z = more k.0 xs (q ∙ ap₂ (λ y w. Ok (y, w)) others last) k.1.1 in
              (z.0, ap (λ y. row_outcome b.left.line (kept_rest kind keeping ls (after_row kind b)) (keeping s y)) one ∙ ap (row_outcome b.left.line (kept_rest kind keeping ls (after_row kind b))) k.1.0 ∙ z.1)

  pub sheet_from : (left : Rest) (s t : S) (rows : List Row) (behind : Rest) → sheet_rows kind left ≡ Ok (rows, behind) → KeptAll keeping s rows t → Reaches rows behind t (kept_sheet kind keeping s left)
  sheet_from left s t rows behind e k = by_opening (open_answer kind left) e
    where
      by_opening : (o : Result OpenSheet SheetRefusal) → rows_if_open kind o ≡ Ok (rows, behind) → Reaches rows behind t (opening_outcome kind keeping s o)
      by_opening (Err d) e = cc
      by_opening (Ok b) e = rest_from b.left.lines b s t rows behind e k

-- ---- the rows of a sheet are within their ranges
module _ {Row : Type 0} (kind : SheetKind Row) (in_range : Row → Bool) (known : Ranged kind in_range) where
  abbrev Any : Keeping Row (Unit {0})
  Any s r = Ok tt

  any_kept : (rows : List Row) → KeptAll Any tt rows tt
  any_kept [] = refl
  any_kept (r ∷ rs) = (tt, (refl, any_kept rs))

  pub rows_ranged : (left : Rest) (rows : List Row) (behind : Rest) → sheet_rows kind left ≡ Ok (rows, behind) → EachIn in_range rows
  rows_ranged left rows behind e =
      let z = sheet_from kind Any left tt tt rows behind e (any_kept rows) in
      let r = sheet_read kind in_range known Any tt left (record { kept = tt; rows = z.0; left = behind }) z.1 in
      let same : r.0 ≡ rows = ap (λ (p : List Row × Rest). p.0) (ok_same _ _ (sym r.1.read ∙ e)) in
      subst (EachIn in_range) same r.1.ranged
