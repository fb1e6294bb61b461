-- What is known of a row that is accepted or refused.
use Rattle.std.proofs.Common.{◌≡◌, ℕ, zero, suc, ◌+◌, ◌<◌, ◌≤◌, Bool, true, false, cond, eqb, List, [], ◌∷◌, length, get_or, Option, Some, None, Result, Ok, Err, refl, sym, ap, min, ◌∙◌, ⊎_elim, arith}
use Rattle.std.specs.List.{list_all}
use Rattle.std.proofs.lemmas.Bool.{and_from, eqb-true, cases_lt, false≢true}
use Rattle.std.proofs.lemmas.List.{length-map}
use Rattle.std.proofs.lemmas.Option.{none-some, same_Some}
use Rattle.text.specs.Cells.{Cell, cells}
use Rattle.quantities.specs.declared.refusal.Refusal.TheVariants.{CellCount, Value}
use Rattle.sheet.specs.declared.refusal.SheetRefusal.{SheetRefusal}
use Rattle.sheet.specs.Kinds.{SheetKind, cell_at}
use Rattle.sheet.specs.Sheets.{OpenSheet, place_of, are_columns, is_top, open_at_top, least_place, leftmost, row_if, needed_cells}
use Rattle.sheet.specs.Laws.{HasNames, OpenedHasNames, AcceptedRows, Leftmost, LeftmostReported}
use Rattle.sheet.proofs.Leftmost.{none_misfits}

module _ {X E : Type 0} where
  pub if_ok : (t : Bool) (r : Result X E) (e : E) (y : X) → cond t r (Err e) ≡ Ok y → (t ≡ true) × (r ≡ Ok y)
  if_ok true r e y h = (refl, h)
  if_ok false r e y h = cc

  not_ok : {Z : Type 0} (e : E) (y : X) → Err e ≡ Ok y → Z
  not_ok e y h = cc

  same_err : (d e : E) → ◌≡◌ {A = Result X E} (Err d) (Err e) → d ≡ e
  same_err d e h = cc

  pub same_ok : (x y : X) → ◌≡◌ {A = Result X E} (Ok x) (Ok y) → x ≡ y
  same_ok x y h = cc

pub all_at : (fits : List Bool) (i : ℕ) → list_all (λ f. f) fits ≡ true → get_or fits i true ≡ true
all_at [] i e = refl
all_at (true ∷ fs) zero e = refl
all_at (true ∷ fs) (suc i) e = all_at fs i e
all_at (false ∷ fs) i e = absurd (false≢true e)

pub all_from : (fs : List Bool) → ((i : ℕ) → i < length fs → get_or fs i true ≡ true) → list_all (λ f. f) fs ≡ true
all_from [] h = refl
all_from (f ∷ fs) h = and_from f (list_all (λ g. g) fs) (h 0 (omega arith)) (all_from fs (λ i l. h (suc i) (omega arith)))

-- where a place is the leftmost, it is that of a cell that does not fit, and what stands further left fits
pub record Least (fits : List Bool) (places : List ℕ) (p i : ℕ) : Type 0 where
  pub within : i < length fits
  pub place : p ≡ get_or places i 0
  pub misfit : get_or fits i true ≡ false
  pub left_fit : (j : ℕ) → get_or places j 0 < p → get_or fits j true ≡ true

pub least : (fits : List Bool) (places : List ℕ) (p : ℕ) → length fits ≤ length places → leftmost fits places ≡ Some p → (i : ℕ) × Least fits places p i
least [] places p l e = absurd (none-some _ e)
least (f ∷ fs) [] p l e = absurd (omega arith)
least (true ∷ fs) (q ∷ ps) p l e =
    let r = least fs ps p (omega arith) e in
    (suc r.0, record { within = let w = r.1.within in omega arith; place = r.1.place; misfit = r.1.misfit; left_fit = further r.1.left_fit })
  where
    further : ((j : ℕ) → get_or ps j 0 < p → get_or fs j true ≡ true) → (j : ℕ) → get_or (q ∷ ps) j 0 < p → get_or (true ∷ fs) j true ≡ true
    further h zero m = refl
    further h (suc j) m = h j m
least (false ∷ fs) (q ∷ ps) p l e = among (leftmost fs ps) refl e (least fs ps)
  where
    here : p ≡ q → ((j : ℕ) → get_or ps j 0 < p → get_or fs j true ≡ true) → (i : ℕ) × Least (false ∷ fs) (q ∷ ps) p i
    here h further = (0, record { within = omega arith; place = h; misfit = refl; left_fit = beside })
      where
        beside : (j : ℕ) → get_or (q ∷ ps) j 0 < p → get_or (false ∷ fs) j true ≡ true
        beside zero m = absurd (omega arith)
        beside (suc j) m = further j m

    among : (o : Option ℕ) → leftmost fs ps ≡ o → Some (least_place q o) ≡ Some p → ((r : ℕ) → length fs ≤ length ps → leftmost fs ps ≡ Some r → (i : ℕ) × Least fs ps r i) → (i : ℕ) × Least (false ∷ fs) (q ∷ ps) p i
    among None o e rest =
        here (sym (same_Some _ _ e)) (λ j m. all_at fs j (none_misfits fs ps (omega arith) o))
    among (Some r) o e rest =
        let s = rest r (omega arith) o in
        let m : min q r ≡ p = same_Some _ _ e in
        ⊎_elim
        (λ (h : q < r). here (omega arith) (λ j k. s.1.left_fit j (omega arith)))
        (λ (h : r ≤ q). let w = s.1.within in (suc s.0, record { within = omega arith; place = (let k : p ≡ r = omega arith in k) ∙ s.1.place; misfit = s.1.misfit; left_fit = beside r (omega arith) h s.1.left_fit }))
        (cases_lt q r)
      where
        beside : (r : ℕ) → p ≡ r → r ≤ q → ((j : ℕ) → get_or ps j 0 < r → get_or fs j true ≡ true) → (j : ℕ) → get_or (q ∷ ps) j 0 < p → get_or (false ∷ fs) j true ≡ true
        beside r m h further zero k = absurd (omega arith)
        beside r m h further (suc j) k = further j (omega arith)

if_value : {Row : Type 0} (o : Option ℕ) (row : Row) (line : ℕ) (e : SheetRefusal) → row_if o row line ≡ Err e → (p : ℕ) × ((o ≡ Some p) × (e.cell ≡ p + 1))
if_value None row line e h = cc
if_value (Some p) row line e h = (p, (refl, cc))

pub if_row : {Row : Type 0} (o : Option ℕ) (row : Row) (line : ℕ) (y : Row) → row_if o row line ≡ Ok y → (o ≡ None) × (row ≡ y)
if_row None row line y h = (refl, cc)
if_row (Some p) row line y h = cc

module _ {Row : Type 0} (kind : SheetKind Row) where
  pub opened_has_names : OpenedHasNames kind
  opened_has_names left b e = go left.lines refl e
    where
      go : (ls : List (List ℕ)) → left.lines ≡ ls → open_at_top kind ls left ≡ Ok b → (top : List ℕ) × ((names : List ℕ) × ((left.lines ≡ top ∷ (names ∷ b.left.lines)) × HasNames kind (cells names) b))
      go [] h e = cc
      go (top ∷ []) h e = not_ok _ b (if_ok (is_top kind.mark (cells top)) _ _ b e).1
      go (top ∷ (names ∷ ls)) h e =
          let t = if_ok (is_top kind.mark (cells top)) _ _ b e in
          let n = if_ok (are_columns kind.needed (cells names)) _ _ b t.1 in
          let is = same_ok _ _ n.1 in
          (top, (names, (h ∙ ap (λ (x : OpenSheet). top ∷ (names ∷ x.left.lines)) is, record { named = n.0; places_are = sym (ap (λ (x : OpenSheet). x.places) is); width_is = sym (ap (λ (x : OpenSheet). x.width) is) })))

  module _ (judged : (cell : ℕ → Cell) → length (kind.fits cell) ≡ length kind.needed) where
    enough : (names : List Cell) (b : OpenSheet) (cs : List Cell) → HasNames kind names b → length (kind.fits (cell_at (needed_cells b.places cs))) ≤ length b.places
    enough names b cs h =
        omega (arith, judged (cell_at (needed_cells b.places cs)), ap length h.places_are, length-map kind.needed (λ name. place_of name names))

    pub accepted_rows : AcceptedRows kind
    accepted_rows names b cs row h e =
        let cell = cell_at (needed_cells b.places cs) in
        let t = if_ok (eqb (length cs) b.width) _ _ row e in
        let r = if_row (leftmost (kind.fits cell) b.places) (kind.row cell) b.left.line row t.1 in
        let all = none_misfits (kind.fits cell) b.places (enough names b cs h) r.0 in
        record { count = eqb-true _ _ t.0 ∙ h.width_is; fit = λ i l. all_at (kind.fits cell) i all; made = sym r.1 }

    pub leftmost_reported : LeftmostReported kind
    leftmost_reported names b cs e h is v = go (eqb (length cs) b.width) is
      where
        cell : ℕ → Cell
        cell = cell_at (needed_cells b.places cs)

        go : (t : Bool) → cond t (row_if (leftmost (kind.fits cell) b.places) (kind.row cell) b.left.line) (Err record { refusal = CellCount; line = b.left.line; cell = 0 }) ≡ Err e → (i : ℕ) × Leftmost kind b cs e.cell i
        go true is =
            let r = if_value (leftmost (kind.fits cell) b.places) (kind.row cell) b.left.line e is in
            let s = least (kind.fits cell) b.places r.0 (enough names b cs h) r.1.0 in
            let w = s.1.within in (
              s.0,
              record {
                needed = omega (arith, judged cell);
                reported = r.1.1 ∙ ap (λ p. p + 1) s.1.place;
                misfit = s.1.misfit;
                left_fit = λ j l m. s.1.left_fit j (let k = s.1.place in omega arith);
              },
            )
        go false is =
            let c : CellCount ≡ Value = ap (λ (d : SheetRefusal). d.refusal) (same_err _ e is) ∙ v in
            cc
