-- A sheet is read until something is wrong with it.
use Rattle.std.proofs.Common.{leb, codes, IsTrue, ◌≡◌, ℕ, ◌+◌, ◌<◌, ◌≤◌, ◌≢◌, Bool, true, false, cond, eqb, ◌&&◌, List, [], ◌∷◌, ◌++◌, length, get_or, Option, Some, None, Result, Ok, Err, refl, sym, ap, ◌∙◌, subst, ⊎_elim, length-append, append-nil, append_assoc, arith}
use Rattle.std.proofs.lemmas.Bool.{and_parts, and_from, leb-true, le-leb, cond-true, false_from_ne_true, eqb-true, eqb-false, eq-eqb, ne_eqb, false≢true, cases_order}
use Rattle.std.specs.List.{list_all}
use Rattle.std.proofs.lemmas.List.{length-map}
use Rattle.std.proofs.lemmas.Option.{cond_some}
use Rattle.text.specs.Cells.{Cell, cells}
use Rattle.quantities.specs.Refusals.{number}
use Rattle.quantities.specs.declared.refusal.Refusal.{Refusal}
use Rattle.quantities.specs.declared.refusal.Refusal.TheVariants.{Mark, Columns, CellCount, Value, Trailer}
use Rattle.sheet.specs.declared.refusal.SheetRefusal.{SheetRefusal}
use Rattle.sheet.specs.Kinds.{SheetKind, cell_at}
use Rattle.sheet.specs.Sheets.{Rest, OpenSheet, sheet_refusal, rest_past_line, started_sheet, is_top, first_cell, is_trailer, are_named, are_columns, place_of, places_of, needed_cells, open_at_names, open_at_top, open_answer, one_row_later, after_answer, leftmost, row_if, row_of_cells, row_answer, row_in, next_row, after_row, has_row_count, closed_at, close_answer}
use Rattle.sheet.specs.Laws.{HasNames, with_row, no_rows, rows_by_answer, rows_in, rows_if_open, sheet_rows}
use Rattle.sheet.specs.Causes.{IsTrailerOf, cell_fits, MissingOr, Tells, MarkIsMissing, NamesAreWrong, ColumnsAreWrong, ValueDoesNotFit, SheetCause, mark, columns, cell_count, value, trailer, CausesStand}
use Rattle.sheet.specs.Written.{IsTopLine, IsRowLine, EachOnLine, ReadsTo, line_below, IsSheet}
use Rattle.sheet.proofs.Written.{is_end, end_passes, no_end, no_end_fails, trailer_written, each_stands, places_stand}
use Rattle.sheet.proofs.Leftmost.{all_fit, none_misfits}
use Rattle.sheet.proofs.WrongLines.{top_line, top_passes, trailer_passes, wrong_names, names_fail}
use Rattle.sheet.proofs.Rows.{all_at, all_from, least, accepted_rows, leftmost_reported}

same_ok : {X E : Type 0} {x y : X} → ◌≡◌ {A = Result X E} (Ok x) (Ok y) → x ≡ y
same_ok h = cc

same_err : {X E : Type 0} {d e : E} → ◌≡◌ {A = Result X E} (Err d) (Err e) → d ≡ e
same_err h = cc

pub same_first : {X : Type 0} {x y : X} {xs ys : List X} → x ∷ xs ≡ y ∷ ys → x ≡ y
same_first h = cc

-- ---- a line under names, at the places where those stand first
abbrev pub cell_under : {Row : Type 0} → SheetKind Row → List Cell → List ℕ → ℕ → Cell
cell_under kind names line = cell_at (needed_cells (places_of kind.needed names) (cells line))

abbrev pub IsRowUnder : {Row : Type 0} → SheetKind Row → List Cell → List ℕ → Row → Type 0
IsRowUnder kind names line row = IsRowLine kind (places_of kind.needed names) (length names) line row

-- a needed cell does not fit, and is the leftmost that does not
abbrev Misfits : {Row : Type 0} → SheetKind Row → List ℕ → ℕ → SheetRefusal → ℕ → List ℕ → Type 0
Misfits kind line n e i places =
    (cell_fits kind places line i ≡ false) × (((j : ℕ) → j < length kind.needed → get_or places j 0 < get_or places i 0 → cell_fits kind places line j ≡ true) × Tells e Value n (get_or places i 0 + 1))

-- ---- rows of which one more is read
module _ {Row : Type 0} (kind : SheetKind Row) (places : List ℕ) (width : ℕ) where
  one_more : (ls : List (List ℕ)) (rs : List Row) (l : List ℕ) (r : Row) → EachOnLine kind places width ls rs → IsRowLine kind places width l r → EachOnLine kind places width (ls ++ (l ∷ [])) (rs ++ (r ∷ []))
  one_more [] [] l r h i = (i, tt)
  one_more [] (s ∷ rs) l r h i = absurd h
  one_more (m ∷ ls) [] l r h i = absurd h
  one_more (m ∷ ls) (s ∷ rs) l r h i = (h.0, one_more ls rs l r h.1 i)

-- ---- the places of the needed names are where those stand first
module _ {Row : Type 0} {kind : SheetKind Row} {left : Rest} {names : List Cell} {rows : List Row} {below : List (List ℕ)} (r : ReadsTo kind left names rows below) where
  columns_named : are_columns kind.needed names ≡ true
  columns_named = and_from _ _ (le-leb _ _ r.few) (places_stand kind.needed names r.places r.named).0

  pub same_places : places_of kind.needed names ≡ r.places
  same_places = (places_stand kind.needed names r.places r.named).1

  pub each_under : EachOnLine kind (places_of kind.needed names) (length names) r.row_lines rows
  each_under = subst (λ places. EachOnLine kind places (length names) r.row_lines rows) (sym same_places) r.each

module _ {Row : Type 0} (kind : SheetKind Row) (judged : (cell : ℕ → Cell) → length (kind.fits cell) ≡ length kind.needed) where
  -- a sheet is being read, below those rows
  pub record Reading (left : Rest) (names : List Cell) (rows : List Row) (below : List (List ℕ)) (b : OpenSheet) : Type 0 where
    pub reads : ReadsTo kind left names rows below
    pub named : HasNames kind names b
    pub counted : b.rows ≡ length rows
    pub lines : b.left.lines ≡ below
    pub loose : b.left.loose ≡ left.loose
    pub line : b.left.line ≡ line_below left rows

  -- ---- the opening
  abbrev pub Opened : Rest → Result OpenSheet SheetRefusal → Type 0
  Opened left (Ok b) = (names : List Cell) × Reading left names [] b.left.lines b
  Opened left (Err e) = SheetCause kind left [] e

  opened_at : (left : Rest) (ls : List (List ℕ)) → left.lines ≡ ls → Opened left (open_at_top kind ls left)
  opened_at left [] h = mark refl (record { wrong = subst (MissingOr (λ line. IsTopLine kind.mark line → ⊥)) (sym h) tt; told = refl; number_is = refl })
  opened_at left (top ∷ ls) h = go (is_top kind.mark (cells top)) refl
    where
      below_top : (ms : List (List ℕ)) → left.lines ≡ top ∷ ms → IsTopLine kind.mark top → Opened left (open_at_names kind ms (rest_past_line ms left))
      below_top [] h t = columns refl (record { top = top; below = []; lines = h; top_is = t; wrong = tt; told = refl; number_is = refl })
      below_top (names ∷ ms) h t = named (are_columns kind.needed (cells names)) refl
        where
          named : (c : Bool) → are_columns kind.needed (cells names) ≡ c →
              Opened left (cond c (Ok (started_sheet kind.needed (cells names) (rest_past_line ms (rest_past_line (names ∷ ms) left)))) (sheet_refusal Columns (left.line + 1) 0))
          named true c =
              let parts = and_parts (leb (length (cells names)) 32) (are_named kind.needed (cells names)) c in (
                cells names,
                record {
                  reads = record { top = top; name_line = names; row_lines = []; lines = h; top_is = t; names_are = refl; few = leb-true _ _ parts.0; places = places_of kind.needed (cells names); named = each_stands kind.needed (cells names) parts.1; each = tt };
                  named = record { named = c; places_are = refl; width_is = refl };
                  counted = refl;
                  lines = refl;
                  loose = refl;
                  line = omega arith;
                },
              )
          named false c = columns refl (record { top = top; below = names ∷ ms; lines = h; top_is = t; wrong = wrong_names kind.needed (cells names) c; told = refl; number_is = refl })

      go : (t : Bool) → is_top kind.mark (cells top) ≡ t → Opened left (cond t (open_at_names kind ls (rest_past_line ls left)) (sheet_refusal Mark left.line 0))
      go true t = below_top ls h (top_line kind.mark top t)
      go false t = mark refl (record { wrong = subst (MissingOr (λ line. IsTopLine kind.mark line → ⊥)) (sym h) (λ is. absurd (false≢true (sym t ∙ top_passes kind.mark top is))); told = refl; number_is = refl })

  pub opened : (left : Rest) → Opened left (open_answer kind left)
  opened left = opened_at left left.lines refl

  -- ---- a row
  abbrev pub Next : Rest → List Cell → List Row → List (List ℕ) → Result (Option Row) SheetRefusal → Type 0
  Next left names rows below (Ok (Some row)) = (l : List ℕ) × ((ls : List (List ℕ)) × ((below ≡ l ∷ ls) × IsRowUnder kind names l row))
  Next left names rows below (Ok None) = MissingOr (λ line. IsTrue (is_trailer line)) below
  Next left names rows below (Err e) = SheetCause kind left rows e

  told_at : (r : Refusal) (n m cell : ℕ) (e : SheetRefusal) → record { refusal = r; line = n; cell = cell } ≡ e → n ≡ m → Tells e r m cell
  told_at r n m cell e h q = sym h ∙ ap (λ line. record { refusal = r; line = line; cell = cell }) q

  told_value : (o : Option ℕ) (row : Row) (line : ℕ) (e : SheetRefusal) → row_if o row line ≡ Err e → (e.refusal ≡ Value) × (e.line ≡ line)
  told_value None row line e h = cc
  told_value (Some place) row line e h = (ap (λ (d : SheetRefusal). d.refusal) (sym (same_err h)), ap (λ (d : SheetRefusal). d.line) (sym (same_err h)))

  module _ (left : Rest) (names : List Cell) (rows : List Row) (l : List ℕ) (ls : List (List ℕ)) (b : OpenSheet) (r : Reading left names rows (l ∷ ls) b) where
    -- the cells under the needed names, at the places that are kept
    same_cells : needed_cells b.places (cells l) ≡ needed_cells (places_of kind.needed names) (cells l)
    same_cells = ap (λ places. needed_cells places (cells l)) r.named.places_are

    row_judged : (o : Result Row SheetRefusal) → row_of_cells kind b (cells l) ≡ o → is_trailer l ≡ false → Next left names rows (l ∷ ls) (row_answer o)
    row_judged (Ok row) q t =
        let a = accepted_rows kind judged names b (cells l) row r.named q in
        let fit = all_from (kind.fits (cell_under kind names l)) (λ i m. subst (λ cs. get_or (kind.fits (cell_at cs)) i true ≡ true) same_cells (a.fit i (omega (arith, judged (cell_under kind names l))))) in (
          l,
          (
            ls,
            (
              refl,
              record {
                no_trailer = no_end l t;
                count = a.count;
                makes = cond-true _ _ _ fit ∙ ap Some (sym (a.made ∙ ap (λ cs. kind.row (cell_at cs)) same_cells));
              },
            ),
          ),
        )
    row_judged (Err e) q t = by_count (eqb (length (cells l)) b.width) refl q
      where
        by_count : (c : Bool) → eqb (length (cells l)) b.width ≡ c → cond c (row_if (leftmost (kind.fits (cell_at (needed_cells b.places (cells l)))) b.places) (kind.row (cell_at (needed_cells b.places (cells l)))) b.left.line) (sheet_refusal CellCount b.left.line 0) ≡ Err e → SheetCause kind left rows e
        by_count false c q = cell_count (record {
          names = names;
          line = l;
          below = ls;
          reads = r.reads;
          no_trailer = no_end l t;
          wrong = λ m. eqb-false (length (cells l)) b.width c (m ∙ sym r.named.width_is);
          told = told_at CellCount b.left.line (line_below left rows) 0 e (same_err q) r.line;
          number_is = ap (λ (x : SheetRefusal). number x.refusal) (sym (same_err q));
        })
        by_count true c h =
            let v = told_value (leftmost (kind.fits (cell_at (needed_cells b.places (cells l)))) b.places) (kind.row (cell_at (needed_cells b.places (cells l)))) b.left.line e h in
            let w = leftmost_reported kind judged names b (cells l) e r.named q v.0 in
            let cell = w.1.reported ∙ ap (λ places. get_or places w.0 0 + 1) r.named.places_are in
            let m = subst (Misfits kind l (line_below left rows) e w.0) (same_places r.reads) (
              subst (λ cs. get_or (kind.fits (cell_at cs)) w.0 true ≡ false) same_cells w.1.misfit,
              (
                λ i m k. subst (λ cs. get_or (kind.fits (cell_at cs)) i true ≡ true) same_cells (w.1.left_fit i m (subst (λ places. get_or places i 0 < get_or places w.0 0) (sym r.named.places_are) k)),
                λ i. record { refusal = v.0 i; line = (v.1 ∙ r.line) i; cell = cell i },
              ),
            ) in
            value (record {
              names = names;
              line = l;
              below = ls;
              reads = r.reads;
              no_trailer = no_end l t;
              count = eqb-true (length (cells l)) b.width c ∙ r.named.width_is;
              needed = w.0;
              within = w.1.needed;
              wrong = m.0;
              left_fit = m.1.0;
              told = m.1.1;
              number_is = ap (λ (x : SheetRefusal). number x.refusal) m.1.1;
            })

    row_next : Next left names rows (l ∷ ls) (row_in kind b (l ∷ ls))
    row_next = go (is_trailer l) refl
      where
        go : (t : Bool) → is_trailer l ≡ t → Next left names rows (l ∷ ls) (cond t (Ok None) (row_answer (row_of_cells kind b (cells l))))
        go true t = t
        go false t = row_judged (row_of_cells kind b (cells l)) refl t

    -- ---- what the line says is what is answered
    answered : next_row kind b ≡ row_in kind b (l ∷ ls)
    answered = ap (row_in kind b) r.lines

    pub row_read : (row : Row) → IsRowUnder kind names l row → next_row kind b ≡ Ok (Some row)
    row_read row i =
        let width : eqb (length (cells l)) b.width ≡ true = eq-eqb (length (cells l)) b.width (i.count ∙ sym r.named.width_is) in
        let fits = kind.fits (cell_at (needed_cells b.places (cells l))) in
        let makes = cond_some (list_all (λ f. f) (kind.fits (cell_under kind names l))) (kind.row (cell_under kind names l)) row i.makes in
        let all = subst (λ cs. list_all (λ f. f) (kind.fits (cell_at cs)) ≡ true) (sym same_cells) makes.0 in
        let made = ap (λ cs. kind.row (cell_at cs)) same_cells in
        let no_trailer = no_end_fails l i.no_trailer in
        answered ∙ rw (no_trailer, width, all_fit fits b.places all) (ap (λ x. Ok (Some x)) (made ∙ makes.1))

    pub row_passed : (row : Row) → next_row kind b ≡ Ok (Some row) → IsRowUnder kind names l row → Reading left names (rows ++ (row ∷ [])) ls (after_row kind b)
    row_passed row q i = subst (Reading left names (rows ++ (row ∷ [])) ls) (sym (ap (λ n. after_answer n b) q ∙ ap (λ ms. one_row_later ms b) r.lines)) later
      where
        many : length (rows ++ (row ∷ [])) ≡ length rows + 1
        many = omega (arith, length-append rows (row ∷ []))

        later : Reading left names (rows ++ (row ∷ [])) ls (one_row_later (l ∷ ls) b)
        later = record {
          reads = record {
            top = r.reads.top;
            name_line = r.reads.name_line;
            row_lines = r.reads.row_lines ++ (l ∷ []);
            lines = r.reads.lines ∙ ap (λ ms. r.reads.top ∷ (r.reads.name_line ∷ ms)) (sym (append_assoc r.reads.row_lines (l ∷ []) ls));
            top_is = r.reads.top_is;
            names_are = r.reads.names_are;
            few = r.reads.few;
            places = r.reads.places;
            named = r.reads.named;
            each = one_more kind r.reads.places (length names) r.reads.row_lines rows l row r.reads.each (subst (λ places. IsRowLine kind places (length names) l row) (same_places r.reads) i);
          };
          named = record { named = r.named.named; places_are = r.named.places_are; width_is = r.named.width_is };
          counted = (let c = r.counted in omega (arith, many));
          lines = refl;
          loose = r.loose;
          line = (let c = r.line in omega (arith, many));
        }

    pub count_refused : (e : SheetRefusal) → is_trailer l ≡ false → length (cells l) ≢ length names → Tells e CellCount (line_below left rows) 0 → next_row kind b ≡ Err e
    count_refused e t w m =
        let width : eqb (length (cells l)) b.width ≡ false = ne_eqb (length (cells l)) b.width (λ h. w (h ∙ r.named.width_is)) in
        answered ∙ rw (t, width) (ap (λ n. Err (record { refusal = CellCount; line = n; cell = 0 })) r.line ∙ ap Err (sym m))

    -- the leftmost misfit is at that place
    leftmost_is : (i : ℕ) → i < length kind.needed → get_or (kind.fits (cell_at (needed_cells b.places (cells l)))) i true ≡ false →
        ((j : ℕ) → j < length kind.needed → get_or b.places j 0 < get_or b.places i 0 → get_or (kind.fits (cell_at (needed_cells b.places (cells l)))) j true ≡ true) →
        leftmost (kind.fits (cell_at (needed_cells b.places (cells l)))) b.places ≡ Some (get_or b.places i 0)
    leftmost_is i m w further = go (leftmost fits b.places) refl
      where
        fits : List Bool
        fits = kind.fits (cell_at (needed_cells b.places (cells l)))

        enough : length fits ≤ length b.places
        enough = omega (arith, judged (cell_at (needed_cells b.places (cells l))), ap length r.named.places_are, length-map kind.needed (λ name. place_of name names))

        go : (o : Option ℕ) → leftmost fits b.places ≡ o → o ≡ Some (get_or b.places i 0)
        go None q = absurd (false≢true (sym w ∙ all_at fits i (none_misfits fits b.places enough q)))
        go (Some p) q =
            let s = least fits b.places p enough q in
            let place = s.1.place in
            let here = s.1.within in
            ⊎_elim (λ (e : p ≡ get_or b.places i 0). ap Some e)
            (λ d. ⊎_elim
            (λ (n : p < get_or b.places i 0). absurd (false≢true (sym s.1.misfit ∙ further s.0 (omega (arith, judged (cell_at (needed_cells b.places (cells l))))) (omega arith))))
            (λ (n : get_or b.places i 0 < p). absurd (false≢true (sym w ∙ s.1.left_fit i n)))
            d)
            (cases_order p (get_or b.places i 0))

    pub value_refused : (e : SheetRefusal) (i : ℕ) → is_trailer l ≡ false → length (cells l) ≡ length names → i < length kind.needed → Misfits kind l (line_below left rows) e i (places_of kind.needed names) → next_row kind b ≡ Err e
    value_refused e i t c m u =
        let width : eqb (length (cells l)) b.width ≡ true = eq-eqb (length (cells l)) b.width (c ∙ sym r.named.width_is) in
        let misfit = leftmost_is i m (subst (λ cs. get_or (kind.fits (cell_at cs)) i true ≡ false) (sym same_cells) u.0)
        (λ j n k. subst (λ cs. get_or (kind.fits (cell_at cs)) j true ≡ true) (sym same_cells) (u.1.0 j n (subst (λ places. get_or places j 0 < get_or places i 0) r.named.places_are k))) in
        let same : ◌≡◌ {A = Result (Option Row) SheetRefusal} (Err (record { refusal = Value; line = b.left.line; cell = get_or b.places i 0 + 1 })) (Err (record { refusal = Value; line = line_below left rows; cell = get_or (places_of kind.needed names) i 0 + 1 })) = λ j. Err (record { refusal = Value; line = r.line j; cell = get_or (r.named.places_are j) i 0 + 1 }) in
        answered ∙ rw (t, width, misfit) (same ∙ ap Err (sym u.1.1))

  pub misfits : {left : Rest} {rows : List Row} {e : SheetRefusal} (v : ValueDoesNotFit kind left rows e) → Misfits kind v.line (line_below left rows) e v.needed (places_of kind.needed v.names)
  misfits {left} {rows} {e} v = subst (Misfits kind v.line (line_below left rows) e v.needed) (sym (same_places v.reads)) (v.wrong, (v.left_fit, v.told))

  -- ---- the end
  module _ (left : Rest) (names : List Cell) (rows : List Row) where
    abbrev pub Closed : Result Rest SheetRefusal → Type 0
    Closed (Ok behind) = IsSheet kind left rows behind
    Closed (Err e) = SheetCause kind left rows e

    pub next : (below : List (List ℕ)) (b : OpenSheet) → Reading left names rows below b → Next left names rows below (next_row kind b)
    next below b r = subst (λ n. Next left names rows below n) (sym (ap (row_in kind b) r.lines)) (by_line below r)
      where
        by_line : (ls : List (List ℕ)) → Reading left names rows ls b → Next left names rows ls (row_in kind b ls)
        by_line [] r = tt
        by_line (l ∷ ls) r = row_next left names rows l ls b r

    -- the trailer is the one of those rows, or not
    trailer_or : (l : List ℕ) → is_trailer l ≡ true → (IsTrailerOf (length rows) l → ⊥) → (is_trailer l && has_row_count (length rows) (cells l)) ≡ false
    trailer_or l t w = false_from_ne_true _ (λ h. w (trailer_written (length rows) (cells l) h))

    pub closed : (below : List (List ℕ)) (b : OpenSheet) → Reading left names rows below b → MissingOr (λ line. IsTrue (is_trailer line)) below → Closed (close_answer b)
    closed below b r m = subst Closed (sym (ap (closed_at b) r.lines)) (by_line below r m)
      where
        by_line : (ls : List (List ℕ)) → Reading left names rows ls b → MissingOr (λ line. IsTrue (is_trailer line)) ls → Closed (closed_at b ls)
        by_line [] r m = trailer (record { names = names; below = []; reads = r.reads; wrong = tt; told = told_at Trailer b.left.line (line_below left rows) 0 _ refl r.line; number_is = refl })
        by_line (l ∷ ls) r m = go (is_trailer l && has_row_count b.rows (cells l)) refl
          where
            go : (c : Bool) → (is_trailer l && has_row_count b.rows (cells l)) ≡ c → Closed (cond c (Ok (rest_past_line ls b.left)) (sheet_refusal Trailer b.left.line 0))
            go true c = record { names = names; trailer = l; reads = r.reads; ended = subst (λ n. IsTrailerOf n l) r.counted (trailer_written b.rows (cells l) c); loose = r.loose; line = ap (λ n. n + 1) r.line }
            go false c = trailer (record {
              names = names;
              below = l ∷ ls;
              reads = r.reads;
              wrong = (is_end l m, λ is. absurd (false≢true (sym c ∙ trailer_passes b.rows l (subst (λ n. IsTrailerOf n l) (sym r.counted) is))));
              told = told_at Trailer b.left.line (line_below left rows) 0 _ refl r.line;
              number_is = refl;
            })

    pub ended : (below : List (List ℕ)) (b : OpenSheet) → Reading left names rows below b → MissingOr (λ line. IsTrue (is_trailer line)) below → next_row kind b ≡ Ok None
    ended below b r m = ap (row_in kind b) r.lines ∙ by_line below m
      where
        by_line : (ls : List (List ℕ)) → MissingOr (λ line. IsTrue (is_trailer line)) ls → row_in kind b ls ≡ Ok None
        by_line [] m = refl
        by_line (l ∷ ls) m = rw m refl

    pub trailer_refused : (below : List (List ℕ)) (b : OpenSheet) (e : SheetRefusal) → Reading left names rows below b → MissingOr (λ line. (first_cell (cells line) ≡ codes "END") × (IsTrailerOf (length rows) line → ⊥)) below → Tells e Trailer (line_below left rows) 0 → close_answer b ≡ Err e
    trailer_refused below b e r m told = ap (closed_at b) r.lines ∙ by_line below m ∙ ap (λ n. Err (record { refusal = Trailer; line = n; cell = 0 })) r.line ∙ ap Err (sym told)
      where
        by_line : (ls : List (List ℕ)) → MissingOr (λ line. (first_cell (cells line) ≡ codes "END") × (IsTrailerOf (length rows) line → ⊥)) ls → closed_at b ls ≡ sheet_refusal Trailer b.left.line 0
        by_line [] m = refl
        by_line (l ∷ ls) m = rw (ap (λ n. is_trailer l && has_row_count n (cells l)) r.counted, trailer_or l (end_passes l m.0) m.1) refl

    pub sheet_closed : (l : List ℕ) (behind : Rest) (b : OpenSheet) → Reading left names rows (l ∷ behind.lines) b → IsTrailerOf (length rows) l → behind.line ≡ line_below left rows + 1 → behind.loose ≡ left.loose → close_answer b ≡ Ok behind
    sheet_closed l behind b r t line loose =
        let same : ◌≡◌ {A = Result Rest SheetRefusal} (Ok (rest_past_line behind.lines b.left)) (Ok behind) = λ i. Ok (record { lines = behind.lines; loose = (r.loose ∙ sym loose) i; line = (ap (λ n. n + 1) r.line ∙ sym line) i }) in
        ap (closed_at b) r.lines ∙ rw (ap (λ n. is_trailer l && has_row_count n (cells l)) r.counted, trailer_passes (length rows) l t) same

  -- ---- a sheet is opened, or not
  pub opens : (left : Rest) (names : List Cell) (rows : List Row) (below : List (List ℕ)) (r : ReadsTo kind left names rows below) → (b : OpenSheet) × ((open_answer kind left ≡ Ok b) × Reading left names [] (r.row_lines ++ below) b)
  opens left names rows below r =
      let rest : Rest = record { lines = r.row_lines ++ below; loose = left.loose; line = left.line + 1 + 1 } in
      let named = ap (are_columns kind.needed) (sym r.names_are) ∙ columns_named r in
      let opened_is : open_answer kind left ≡ Ok (started_sheet kind.needed names rest) =
      ap (λ ls. open_at_top kind ls left) r.lines ∙ rw (top_passes kind.mark r.top r.top_is, named) (ap (λ ns. Ok (started_sheet kind.needed ns rest)) (sym r.names_are)) in (
        started_sheet kind.needed names rest,
        (
          opened_is,
          record {
            reads = record { top = r.top; name_line = r.name_line; row_lines = []; lines = r.lines; top_is = r.top_is; names_are = r.names_are; few = r.few; places = r.places; named = r.named; each = tt };
            named = record { named = columns_named r; places_are = refl; width_is = refl };
            counted = refl;
            lines = refl;
            loose = refl;
            line = omega arith;
          },
        ),
      )

  pub mark_refused : (left : Rest) (e : SheetRefusal) → MarkIsMissing kind left e → open_answer kind left ≡ Err e
  mark_refused left e m = by_line left.lines refl m.wrong ∙ ap Err (sym m.told)
    where
      by_line : (ls : List (List ℕ)) → left.lines ≡ ls → MissingOr (λ line. IsTopLine kind.mark line → ⊥) ls → open_at_top kind ls left ≡ sheet_refusal Mark left.line 0
      by_line [] h w = refl
      by_line (l ∷ ls) h w = rw (false_from_ne_true (is_top kind.mark (cells l)) (λ t. w (top_line kind.mark l t))) refl

  pub columns_refused : (left : Rest) (e : SheetRefusal) → ColumnsAreWrong kind left e → open_answer kind left ≡ Err e
  columns_refused left e c = ap (λ ls. open_at_top kind ls left) c.lines ∙ rw (top_passes kind.mark c.top c.top_is) (by_line c.below c.wrong) ∙ ap Err (sym c.told)
    where
      by_line : (ls : List (List ℕ)) → MissingOr (λ line. NamesAreWrong kind.needed (cells line)) ls → open_at_names kind ls (rest_past_line ls left) ≡ sheet_refusal Columns (left.line + 1) 0
      by_line [] w = refl
      by_line (l ∷ ls) w = rw (names_fail kind.needed (cells l) w) refl

  -- ---- a sheet is refused just where it has a cause
  module _ (left : Rest) (e : SheetRefusal) where
    ending : (names : List Cell) (rows : List Row) (below : List (List ℕ)) (b : OpenSheet) → Reading left names rows below b → MissingOr (λ line. IsTrue (is_trailer line)) below → (c : Result Rest SheetRefusal) → close_answer b ≡ c → no_rows {Row = Row} c ≡ Err e → (rs : List Row) × SheetCause kind left rs e
    ending names rows below b r m (Ok behind) q h = cc
    ending names rows below b r m (Err d) q h = (rows, subst (SheetCause kind left rows) (same_err h) (subst (Closed left names rows) q (closed left names rows below b r m)))

    by_rows : (ls : List (List ℕ)) (names : List Cell) (rows : List Row) (b : OpenSheet) → Reading left names rows ls b → rows_in kind ls b ≡ Err e → (rs : List Row) × SheetCause kind left rs e
    by_rows [] names rows b r h = ending names rows [] b r tt (close_answer b) refl h
    by_rows (l ∷ ls) names rows b r h = by_next (next_row kind b) refl (next left names rows (l ∷ ls) b r) h (by_rows ls names)
      where
        by_next : (n : Result (Option Row) SheetRefusal) → next_row kind b ≡ n → Next left names rows (l ∷ ls) n → rows_by_answer n (rows_in kind ls (after_row kind b)) (close_answer b) ≡ Err e →
            ((rs : List Row) (c : OpenSheet) → Reading left names rs ls c → rows_in kind ls c ≡ Err e → (rs : List Row) × SheetCause kind left rs e) → (rs : List Row) × SheetCause kind left rs e
        by_next (Err d) q n h further = (rows, subst (SheetCause kind left rows) (same_err h) n)
        by_next (Ok None) q n h further = ending names rows (l ∷ ls) b r n (close_answer b) refl h
        by_next (Ok (Some row)) q n h further = more (rows_in kind ls (after_row kind b)) refl h
          where
            more : (o : Result (List Row × Rest) SheetRefusal) → rows_in kind ls (after_row kind b) ≡ o → with_row row o ≡ Err e → (rs : List Row) × SheetCause kind left rs e
            more (Ok o) p h = cc
            more (Err d) p h = further (rows ++ (row ∷ [])) (after_row kind b) (row_passed left names rows l ls b r row q (same_row n)) (p ∙ ap Err (same_err h))
              where
                same_row : Next left names rows (l ∷ ls) (Ok (Some row)) → IsRowUnder kind names l row
                same_row n = subst (λ line. IsRowUnder kind names line row) (sym (same_first n.1.1.0)) n.1.1.1

    pub refused : sheet_rows kind left ≡ Err e → (rows : List Row) × SheetCause kind left rows e
    refused h = by_opening (open_answer kind left) (opened left) h
      where
        by_opening : (o : Result OpenSheet SheetRefusal) → Opened left o → rows_if_open kind o ≡ Err e → (rows : List Row) × SheetCause kind left rows e
        by_opening (Err d) c h = ([], subst (SheetCause kind left []) (same_err h) c)
        by_opening (Ok b) c h = by_rows b.left.lines c.0 [] b c.1 h

    -- what is refused below rows, once they are read
    past_rows : (names : List Cell) (below : List (List ℕ)) (all : List Row) (above rows : List Row) (ls : List (List ℕ)) (b : OpenSheet) → EachOnLine kind (places_of kind.needed names) (length names) ls rows → above ++ rows ≡ all → Reading left names above (ls ++ below) b →
        ((c : OpenSheet) → Reading left names all below c → rows_in kind below c ≡ Err e) → rows_in kind (ls ++ below) b ≡ Err e
    past_rows names below all above [] [] b i q r h = h b (subst (λ rs. Reading left names rs below b) (sym (append-nil above) ∙ q) r)
    past_rows names below all above (row ∷ rows) [] b i q r h = absurd i
    past_rows names below all above [] (l ∷ ls) b i q r h = absurd i
    past_rows names below all above (row ∷ rows) (l ∷ ls) b i q r h =
        let n = row_read left names above l (ls ++ below) b r row i.0 in
        let later = past_rows names below all (above ++ (row ∷ [])) rows ls (after_row kind b) i.1 (append_assoc above (row ∷ []) rows ∙ q) (row_passed left names above l (ls ++ below) b r row n i.0) h in
        ap (λ x. rows_by_answer x (rows_in kind (ls ++ below) (after_row kind b)) (close_answer b)) n ∙ ap (with_row row) later

    reaching : (names : List Cell) (rows : List Row) (below : List (List ℕ)) → ReadsTo kind left names rows below → ((c : OpenSheet) → Reading left names rows below c → rows_in kind below c ≡ Err e) → sheet_rows kind left ≡ Err e
    reaching names rows below r h =
        let o = opens left names rows below r in
        ap (rows_if_open kind) o.1.0 ∙ ap (λ ls. rows_in kind ls o.0) o.1.1.lines ∙ past_rows names below rows [] rows r.row_lines o.0 (each_under r) refl o.1.1 h

    pub by_cause : (rows : List Row) → SheetCause kind left rows e → sheet_rows kind left ≡ Err e
    by_cause rows (mark n m) = ap (rows_if_open kind) (mark_refused left e m)
    by_cause rows (columns n c) = ap (rows_if_open kind) (columns_refused left e c)
    by_cause rows (cell_count c) = reaching c.names rows (c.line ∷ c.below) c.reads
        (λ b r. rw (count_refused left c.names rows c.line c.below b r e (no_end_fails c.line c.no_trailer) c.wrong c.told) refl)
    by_cause rows (value v) = reaching v.names rows (v.line ∷ v.below) v.reads
        (λ b r. rw (value_refused left v.names rows v.line v.below b r e v.needed (no_end_fails v.line v.no_trailer) v.count v.within (misfits v)) refl)
    by_cause rows (trailer t) = reaching t.names rows t.below t.reads (λ b r. by_line t.below b r t.wrong)
      where
        at_end : (below : List (List ℕ)) → MissingOr (λ line. (first_cell (cells line) ≡ codes "END") × (IsTrailerOf (length rows) line → ⊥)) below → MissingOr (λ line. IsTrue (is_trailer line)) below
        at_end [] m = tt
        at_end (l ∷ ls) m = end_passes l m.0

        by_line : (below : List (List ℕ)) (b : OpenSheet) → Reading left t.names rows below b → MissingOr (λ line. (first_cell (cells line) ≡ codes "END") × (IsTrailerOf (length rows) line → ⊥)) below → rows_in kind below b ≡ Err e
        by_line [] b r m = ap no_rows (trailer_refused left t.names rows [] b e r m t.told)
        by_line (l ∷ ls) b r m = rw (ended left t.names rows (l ∷ ls) b r (end_passes l m.0), trailer_refused left t.names rows (l ∷ ls) b e r m t.told) refl

  pub causes_stand : CausesStand kind
  causes_stand = record { refused = refused; by_cause = λ left rows e. by_cause left e rows }
