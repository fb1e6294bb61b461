-- A sheet whose rows are kept is refused just where it has a cause.
use Rattle.std.proofs.Common.{codes, IsTrue, ◌≡◌, ℕ, inl, inr, Bool, true, List, [], ◌∷◌, ◌++◌, length, Option, Some, None, Ok, Err, Result, sym, refl, ap, ◌∙◌, subst, append-nil, append_assoc}
use Rattle.std.proofs.lemmas.Bool.{and_parts}
use Rattle.std.specs.List.{list_all}
use Rattle.std.proofs.lemmas.Option.{cond_some}
use Rattle.text.specs.Cells.{Cell, cells}
use Rattle.sheet.specs.declared.refusal.SheetRefusal.{SheetRefusal}
use Rattle.sheet.specs.Kinds.{SheetKind}
use Rattle.sheet.specs.Sheets.{Rest, OpenSheet, places_of, first_cell, is_trailer, open_answer, next_row, after_row, close_answer}
use Rattle.sheet.specs.Written.{IsRowLine, EachOnLine, ReadsTo}
use Rattle.sheet.specs.Causes.{IsTrailerOf, MissingOr, SheetCause, mark, columns, cell_count, value, trailer}
use Rattle.sheet.proofs.Causes.{cell_under, IsRowUnder, same_places, misfits, Reading, Opened, opened, Next, next, Closed, closed, row_read, row_passed, count_refused, value_refused, ended, trailer_refused, sheet_closed, each_under, opens, mark_refused, columns_refused, same_first}
use Rattle.sheet.proofs.Written.{end_passes, no_end_fails}
use Rattle.sheet.proofs.WrongLines.{trailer_passes}
use Rattle.run.specs.Refusals.{RowRefusal, PlacedRefusal, Outcome, refusal_of_book, placed_sheet_refusal}
use Rattle.run.specs.KeptSheets.{KeptSheet, Keeping, trailer_outcome, row_outcome, next_outcome, kept_at_trailer, kept_rest, opening_outcome, kept_sheet}
use Rattle.run.specs.Causes.{RowCause, AreTakenBelow, AreTaken, SheetIsRefused, RowIsTurnedAway, IsRefusedIn, IsTaken}
use Rattle.run.proofs.Sheets.{Ranged}
use Rattle.run.proofs.RowCauses.{Comes, Judged}

-- one more row is taken
taken_more : {Row : Type 0} (Cause : RowCause Row) (above rows : List Row) (r : Row) → AreTakenBelow Cause above rows → ((n : ℕ) → Cause (above ++ rows) r n → ⊥) → AreTakenBelow Cause above (rows ++ (r ∷ []))
taken_more Cause above [] r t h = (λ n c. h n (subst (λ rs. Cause rs r n) (sym (append-nil above)) c), tt)
taken_more Cause above (x ∷ xs) r t h = (t.0, taken_more Cause (above ++ (x ∷ [])) xs r t.1 (λ n c. h n (subst (λ rs. Cause rs r n) (append_assoc above (x ∷ []) xs) c)))

module _ {Row S : Type 0} (kind : SheetKind Row) (in_range : Row → Bool) (known : Ranged kind in_range) (keeping : Keeping Row S) (Cause : RowCause Row) (reference : Row → ℕ) (Holds : List Row → S → Type 0)
    (j : Judged in_range keeping Cause reference Holds) (left : Rest) where
  -- what comes of a sheet
  abbrev pub Ends : Outcome (KeptSheet S) → Type 0
  Ends (Ok t) = (rows : List Row) × (IsTaken kind Cause left rows t.left × (Holds rows t.kept × (t.rows ≡ length rows)))
  Ends (Err e) = IsRefusedIn kind Cause reference left e

  abbrev At : List Cell → List Row → List (List ℕ) → OpenSheet → Type 0
  At names rows below b = Reading kind known.judged left names rows below b

  row_in_range : (names : List Cell) (l : List ℕ) (row : Row) → IsRowUnder kind names l row → in_range row ≡ true
  row_in_range names l row i =
      let cell = cell_under kind names l in
      let makes = cond_some (list_all (λ f. f) (kind.fits cell)) (kind.row cell) row i.makes in
      ap in_range (sym makes.1) ∙ known.fitting cell makes.0

  row_comes : (names : List Cell) (above : List Row) (s : S) (l : List ℕ) (row : Row) → Holds above s → IsRowUnder kind names l row → Comes in_range keeping Cause reference Holds above row (keeping s row)
  row_comes names above s l row h i = j.comes above s row (row_in_range names l row i) h

  ending : (names : List Cell) (rows : List Row) (below : List (List ℕ)) (b : OpenSheet) (s : S) → At names rows below b → MissingOr (λ line. IsTrue (is_trailer line)) below → AreTaken Cause rows → Holds rows s → Ends (kept_at_trailer s b)
  ending names rows below b s r m t h = go (close_answer b) (closed kind known.judged left names rows below b r m)
    where
      go : (c : Result Rest SheetRefusal) → Closed kind known.judged left names rows c → Ends (trailer_outcome s b.rows c)
      go (Ok behind) c = (rows, (record { sheet = c; taken = t }, (h, r.counted)))
      go (Err d) c = inl (record { rows = rows; taken = t; refusal = d; cause = c; told = refl })

  rest_ends : (ls : List (List ℕ)) (names : List Cell) (rows : List Row) (b : OpenSheet) (s : S) → At names rows ls b → AreTaken Cause rows → Holds rows s → Ends (kept_rest kind keeping ls b s)
  rest_ends [] names rows b s r t h = ending names rows [] b s r tt t h
  rest_ends (l ∷ ls) names rows b s r t h = by_next (next_row kind b) refl (next kind known.judged left names rows (l ∷ ls) b r) (rest_ends ls names)
    where
      by_next : (n : Result (Option Row) SheetRefusal) → next_row kind b ≡ n → Next kind known.judged left names rows (l ∷ ls) n →
          ((rs : List Row) (c : OpenSheet) (u : S) → At names rs ls c → AreTaken Cause rs → Holds rs u → Ends (kept_rest kind keeping ls c u)) → Ends (next_outcome keeping b s (kept_rest kind keeping ls (after_row kind b)) n)
      by_next (Err d) q n further = inl (record { rows = rows; taken = t; refusal = d; cause = n; told = refl })
      by_next (Ok None) q n further = ending names rows (l ∷ ls) b s r n t h
      by_next (Ok (Some row)) q n further = by_keeping (keeping s row) (row_comes names rows s l row h is)
        where
          is : IsRowUnder kind names l row
          is = subst (λ line. IsRowUnder kind names line row) (sym (same_first n.1.1.0)) n.1.1.1

          by_keeping : (k : Result S RowRefusal) → Comes in_range keeping Cause reference Holds rows row k → Ends (row_outcome b.left.line (kept_rest kind keeping ls (after_row kind b)) k)
          by_keeping (Ok u) c = further (rows ++ (row ∷ [])) (after_row kind b) u (row_passed kind known.judged left names rows l ls b r row q is) (taken_more Cause [] rows row t c.1) c.0
          by_keeping (Err d) c = inr (record {
            names = names;
            rows = rows;
            taken = t;
            line = l;
            below = ls;
            reads = r.reads;
            row = row;
            row_is = subst (λ places. IsRowLine kind places (length names) l row) (same_places r.reads) is;
            number = d.number;
            cause = c.0;
            told = λ i. refusal_of_book d.number (r.line i) (c.1 i);
          })

  pub sheet_ends : (s : S) → Holds [] s → Ends (kept_sheet kind keeping s left)
  sheet_ends s h = by_opening (open_answer kind left) (opened kind known.judged left)
    where
      by_opening : (o : Result OpenSheet SheetRefusal) → Opened kind known.judged left o → Ends (opening_outcome kind keeping s o)
      by_opening (Err d) c = inl (record { rows = []; taken = tt; refusal = d; cause = c; told = refl })
      by_opening (Ok b) c = rest_ends b.left.lines c.0 [] b s c.1 tt h

  -- ---- rows that are read and taken are passed
  record Past (names : List Cell) (rows : List Row) (below : List (List ℕ)) (o : Outcome (KeptSheet S)) : Type 0 where
    pub reading : OpenSheet
    pub state : S
    pub at : At names rows below reading
    pub holds : Holds rows state
    pub outcome : o ≡ kept_rest kind keeping below reading state

  past_rows : (names : List Cell) (below : List (List ℕ)) (above rows : List Row) (ls : List (List ℕ)) (b : OpenSheet) (s : S) → EachOnLine kind (places_of kind.needed names) (length names) ls rows → AreTakenBelow Cause above rows → At names above (ls ++ below) b → Holds above s →
      Past names (above ++ rows) below (kept_rest kind keeping (ls ++ below) b s)
  past_rows names below above [] [] b s i t r h =
      subst (λ rs. Past names rs below (kept_rest kind keeping below b s)) (sym (append-nil above)) (record { reading = b; state = s; at = r; holds = h; outcome = refl })
  past_rows names below above (row ∷ rows) [] b s i t r h = absurd i
  past_rows names below above [] (l ∷ ls) b s i t r h = absurd i
  past_rows names below above (row ∷ rows) (l ∷ ls) b s i t r h = by_keeping (keeping s row) refl (row_comes names above s l row h i.0) (past_rows names below (above ++ (row ∷ [])) rows ls (after_row kind b))
    where
      read : next_row kind b ≡ Ok (Some row)
      read = row_read kind known.judged left names above l (ls ++ below) b r row i.0

      by_keeping : (k : Result S RowRefusal) → keeping s row ≡ k → Comes in_range keeping Cause reference Holds above row k →
          ((u : S) → EachOnLine kind (places_of kind.needed names) (length names) ls rows → AreTakenBelow Cause (above ++ (row ∷ [])) rows → At names (above ++ (row ∷ [])) (ls ++ below) (after_row kind b) → Holds (above ++ (row ∷ [])) u → Past names ((above ++ (row ∷ [])) ++ rows) below (kept_rest kind keeping (ls ++ below) (after_row kind b) u)) →
          Past names (above ++ (row ∷ rows)) below (kept_rest kind keeping ((l ∷ ls) ++ below) b s)
      by_keeping (Err d) q c rest = absurd (t.0 d.number c.0)
      by_keeping (Ok u) q c rest =
          let p = rest u i.1 t.1 (row_passed kind known.judged left names above l (ls ++ below) b r row read i.0) c.0 in
          let further = kept_rest kind keeping (ls ++ below) (after_row kind b) in
          let here : kept_rest kind keeping ((l ∷ ls) ++ below) b s ≡ further u = ap (next_outcome keeping b s further) read ∙ ap (row_outcome b.left.line further) q in
          subst (λ rs. Past names rs below (kept_rest kind keeping ((l ∷ ls) ++ below) b s)) (append_assoc above (row ∷ []) rows) (record { reading = p.reading; state = p.state; at = p.at; holds = p.holds; outcome = here ∙ p.outcome })

  past : (names : List Cell) (rows : List Row) (below : List (List ℕ)) (s : S) → ReadsTo kind left names rows below → AreTaken Cause rows → Holds [] s → Past names rows below (kept_sheet kind keeping s left)
  past names rows below s r t h =
      let o = opens kind known.judged left names rows below r in
      let p = past_rows names below [] rows r.row_lines o.0 s (each_under r) t o.1.1 h in
      let opened_is : kept_sheet kind keeping s left ≡ kept_rest kind keeping (r.row_lines ++ below) o.0 s = ap (opening_outcome kind keeping s) o.1.0 ∙ ap (λ ls. kept_rest kind keeping ls o.0 s) o.1.1.lines in
      record { reading = p.reading; state = p.state; at = p.at; holds = p.holds; outcome = opened_is ∙ p.outcome }

  -- ---- a sheet that is taken, and one that is not
  pub sheet_taken : (rows : List Row) (behind : Rest) (s : S) → IsTaken kind Cause left rows behind → Holds [] s →
      (t : S) × (Holds rows t × (kept_sheet kind keeping s left ≡ Ok (record { kept = t; rows = length rows; left = behind })))
  sheet_taken rows behind s w h =
      let sheet = w.sheet in
      let below = sheet.trailer ∷ behind.lines in
      let names = sheet.names in
      let p = past names rows below s sheet.reads w.taken h in
      let b = p.reading in
      let end = (and_parts _ _ (trailer_passes (length rows) sheet.trailer sheet.ended)).0 in (
        p.state,
        (
          p.holds,
          p.outcome
              ∙ ap (next_outcome keeping b p.state (kept_rest kind keeping behind.lines (after_row kind b))) (ended kind known.judged left names rows below b p.at end)
              ∙ ap (trailer_outcome p.state b.rows) (sheet_closed kind known.judged left names rows sheet.trailer behind b p.at sheet.ended sheet.line sheet.loose)
              ∙ ap (λ n. Ok (record { kept = p.state; rows = n; left = behind })) p.at.counted,
        ),
      )

  sheet_refused : (e : PlacedRefusal) (s : S) → SheetIsRefused kind Cause left e → Holds [] s → kept_sheet kind keeping s left ≡ Err e
  sheet_refused e s w h = by_cause w.cause ∙ ap Err (sym w.told)
    where
      d : SheetRefusal
      d = w.refusal

      by_row : (names : List Cell) (line : List ℕ) (ls : List (List ℕ)) → ReadsTo kind left names w.rows (line ∷ ls) → ((b : OpenSheet) → At names w.rows (line ∷ ls) b → next_row kind b ≡ Err d) → kept_sheet kind keeping s left ≡ Err (placed_sheet_refusal d)
      by_row names line ls r refused =
          let p = past names w.rows (line ∷ ls) s r w.taken h in
          p.outcome ∙ ap (next_outcome keeping p.reading p.state (kept_rest kind keeping ls (after_row kind p.reading))) (refused p.reading p.at)

      by_cause : SheetCause kind left w.rows d → kept_sheet kind keeping s left ≡ Err (placed_sheet_refusal d)
      by_cause (mark n m) = ap (opening_outcome kind keeping s) (mark_refused kind known.judged left d m)
      by_cause (columns n c) = ap (opening_outcome kind keeping s) (columns_refused kind known.judged left d c)
      by_cause (cell_count c) = by_row c.names c.line c.below c.reads
          (λ b r. count_refused kind known.judged left c.names w.rows c.line c.below b r d (no_end_fails c.line c.no_trailer) c.wrong c.told)
      by_cause (value v) = by_row v.names v.line v.below v.reads
          (λ b r. value_refused kind known.judged left v.names w.rows v.line v.below b r d v.needed (no_end_fails v.line v.no_trailer) v.count v.within (misfits kind known.judged v))
      by_cause (trailer t) =
          let p = past t.names w.rows t.below s t.reads w.taken h in
          p.outcome ∙ at_end t.below p.reading p.state p.at t.wrong
        where
          at_end : (below : List (List ℕ)) (b : OpenSheet) (u : S) → At t.names w.rows below b → MissingOr (λ line. (first_cell (cells line) ≡ codes "END") × (IsTrailerOf (length w.rows) line → ⊥)) below → kept_rest kind keeping below b u ≡ Err (placed_sheet_refusal d)
          at_end [] b u r m = ap (trailer_outcome u b.rows) (trailer_refused kind known.judged left t.names w.rows [] b d r m t.told)
          at_end (l ∷ ls) b u r m =
              ap (next_outcome keeping b u (kept_rest kind keeping ls (after_row kind b))) (ended kind known.judged left t.names w.rows (l ∷ ls) b r (end_passes l m.0))
              ∙ ap (trailer_outcome u b.rows) (trailer_refused kind known.judged left t.names w.rows (l ∷ ls) b d r m t.told)

  row_refused : (e : PlacedRefusal) (s : S) → RowIsTurnedAway kind Cause reference left e → Holds [] s → kept_sheet kind keeping s left ≡ Err e
  row_refused e s w h =
      p.outcome
      ∙ ap (next_outcome keeping p.reading p.state further) (row_read kind known.judged left w.names w.rows w.line w.below p.reading p.at w.row is)
      ∙ by_keeping (keeping p.state w.row) (row_comes w.names w.rows p.state w.line w.row p.holds is)
    where
      is : IsRowUnder kind w.names w.line w.row
      is = subst (λ places. IsRowLine kind places (length w.names) w.line w.row) (sym (same_places w.reads)) w.row_is

      p : Past w.names w.rows (w.line ∷ w.below) (kept_sheet kind keeping s left)
      p = past w.names w.rows (w.line ∷ w.below) s w.reads w.taken h

      further : S → Outcome (KeptSheet S)
      further = kept_rest kind keeping w.below (after_row kind p.reading)

      by_keeping : (k : Result S RowRefusal) → Comes in_range keeping Cause reference Holds w.rows w.row k → row_outcome p.reading.left.line further k ≡ Err e
      by_keeping (Ok u) c = absurd (c.1 w.number w.cause)
      by_keeping (Err d) c = (λ i. Err (refusal_of_book (j.one w.rows w.row d.number w.number c.0 w.cause i) (p.at.line i) (c.1 i))) ∙ ap Err (sym w.told)

  pub refused_in : (e : PlacedRefusal) (s : S) → IsRefusedIn kind Cause reference left e → Holds [] s → kept_sheet kind keeping s left ≡ Err e
  refused_in e s (inl w) h = sheet_refused e s w h
  refused_in e s (inr w) h = row_refused e s w h
