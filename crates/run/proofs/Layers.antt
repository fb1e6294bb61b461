-- Each refusal of a run is of one of its layers.
use Rattle.std.proofs.Common.{◌≡◌, ℕ, ◌-◌, ◌≤◌, ◌⊎◌, inl, inr, ⊎_elim, Bool, true, false, cond, not, ◌&&◌, ltb, eqb, List, [], ◌∷◌, length, Option, Some, None, Ok, Err, sym, refl, ap, ◌∙◌, subst, arith}
use Rattle.std.proofs.lemmas.Bool.{eqb-false}
use Rattle.register.specs.Contents.{Table}
use Rattle.curve.specs.declared.point.Point.{Point}
use Rattle.market.specs.Contents.{Quotes}
use Rattle.account.specs.declared.line.Line.{Line}
use Rattle.account.specs.Lines.{block_name, is_same_block, is_trade}
use Rattle.account.specs.declared.block_name.BlockName.TheVariants.{CashOnly as cash_only}
use Rattle.account.specs.Settings.{Setting, has_price, has_percentage, has_rate}
use Rattle.account.specs.Rows.{statement_rows}
use Rattle.account.specs.Calls.{Answer, accepted, refused, given}
use Rattle.account.specs.Answers.{fault, answer_among, margin_answer}
use Rattle.sheet.specs.Kinds.{SheetKind}
use Rattle.sheet.specs.Sheets.{Rest}
use Rattle.sheet.specs.Laws.{after_last}
use Rattle.sheet.proofs.Written.{read_as_written}
use Rattle.statement.specs.Statements.{statement_text}
use Rattle.rows.specs.declared.day.DayRow.{DayRow}
use Rattle.rows.specs.Days.{days, day_in_range}
use Rattle.rows.specs.Percentages.{percentages, percentage_in_range}
use Rattle.rows.specs.Points.{points, point_in_range}
use Rattle.rows.specs.Prices.{prices, price_in_range}
use Rattle.rows.specs.Positions.{positions, line_in_range}
use Rattle.run.specs.Refusals.{RowRefusal, PlacedRefusal, Outcome, refusal_of_run, refusal_of_sheet}
use Rattle.run.specs.KeptSheets.{KeptSheet, Keeping, kept_sheet}
use Rattle.run.specs.Kept.{keep_day, keep_percentage, keep_point, keep_price, DayLines, keep_line}
use Rattle.run.specs.Runs.{most_bytes, and_then, input, quotes_of_day, no_points, no_lines, Account, setting_of_day, nothing_left, whole_account, no_day, day_among, one_day, account_of_sheets, outcome_by_answer}
use Rattle.run.specs.Laws.{HasRow, StandsBehind, PercentageSheetAt, PointSheetAt, PriceSheetAt, PositionSheetAt, RowHasReference, IsWholeRefusal, IsSheetRefusal, IsBookRefusal, IsMarginRefusal, RefusalsLaw}
use Rattle.run.proofs.Sheets.{Ranged, sheet_read}
use Rattle.run.proofs.SheetRefusals.{LeftOf, sheet_reported}
use Rattle.run.proofs.RowKinds.{Numbered, days_known, percentages_known, points_known, prices_known, positions_known, day_turned, percentage_turned, point_turned, price_turned, line_turned}
use Rattle.run.proofs.Loaded.{with_prices, with_points, with_percentages, with_day, with_days}

pub same_err : {X : Type 0} (d e : PlacedRefusal) → ◌≡◌ {A = Outcome X} (Err d) (Err e) → d ≡ e
same_err d e h = cc

pub then_err : {X Y : Type 0} (a : Outcome X) (f : X → Outcome Y) (e : PlacedRefusal) → and_then a f ≡ Err e → (a ≡ Err e) ⊎ ((x : X) × ((a ≡ Ok x) × (f x ≡ Err e)))
then_err (Ok x) f e h = inr (x, (refl, h))
then_err (Err d) f e h = inl (let s : d ≡ e = same_err d e h in ap Err s)

-- a trailer is reported at a line of the input, or at the one after the last
at_trailer : {X : Type 0} (bytes : List ℕ) (line : ℕ) (e : PlacedRefusal) → 1 ≤ line → line ≤ after_last (input bytes) → ◌≡◌ {A = Outcome X} (Err (refusal_of_sheet 5 line 0)) (Err e) → IsSheetRefusal bytes e
at_trailer bytes line e l m h =
    subst (IsSheetRefusal bytes) (same_err _ e h) (record { layer = refl; from_1 = omega arith; to_5 = omega arith; line = l; within = omega (arith, m); cell = λ n. refl; value = λ n. omega (arith, n); reference = refl })

module _ (bytes : List ℕ) (e : PlacedRefusal) where
  abbrev pub Layer : Type 0
  Layer = IsSheetRefusal bytes e ⊎ IsBookRefusal bytes e

  -- a sheet, and what is made of it
  one_sheet : {Row S Y : Type 0} (block_name : SheetKind Row) (in_range : Row → Bool) (known : Ranged block_name in_range) (keeping : Keeping Row S) (reference : Row → ℕ) (turned : (s : S) (row : Row) (d : RowRefusal) → in_range row ≡ true → keeping s row ≡ Err d → Numbered (reference row) d)
      (s : S) (left : Rest) (f : KeptSheet S → Outcome Y) → LeftOf bytes 1 left → ((line : ℕ) (row : Row) → HasRow block_name left line row → RowHasReference bytes line (reference row)) →
      ((t : KeptSheet S) → LeftOf bytes 2 t.left → StandsBehind block_name left t.left → f t ≡ Err e → Layer) → and_then (kept_sheet block_name keeping s left) f ≡ Err e → Layer
  one_sheet block_name in_range known keeping reference turned s left f l by_row further h =
      ⊎_elim (λ r. sheet_reported block_name in_range known keeping reference turned bytes left by_row e s l r)
      (λ r. let read = sheet_read block_name in_range known keeping s left r.0 r.1.0 in
      let from = l.from in
      let line = read.1.line in
      further r.0 (record { from = omega arith; counted = read.1.counted ∙ l.counted }) (read.0, (read_as_written block_name known.judged left read.0 r.0.left).0 read.1.read) r.1.1)
      (then_err (kept_sheet block_name keeping s left) f e h)

  further_on : (left : Rest) → LeftOf bytes 2 left → LeftOf bytes 1 left
  further_on left l = let from = l.from in record { from = omega arith; counted = l.counted }

  after_lines : (d : DayRow) (q : Quotes) (ps : List Point) (pos : KeptSheet DayLines) → LeftOf bytes 2 pos.left → whole_account d q ps pos ≡ Err e → Layer
  after_lines d q ps pos l h = go (nothing_left pos.left) h
    where
      go : (t : Bool) → cond {A = Outcome Account} t (Ok (record { setting = setting_of_day d q ps; standing = pos.kept.standing })) (Err (refusal_of_sheet 5 pos.left.line 0)) ≡ Err e → Layer
      go true h = cc
      go false h = let from = l.from in let counted = l.counted in inl (at_trailer {X = Account} bytes pos.left.line e (omega arith) (omega arith) h)

  after_prices : (d : DayRow) (ps : List Point) (prc : KeptSheet Quotes) → LeftOf bytes 2 prc.left → PositionSheetAt bytes prc.left → with_prices d ps prc ≡ Err e → Layer
  after_prices d ps prc l at h =
      one_sheet positions line_in_range positions_known keep_line (λ r. r.reference) line_turned (no_lines d) prc.left (whole_account d prc.kept ps) (further_on prc.left l)
      (λ line row has. inl (row, ((prc.left, (at, has)), refl))) (λ pos m behind. after_lines d prc.kept ps pos m) h

  after_points : (d : DayRow) (q : Quotes) (crv : KeptSheet (Table Point)) → LeftOf bytes 2 crv.left → PriceSheetAt bytes crv.left → with_points d q crv ≡ Err e → Layer
  after_points d q crv l at h =
      one_sheet prices price_in_range prices_known keep_price (λ r. 0) price_turned q crv.left (with_prices d crv.kept.records) (further_on crv.left l)
      (λ line row has. inr (inr (inr (inr (row, (crv.left, (at, has))))), refl)) (λ prc m behind. after_prices d crv.kept.records prc m (crv.left, (at, behind))) h

  after_percentages : (d : DayRow) (par : KeptSheet Quotes) → LeftOf bytes 2 par.left → PointSheetAt bytes par.left → with_percentages d par ≡ Err e → Layer
  after_percentages d par l at h =
      one_sheet points point_in_range points_known keep_point (λ r. 0) point_turned no_points par.left (with_points d par.kept) (further_on par.left l)
      (λ line row has. inr (inr (inr (inl (row, (par.left, (at, has))))), refl)) (λ crv m behind. after_points d par.kept crv m (par.left, (at, behind))) h

  after_day : (day : KeptSheet (Option DayRow)) → LeftOf bytes 2 day.left → PercentageSheetAt bytes day.left → (d : DayRow) → with_day day d ≡ Err e → Layer
  after_day day l at d h =
      one_sheet percentages percentage_in_range percentages_known keep_percentage (λ r. 0) percentage_turned (quotes_of_day d) day.left (with_percentages d) (further_on day.left l)
      (λ line row has. inr (inr (inl (row, (day.left, (at, has)))), refl)) (λ par m behind. after_percentages d par m (day.left, (at, behind))) h

  no_one_day : (t : KeptSheet (Option DayRow)) (k : Option DayRow) → LeftOf bytes 2 t.left → day_among t k ≡ Err e → IsSheetRefusal bytes e
  no_one_day t k l h = by_day k h
    where
      trailer : ◌≡◌ {A = Outcome DayRow} (no_day t) (Err e) → IsSheetRefusal bytes e
      trailer h = let from = l.from in let counted = l.counted in at_trailer {X = DayRow} bytes (t.left.line - 1) e (omega arith) (omega arith) h

      by_count : (b : Bool) (d : DayRow) → cond b (Ok d) (no_day t) ≡ Err e → IsSheetRefusal bytes e
      by_count true d h = cc
      by_count false d h = trailer h

      by_day : (k : Option DayRow) → day_among t k ≡ Err e → IsSheetRefusal bytes e
      by_day None h = trailer h
      by_day (Some d) h = by_count (eqb t.rows 1) d h

  after_days : (day : KeptSheet (Option DayRow)) → LeftOf bytes 2 day.left → PercentageSheetAt bytes day.left → with_days day ≡ Err e → Layer
  after_days day l at h = ⊎_elim (λ r. inl (no_one_day day day.kept l r)) (λ r. after_day day l at r.0 r.1.1) (then_err (one_day day) (with_day day) e h)

  pub not_loaded : account_of_sheets bytes ≡ Err e → Layer
  not_loaded h =
      one_sheet days day_in_range days_known keep_day (λ r. 0) day_turned None (input bytes) with_days (record { from = omega arith; counted = refl })
      (λ line row has. inr (inl (row, (input bytes, (refl, has))), refl)) (λ day m behind. after_days day m (input bytes, (refl, behind))) h

-- a line without a margin lacks a price, a percentage or a rate
faults : (s : Setting) (l : Line) → (fault s l ≡ 0 → ⊥) → (10 ≤ fault s l) × (fault s l ≤ 12)
faults s l h = go (is_same_block (block_name l.block) cash_only) (has_price s l.isin) (has_percentage s l.isin) (is_trade l && not (has_rate s l)) h
  where
    go : (c p q r : Bool) → let n : ℕ = cond c 0 (cond (not p) 10 (cond (not q) 11 (cond r 12 0))) in (n ≡ 0 → ⊥) → (10 ≤ n) × (n ≤ 12)
    go true p q r h = absurd (h refl)
    go false false q r h = (omega arith, omega arith)
    go false true false r h = (omega arith, omega arith)
    go false true true true h = (omega arith, omega arith)
    go false true true false h = absurd (h refl)

lacking : (s : Setting) (all ls : List Line) (n r : ℕ) → answer_among s all ls ≡ refused n r → (10 ≤ n) × (n ≤ 12)
lacking s all [] n r e = let z : ◌≡◌ {A = ℕ} 0 1 = cc in absurd (omega arith)
lacking s all (l ∷ ls) n r e = go (eqb (fault s l) 0) refl e (lacking s all ls n r)
  where
    go : (b : Bool) → eqb (fault s l) 0 ≡ b → cond b (answer_among s all ls) (refused (fault s l) l.reference) ≡ refused n r → (answer_among s all ls ≡ refused n r → (10 ≤ n) × (n ≤ 12)) → (10 ≤ n) × (n ≤ 12)
    go true t e rest = rest e
    go false t e rest =
        let f = faults s l (eqb-false (fault s l) 0 t) in
        let same : fault s l ≡ n = cc in
        (omega arith, omega arith)

pub too_long : {X : Type 0} (t : Bool) (r : Outcome X) (e : PlacedRefusal) → cond t (Err (refusal_of_run 14)) r ≡ Err e → IsWholeRefusal e ⊎ (r ≡ Err e)
too_long true r e h = inl (sym (same_err _ e h))
too_long false r e h = inr h

not_stated : (bytes : List ℕ) (buffer : ℕ) (l : Account) (a : Answer) (e : PlacedRefusal) → account_of_sheets bytes ≡ Ok l → margin_answer l.setting l.standing ≡ a → outcome_by_answer buffer l a ≡ Err e → IsWholeRefusal e ⊎ IsMarginRefusal e
not_stated bytes buffer l accepted e is q h = cc
not_stated bytes buffer l (refused n r) e is q h =
    let w = lacking l.setting l.standing l.standing n r q in
    inr (subst IsMarginRefusal (same_err {X = List ℕ} _ e h) (record { layer = refl; from_10 = w.0; to_12 = w.1; line = refl; cell = refl }))
not_stated bytes buffer l (given m k) e is q h =
    let text = statement_text (statement_rows l.setting l.standing) m k in
    ⊎_elim inl (λ (z : Ok text ≡ Err e). cc) (too_long (ltb buffer (length text)) (Ok text) e h)

pub refusals_law : RefusalsLaw
refusals_law bytes buffer e h =
    ⊎_elim inl
    (λ r. ⊎_elim
    (λ n. ⊎_elim (λ s. inr (inl s)) (λ b. inr (inr (inl b))) (not_loaded bytes e n))
    (λ l. ⊎_elim inl (λ m. inr (inr (inr m))) (not_stated bytes buffer l.0 (margin_answer l.0.setting l.0.standing) e l.1.0 refl l.1.1))
    (then_err (account_of_sheets bytes) (λ l. outcome_by_answer buffer l (margin_answer l.setting l.standing)) e r))
    (too_long (ltb most_bytes (length bytes)) _ e h)
