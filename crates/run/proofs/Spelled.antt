-- What is loaded is spelled by the lines of the input.
use Rattle.std.proofs.Common.{◌≡◌, ℕ, zero, suc, ◌+◌, ◌-◌, ◌<◌, Bool, true, List, [], ◌∷◌, length, get_or, Some, None, Ok, sym, refl, ap, ◌∙◌, subst, ⊎_elim, arith}
use Rattle.std.specs.Prelude.{Contains, codes}
use Rattle.std.proofs.lemmas.List.{length-map}
use Rattle.std.proofs.lemmas.Option.{same_Some}
use Rattle.text.specs.Cells.{cells}
use Rattle.text.specs.Lines.{lines}
use Rattle.register.specs.Keys.{Ascends}
use Rattle.curve.specs.Points.{point_rank}
use Rattle.market.specs.Contents.{Quotes}
use Rattle.market.specs.Records.{price_rank, percentage_rank}
use Rattle.account.specs.Calls.{line_rank}
use Rattle.account.proofs.Sorted.{Rises, ascends}
use Rattle.sheet.specs.Kinds.{SheetKind, cell_at, fitting_row}
use Rattle.sheet.specs.Sheets.{Rest, needed_cells}
use Rattle.sheet.specs.Written.{AreWordAndNumber, IsRowLine, EachOnLine, IsSheet}
use Rattle.sheet.proofs.Written.{read_as_written}
use Rattle.rows.specs.Forms.{Spelling}
use Rattle.rows.specs.Days.{days, day_in_range}
use Rattle.rows.specs.Percentages.{percentages, percentage_in_range}
use Rattle.rows.specs.Points.{points, point_in_range}
use Rattle.rows.specs.Prices.{prices, price_in_range}
use Rattle.rows.specs.Positions.{positions, line_in_range}
use Rattle.rows.specs.Laws.{OneSpelling}
use Rattle.rows.proofs.Rows.{days_law, percentages_law, points_law, prices_law, positions_law}
use Rattle.rows.proofs.Fitting.{spelled}
use Rattle.run.specs.KeptSheets.{KeptSheet, Keeping, kept_sheet}
use Rattle.run.specs.Kept.{keep_day, keep_percentage, keep_point, keep_price, keep_line}
use Rattle.run.specs.Runs.{input, quotes_of_day, no_points, no_lines, Account}
use Rattle.run.specs.Laws.{records_with}
use Rattle.run.specs.Spelled.{cells_on, names_line, IsAmongRows, trailer_line, line_behind, Says, SheetSpells, percentages_from, SheetsSpell, SheetsSpellLaw}
use Rattle.run.proofs.Sheets.{Ranged, sheet_read}
use Rattle.run.proofs.RowKinds.{days_known, percentages_known, points_known, prices_known, positions_known, prices_kept, percentages_kept}
use Rattle.run.proofs.Right.{percentage_puts, point_puts, price_puts, line_puts}
use Rattle.run.proofs.Tests.{nothing_stands}
use Rattle.run.proofs.Loaded.{Steps, steps, day_sheet, same_today}
use Rattle.run.proofs.SheetLines.{Begins, at_first, many_places, many_lines, to_parts, parts_are, Cut, on_line, on_row, past_rows, behind_begins}
use Rattle.run.proofs.RecordsOfRows.{nothing_in, record_of_row, row_of_record, records_long, PutsNew, held_by_rank, held_rises, kept_once}

-- ---- the lines of a sheet
module _ {Row : Type 0} (kind : SheetKind Row) where
  row_on : (places : List ℕ) (width : ℕ) (ls : List (List ℕ)) (rows : List Row) → EachOnLine kind places width ls rows → (i : ℕ) → i < length rows →
      (row : Row) × (((d : Row) → get_or rows i d ≡ row) × IsRowLine kind places width (get_or ls i []) row)
  row_on places width [] [] h i l = absurd (omega arith)
  row_on places width [] (r ∷ rs) h i l = absurd h
  row_on places width (x ∷ ls) [] h i l = absurd h
  row_on places width (x ∷ ls) (r ∷ rs) h zero l = (r, (λ d. refl, h.0))
  row_on places width (x ∷ ls) (r ∷ rs) h (suc i) l = row_on places width ls rs h.1 i (omega arith)

  module _ (bytes : List ℕ) (from : ℕ) (left : Rest) (rows : List Row) (behind : Rest) (at : Begins bytes from left) (w : IsSheet kind left rows behind) where
    abbrev sheet_cut : Cut left.lines (length rows)
    sheet_cut = record {
      top = w.reads.top;
      names = w.reads.name_line;
      row_lines = w.reads.row_lines;
      trailer = w.trailer;
      rest = behind.lines;
      is = w.reads.lines;
      long = many_lines kind w.reads.places (length w.names) w.reads.row_lines rows w.reads.each;
    }

    sheet_behind : Begins bytes (line_behind from (length rows)) behind
    sheet_behind = behind_begins bytes from left (length rows) at sheet_cut behind refl w.loose

    module _ {in_range : Row → Bool} {spelling : Row → Spelling} (law : OneSpelling kind in_range spelling) where
      -- the row of a line
      record RowAt (n i : ℕ) (row : Row) : Type 0 where
        pub is : (d : Row) → get_or rows i d ≡ row
        pub makes : fitting_row kind (cell_at (needed_cells w.reads.places (cells_on bytes n))) ≡ Some row
        pub says : Says w.names (cells_on bytes n) (spelling row)
        pub ranged : in_range row ≡ true

      row_at : (n i : ℕ) → n ≡ from + 2 + i → i < length rows → (row : Row) × RowAt n i row
      row_at n i e l =
          let r = row_on w.reads.places (length w.names) w.reads.row_lines rows w.reads.each i l in
          let here : IsRowLine kind w.reads.places (length w.names) (get_or (lines bytes) (n - 1) []) r.0 = subst (λ line. IsRowLine kind w.reads.places (length w.names) line r.0) (sym (on_row bytes from left (length rows) at sheet_cut n i e l)) r.1.1 in
          let many = length-map w.reads.places (cell_at (cells_on bytes n)) ∙ many_places w.names kind.needed w.reads.places w.reads.named in
          let s = spelled law (needed_cells w.reads.places (cells_on bytes n)) r.0 many here.makes in
          (r.0, record { is = r.1.0; makes = here.makes; says = record { no_trailer = here.no_trailer; count = here.count; parts = to_parts w.names (cells_on bytes n) kind.needed w.reads.places (spelling r.0) w.reads.named (law.named r.0) s.0 }; ranged = s.1 })

      module _ (records : List Row) (many : length records ≡ length rows) (to_row : (row : Row) → Contains records row → Contains rows row) (to_record : (row : Row) → Contains rows row → Contains records row)
          (once : (i j : ℕ) (d : Row) → i < length rows → j < length rows → get_or rows i d ≡ get_or rows j d → i ≡ j) where
        line_of : (row : Row) → Contains records row → (i : ℕ) × ((i < length rows) × RowAt (from + 2 + i) i row)
        line_of row h =
            let c = to_row row h in
            let r = row_at (from + 2 + c.0) c.0 refl c.1 in
            (c.0, (c.1, subst (RowAt (from + 2 + c.0) c.0) (sym (r.1.is row) ∙ c.2) r.1))

        has_line : (row : Row) → Contains records row → (n : ℕ) × (IsAmongRows from (length records) n × Says w.names (cells_on bytes n) (spelling row))
        has_line row h =
            let r = line_of row h in
            let l = r.1.0 in
            (from + 2 + r.0, ((omega arith, omega (arith, many)), r.1.1.says))

        row_among : (n : ℕ) → IsAmongRows from (length records) n → (row : Row) × (RowAt n (n - (from + 2)) row × (n - (from + 2) < length rows))
        row_among n h =
            let low = h.0 in
            let high = h.1 in
            let within : n - (from + 2) < length rows = omega (arith, many) in
            let r = row_at n (n - (from + 2)) (omega arith) within in
            (r.0, (r.1, within))

        has_record : (n : ℕ) → IsAmongRows from (length records) n → (row : Row) × (Contains records row × Says w.names (cells_on bytes n) (spelling row))
        has_record n h = let r = row_among n h in (r.0, (to_record r.0 (n - (from + 2), r.1.1, r.1.0.is r.0), r.1.0.says))

        one_line : (n m : ℕ) (row : Row) → IsAmongRows from (length records) n → IsAmongRows from (length records) m → Says w.names (cells_on bytes n) (spelling row) → Says w.names (cells_on bytes m) (spelling row) → n ≡ m
        one_line n m row h k sn sm =
            let low = h.0 in
            let low_m = k.0 in
            let r = row_among n h in
            let q = row_among m k in
            let alike = parts_are w.names (cells_on bytes n) kind.needed w.reads.places (spelling row) w.reads.named (law.named row) sn.parts ∙ sym (parts_are w.names (cells_on bytes m) kind.needed w.reads.places (spelling row) w.reads.named (law.named row) sm.parts) in
            let same : r.0 ≡ q.0 = same_Some _ _ (sym r.1.0.makes ∙ (ap (λ cs. fitting_row kind (cell_at cs)) alike ∙ q.1.0.makes)) in
            let place : n - (from + 2) ≡ m - (from + 2) = once (n - (from + 2)) (m - (from + 2)) row r.1.1 q.1.1 (r.1.0.is row ∙ (same ∙ sym (q.1.0.is row))) in
            omega (arith, place)

        sheet_spells : SheetSpells kind in_range spelling bytes from records
        sheet_spells = record {
          version = w.reads.top_is.version;
          from_1 = w.reads.top_is.from_1;
          to_255 = w.reads.top_is.to_255;
          marked = subst (AreWordAndNumber kind.mark w.reads.top_is.version) (ap cells (sym (on_line bytes from left (length rows) at sheet_cut from 0 (omega arith)))) w.reads.top_is.marked;
          names = w.names;
          names_are = w.reads.names_are ∙ ap cells (sym (on_line bytes from left (length rows) at sheet_cut (names_line from) 1 refl));
          few = w.reads.few;
          places = w.reads.places;
          named = w.reads.named;
          has_line = has_line;
          has_record = has_record;
          one_line = one_line;
          ranged = λ row h. (line_of row h).1.1.ranged;
          ended =
              let there : cells_on bytes (trailer_line from (length records)) ≡ cells w.trailer = ap cells (past_rows bytes from left (length rows) at sheet_cut (trailer_line from (length records)) 0 (omega (arith, many))) in
              subst (λ m. AreWordAndNumber (codes "END") m (cells_on bytes (trailer_line from (length records)))) (sym many)
              (subst (AreWordAndNumber (codes "END") (length rows)) (sym there) w.ended);
        }

-- ---- a sheet whose rows are put in by rank
module _ {Row S : Type 0} (kind : SheetKind Row) (in_range : Row → Bool) (known : Ranged kind in_range) {spelling : Row → Spelling} (law : OneSpelling kind in_range spelling)
    (rank : Row → ℕ) (keeping : Keeping Row S) (held : S → List Row) (puts : PutsNew rank keeping held) where
  record Put (bytes : List ℕ) (from : ℕ) (records : List Row) (left : Rest) : Type 0 where
    pub spells : SheetSpells kind in_range spelling bytes from records
    pub ascending : Ascends rank records
    pub behind : Begins bytes (line_behind from (length records)) left

  rows_put : (bytes : List ℕ) (from : ℕ) (s : S) (left : Rest) (t : KeptSheet S) → held s ≡ [] → kept_sheet kind keeping s left ≡ Ok t → Begins bytes from left → Put bytes from (held t.kept) t.left
  rows_put bytes from s left t empty e at =
      let r = sheet_read kind in_range known keeping s left t e in
      let w = (read_as_written kind known.judged left r.0 t.left).0 r.1.read in
      let is : held t.kept ≡ records_with rank [] r.0 = held_by_rank rank keeping held puts s t.kept r.0 r.1.kept ∙ ap (λ ys. records_with rank ys r.0) empty in
      let many : length (held t.kept) ≡ length r.0 = ap length is ∙ records_long rank [] r.0 ∙ omega arith in
      let rises = held_rises rank keeping held puts s t.kept r.0 (subst (Rises rank) (sym empty) tt) r.1.kept in
      record {
        spells =
            sheet_spells kind bytes from left r.0 t.left at w law (held t.kept) many
            (λ row h. ⊎_elim (nothing_in row) (λ m. m) (row_of_record rank [] r.0 row (subst (λ ys. Contains ys row) is h)))
            (λ row h. subst (λ ys. Contains ys row) (sym is) (record_of_row rank [] r.0 row h))
            (kept_once rank keeping held puts s t.kept r.0 r.1.kept);
        ascending = ascends rank (held t.kept) rises;
        behind = subst (λ n. Begins bytes (line_behind from n) t.left) (sym many) (sheet_behind kind bytes from left r.0 t.left at w);
      }

-- ---- the five sheets
module _ (bytes : List ℕ) (l : Account) (s : Steps bytes l) where
  day_written : IsSheet days (input bytes) (s.today ∷ []) s.day.left
  day_written =
      let r = sheet_read days day_in_range days_known keep_day None (input bytes) s.day s.day_is in
      (read_as_written days days_known.judged (input bytes) (s.today ∷ []) s.day.left).0 (r.1.read ∙ ap (λ rows. Ok (rows, s.day.left)) (day_sheet s.day bytes s.today r.0 r.1 s.today_is))

  -- the percentages, which the prices leave as they are
  same_percentages : s.prc.kept.percentages ≡ s.par.kept.percentages
  same_percentages = let r = sheet_read prices price_in_range prices_known keep_price s.par.kept s.crv.left s.prc s.prc_is in ap (λ (x : Quotes). x.percentages) (prices_kept s.par.kept s.prc.kept r.0 r.1.kept)

  first_price : s.par.kept.prices ≡ []
  first_price = let r = sheet_read percentages percentage_in_range percentages_known keep_percentage (quotes_of_day s.today) s.day.left s.par s.par_is in ap (λ (x : Quotes). x.prices) (percentages_kept (quotes_of_day s.today) s.par.kept r.0 r.1.kept)

  same_next : s.prc.kept.next ≡ s.today.next
  same_next =
      let p = sheet_read percentages percentage_in_range percentages_known keep_percentage (quotes_of_day s.today) s.day.left s.par s.par_is in
      let q = sheet_read prices price_in_range prices_known keep_price s.par.kept s.crv.left s.prc s.prc_is in
      ap (λ (x : Quotes). x.next) (prices_kept s.par.kept s.prc.kept q.0 q.1.kept) ∙ ap (λ (x : Quotes). x.next) (percentages_kept (quotes_of_day s.today) s.par.kept p.0 p.1.kept)

  spell : SheetsSpell bytes l
  spell =
      let day_behind = sheet_behind days bytes 1 (input bytes) (s.today ∷ []) s.day.left (at_first bytes) day_written in
      let read = rows_put percentages percentage_in_range percentages_known percentages_law percentage_rank keep_percentage (λ q. q.percentages) percentage_puts bytes percentages_from (quotes_of_day s.today) s.day.left s.par refl s.par_is day_behind in
      let par = subst (λ ps. Put percentages percentage_in_range percentages_known percentages_law percentage_rank keep_percentage (λ q. q.percentages) percentage_puts bytes percentages_from ps s.par.left) (sym same_percentages) read in
      let crv = rows_put points point_in_range points_known points_law point_rank keep_point (λ h. h.records) point_puts bytes (line_behind percentages_from (length s.prc.kept.percentages)) no_points s.par.left s.crv refl s.crv_is par.behind in
      let prc = rows_put prices price_in_range prices_known prices_law price_rank keep_price (λ q. q.prices) price_puts bytes (line_behind (line_behind percentages_from (length s.prc.kept.percentages)) (length s.crv.kept.records)) s.par.kept s.crv.left s.prc first_price s.prc_is crv.behind in
      let pos = rows_put positions line_in_range positions_known positions_law line_rank keep_line (λ h. h.standing) line_puts bytes (line_behind (line_behind (line_behind percentages_from (length s.prc.kept.percentages)) (length s.crv.kept.records)) (length s.prc.kept.prices)) (no_lines s.today) s.prc.left s.pos refl s.pos_is prc.behind in
      let ended = nothing_stands s.pos.left s.nothing_behind in
      let none = ap length ended.0 in
      let many = pos.behind.many in
      subst (SheetsSpell bytes) s.loads (record {
        day = s.today;
        curve = s.crv.kept.records;
        day_sheet =
            sheet_spells days bytes 1 (input bytes) (s.today ∷ []) s.day.left (at_first bytes) day_written days_law (s.today ∷ []) refl (λ row h. h) (λ row h. h)
            (λ i j d h k e. let a : i < 1 = h in let b : j < 1 = k in omega arith);
        percentage_sheet = par.spells;
        point_sheet = crv.spells;
        price_sheet = prc.spells;
        position_sheet = pos.spells;
        last_line = omega (arith, many, none);
        nothing_loose = sym pos.behind.loose_is ∙ ended.1;
        by_tranche = par.ascending;
        by_term = crv.ascending;
        by_isin = prc.ascending;
        by_reference = pos.ascending;
        today = same_today bytes l s;
        next = same_next;
        rule = refl;
        reach = refl;
        rate = refl;
      })

pub sheets_spell_law : SheetsSpellLaw
sheets_spell_law bytes l e = spell bytes l (steps bytes l e)
