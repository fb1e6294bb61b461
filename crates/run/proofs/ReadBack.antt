-- Sheets that spell an account are read, and their rows say it.
use Rattle.std.proofs.Common.{◌≡◌, ℕ, zero, suc, ◌+◌, ◌-◌, ◌<◌, ◌≤◌, Bool, List, [], ◌∷◌, length, get_or, Some, sym, refl, ap, ap₂, ◌∙◌, subst, arith}
use Rattle.std.specs.Prelude.{Contains, codes}
use Rattle.std.proofs.lemmas.Option.{same_Some}
use Rattle.text.specs.Cells.{Cell, cells}
use Rattle.text.specs.Lines.{lines}
use Rattle.curve.specs.Points.{point_rank, reach_of}
use Rattle.market.specs.Records.{price_rank, percentage_rank}
use Rattle.account.specs.Settings.{Setting}
use Rattle.account.specs.Calls.{line_rank}
use Rattle.account.proofs.Sorted.{Rises, rises}
use Rattle.sheet.specs.Kinds.{SheetKind, cell_at, fitting_row}
use Rattle.sheet.specs.Sheets.{Rest, needed_cells}
use Rattle.sheet.specs.Written.{AreWordAndNumber, IsRowLine, EachOnLine, IsSheet}
use Rattle.sheet.specs.Laws.{sheet_rows}
use Rattle.sheet.proofs.Rows.{same_ok}
use Rattle.sheet.proofs.Written.{read_as_written}
use Rattle.rows.specs.Forms.{Spelling}
use Rattle.rows.specs.declared.day.DayRow.{DayRow}
use Rattle.rows.specs.Days.{days}
use Rattle.rows.specs.Percentages.{percentages}
use Rattle.rows.specs.Points.{points}
use Rattle.rows.specs.Prices.{prices}
use Rattle.rows.specs.Positions.{positions}
use Rattle.rows.specs.Laws.{OneSpelling}
use Rattle.rows.proofs.Rows.{days_law, percentages_law, points_law, prices_law, positions_law}
use Rattle.rows.proofs.Fitting.{makes}
use Rattle.run.specs.Runs.{input, netting_rule, rate_by_shape, Account}
use Rattle.run.specs.Laws.{records_by, DeliveredRows, LoadedFrom, SpelledRowsLaw, OneAccountLaw}
use Rattle.run.specs.Spelled.{cells_on, names_line, trailer_line, line_behind, points_from, prices_from, positions_from, Says, SheetSpells, SheetsSpell}
use Rattle.run.proofs.Sheets.{Ranged}
use Rattle.run.proofs.RowKinds.{days_known, percentages_known, points_known, prices_known, positions_known}
use Rattle.run.proofs.SheetLines.{Begins, at_first, many_lines, parts_are, Cut, cut, on_line, on_row, past_rows, behind_begins}
use Rattle.run.proofs.RecordsOfRows.{records_long}
use Rattle.run.proofs.Ascending.{made_of}

-- ---- the rows of lines, one by one
module _ {Row : Type 0} (kind : SheetKind Row) (places : List ℕ) (width : ℕ) where
  front : (Q : ℕ → Row → Type 0) (x : Row) (rows : List Row) → Q 0 x → ((i : ℕ) (d : Row) → i < length rows → Q (suc i) (get_or rows i d)) → (i : ℕ) (d : Row) → i < length (x ∷ rows) → Q i (get_or (x ∷ rows) i d)
  front Q x rows q h zero d l = q
  front Q x rows q h (suc i) d l = h i d (omega arith)

  collected : (Q : ℕ → Row → Type 0) (ls : List (List ℕ)) → ((i : ℕ) → i < length ls → (row : Row) × (IsRowLine kind places width (get_or ls i []) row × Q i row)) →
      (rows : List Row) × (EachOnLine kind places width ls rows × ((i : ℕ) (d : Row) → i < length rows → Q i (get_or rows i d)))
  collected Q [] f = ([], (tt, λ i d l. absurd (omega arith)))
  collected Q (x ∷ ls) f =
      let h = f 0 (omega arith) in
      let r = collected (λ i. Q (suc i)) ls (λ i l. f (suc i) (omega arith)) in
      (h.0 ∷ r.0, ((h.1.0, r.1.0), front Q h.0 r.0 h.1.1 r.1.1))

module _ {Row : Type 0} (kind : SheetKind Row) {in_range : Row → Bool} {spelling : Row → Spelling} (law : OneSpelling kind in_range spelling) (judged : (cell : ℕ → Cell) → length (kind.fits cell) ≡ length kind.needed)
    (rank : Row → ℕ) (bytes : List ℕ) (from : ℕ) (left : Rest) (records : List Row) (at : Begins bytes from left) (s : SheetSpells kind in_range spelling bytes from records) where
  record ReadBack : Type 0 where
    pub rows : List Row
    pub behind : Rest
    pub sheet : IsSheet kind left rows behind
    pub records_are : Rises rank records → records ≡ records_by rank rows
    pub begins : Begins bytes (line_behind from (length records)) behind

  -- what is said on a line makes the row that says it
  said : (cs : List Cell) (row : Row) → Contains records row → Says s.names cs (spelling row) → fitting_row kind (cell_at (needed_cells s.places cs)) ≡ Some row
  said cs row h says = makes law (needed_cells s.places cs) row (s.ranged row h) (parts_are s.names cs kind.needed s.places (spelling row) s.named (law.named row) says.parts)

  module _ (c : Cut left.lines (length records)) where
    abbrev On : ℕ → Row → Type 0
    On i row = Contains records row × Says s.names (cells_on bytes (from + 2 + i)) (spelling row)

    row_line : (i : ℕ) → i < length c.row_lines → (row : Row) × (IsRowLine kind s.places (length s.names) (get_or c.row_lines i []) row × On i row)
    row_line i l =
        let long = c.long in
        let within : i < length records = omega (arith, long) in
        let h = s.has_record (from + 2 + i) (omega arith, omega arith) in
        let here = on_row bytes from left (length records) at c (from + 2 + i) i refl within in
        let says = h.1.1 in
        let line : IsRowLine kind s.places (length s.names) (get_or (lines bytes) (from + 2 + i - 1) []) h.0 =
        record { no_trailer = says.no_trailer; count = says.count; makes = said (cells_on bytes (from + 2 + i)) h.0 h.1.0 says } in
        (h.0, (subst (λ l. IsRowLine kind s.places (length s.names) l h.0) here line, (h.1.0, says)))

    module _ (rows : List Row) (each : EachOnLine kind s.places (length s.names) c.row_lines rows) (on : (i : ℕ) (d : Row) → i < length rows → On i (get_or rows i d)) where
      many : length rows ≡ length records
      many = sym (many_lines kind s.places (length s.names) c.row_lines rows each) ∙ c.long

      abbrev behind : Rest
      behind = record { lines = c.rest; loose = left.loose; line = left.line + (length rows + 3) }

      is_sheet : IsSheet kind left rows behind
      is_sheet = record {
        names = s.names;
        trailer = c.trailer;
        reads =
            record {
              top = c.top;
              name_line = c.names;
              row_lines = c.row_lines;
              lines = c.is;
              top_is = record { version = s.version; from_1 = s.from_1; to_255 = s.to_255; marked = subst (AreWordAndNumber kind.mark s.version) (ap cells (on_line bytes from left (length records) at c from 0 (omega arith))) s.marked };
              names_are = s.names_are ∙ ap cells (on_line bytes from left (length records) at c (names_line from) 1 refl);
              few = s.few;
              places = s.places;
              named = s.named;
              each = each;
            };
        ended =
            subst (λ m. AreWordAndNumber (codes "END") m (cells c.trailer)) (sym many)
            (subst (AreWordAndNumber (codes "END") (length records)) (ap cells (past_rows bytes from left (length records) at c (trailer_line from (length records)) 0 (omega arith))) s.ended);
        loose = refl;
        line = omega arith;
      }

      to_record : (row : Row) → Contains rows row → Contains records row
      to_record row h = subst (Contains records) h.2 (on h.0 row h.1).0

      to_row : (row : Row) → Contains records row → Contains rows row
      to_row row h =
          let line = s.has_line row h in
          let n = line.0 in
          let low = line.1.0.0 in
          let high = line.1.0.1 in
          let i = n - (from + 2) in
          let within : i < length rows = omega (arith, many) in
          let place : from + 2 + i ≡ n = omega arith in
          let o = on i row within in
          let same = same_Some _ _ (sym (said (cells_on bytes (from + 2 + i)) (get_or rows i row) o.0 o.1) ∙ (ap (λ m. fitting_row kind (cell_at (needed_cells s.places (cells_on bytes m)))) place ∙ said (cells_on bytes n) row h line.1.1)) in
          (i, within, same)

      once : (i j : ℕ) (d : Row) → i < length rows → j < length rows → get_or rows i d ≡ get_or rows j d → i ≡ j
      once i j d l k e =
          let same = s.one_line (from + 2 + i) (from + 2 + j) (get_or rows i d) (omega arith, omega (arith, many)) (omega arith, omega (arith, many)) (on i d l).1
          (subst (λ (r : Row). Says s.names (cells_on bytes (from + 2 + j)) (spelling r)) (sym e) (on j d k).1) in
          omega (arith, same)

      of_rows : ReadBack
      of_rows = record {
        rows = rows;
        behind = behind;
        sheet = is_sheet;
        records_are = λ r. made_of rank records rows r to_row to_record once;
        begins = behind_begins bytes from left (length records) at c behind refl refl;
      }

    of_cut : ReadBack
    of_cut = let r = collected kind s.places (length s.names) On c.row_lines row_line in of_rows r.0 r.1.0 r.1.1

  read_back : length records + 3 ≤ length left.lines → ReadBack
  read_back room = of_cut (cut left.lines (length records) room)

none_of : {X : Type 0} (xs : List X) → length xs ≡ 0 → xs ≡ []
none_of [] e = refl
none_of (x ∷ xs) e = absurd (omega arith)

-- the rows that are one record
single : {Row : Type 0} (rank : Row → ℕ) (row : Row) (rows : List Row) → row ∷ [] ≡ records_by rank rows → rows ≡ row ∷ []
single rank row [] e = absurd (let n = ap length e in omega arith)
single rank row (r ∷ []) e = sym e
single rank row (r ∷ (q ∷ rs)) e = absurd (let n = ap length e in let m = records_long rank [] (r ∷ (q ∷ rs)) in omega (arith, n, m))

module _ (bytes : List ℕ) (account : Account) (s : SheetsSpell bytes account) where
  abbrev setting : Setting
  setting = account.setting

  day_back : ReadBack days days_law days_known.judged (λ d. 0) bytes 1 (input bytes) (s.day ∷ []) (at_first bytes) s.day_sheet
  day_back = read_back days days_law days_known.judged (λ d. 0) bytes 1 (input bytes) (s.day ∷ []) (at_first bytes) s.day_sheet (let last = s.last_line in omega arith)

  percentages_back : ReadBack percentages percentages_law percentages_known.judged percentage_rank bytes (line_behind 1 1) day_back.behind setting.percentages day_back.begins s.percentage_sheet
  percentages_back = read_back percentages percentages_law percentages_known.judged percentage_rank bytes (line_behind 1 1) day_back.behind setting.percentages day_back.begins s.percentage_sheet (let last = s.last_line in let many = day_back.begins.many in omega arith)

  points_back : ReadBack points points_law points_known.judged point_rank bytes (points_from setting) percentages_back.behind s.curve percentages_back.begins s.point_sheet
  points_back = read_back points points_law points_known.judged point_rank bytes (points_from setting) percentages_back.behind s.curve percentages_back.begins s.point_sheet (let last = s.last_line in let many = percentages_back.begins.many in omega arith)

  prices_back : ReadBack prices prices_law prices_known.judged price_rank bytes (prices_from setting s.curve) points_back.behind setting.prices points_back.begins s.price_sheet
  prices_back = read_back prices prices_law prices_known.judged price_rank bytes (prices_from setting s.curve) points_back.behind setting.prices points_back.begins s.price_sheet (let last = s.last_line in let many = points_back.begins.many in omega arith)

  lines_back : ReadBack positions positions_law positions_known.judged line_rank bytes (positions_from setting s.curve) prices_back.behind account.standing prices_back.begins s.position_sheet
  lines_back = read_back positions positions_law positions_known.judged line_rank bytes (positions_from setting s.curve) prices_back.behind account.standing prices_back.begins s.position_sheet (let last = s.last_line in let many = prices_back.begins.many in omega arith)

  delivered : DeliveredRows bytes
  delivered =
      let one = single (λ d. 0) s.day day_back.rows (day_back.records_are (tt, tt)) in
      let last = s.last_line in
      let many = lines_back.begins.many in
      let no_line : length lines_back.behind.lines ≡ 0 = omega arith in
      record {
        day = s.day;
        behind_day = day_back.behind;
        day_sheet = subst (λ rows. IsSheet days (input bytes) rows day_back.behind) one day_back.sheet;
        percentage_rows = percentages_back.rows;
        behind_percentages = percentages_back.behind;
        percentage_sheet = percentages_back.sheet;
        point_rows = points_back.rows;
        behind_points = points_back.behind;
        point_sheet = points_back.sheet;
        price_rows = prices_back.rows;
        behind_prices = prices_back.behind;
        price_sheet = prices_back.sheet;
        lines = lines_back.rows;
        behind_lines = lines_back.behind;
        position_sheet = lines_back.sheet;
        nothing_behind = (none_of lines_back.behind.lines no_line, lines_back.begins.loose_is ∙ s.nothing_loose);
      }

  loaded : LoadedFrom delivered account
  unfolding delivered
  loaded =
      let curve = points_back.records_are (rises point_rank s.curve s.by_term) in
      record {
        today = s.today;
        next = s.next;
        rule = s.rule;
        percentages_are = percentages_back.records_are (rises percentage_rank setting.percentages s.by_tranche);
        reach = s.reach ∙ ap reach_of curve;
        rate = s.rate ∙ ap (rate_by_shape s.day.curve) curve;
        prices_are = prices_back.records_are (rises price_rank setting.prices s.by_isin);
        standing = lines_back.records_are (rises line_rank account.standing s.by_reference);
      }

pub spelled_rows_law : SpelledRowsLaw
spelled_rows_law bytes account s = (delivered bytes account s, loaded bytes account s)

-- ---- and they say one account
same_sheet : {Row : Type 0} (kind : SheetKind Row) {in_range : Row → Bool} (known : Ranged kind in_range) {left other : Rest} {rows others : List Row} {behind under : Rest} → left ≡ other → IsSheet kind left rows behind → IsSheet kind other others under → ◌≡◌ {A = List Row × Rest} (rows, behind) (others, under)
same_sheet kind known {left} {other} {rows} {others} {behind} {under} e h k =
    let read = read_as_written kind known.judged in
    same_ok _ _ (sym ((read left rows behind).1 h) ∙ (ap (sheet_rows kind) e ∙ (read other others under).1 k))

same_day : (d e : DayRow) → d ∷ [] ≡ e ∷ [] → d ≡ e
same_day d e h = cc

pub one_account_law : OneAccountLaw
one_account_law bytes account other s t =
    let a = spelled_rows_law bytes account s in
    let b = spelled_rows_law bytes other t in
    let l = a.1 in
    let m = b.1 in
    let days_same = same_sheet days days_known refl a.0.day_sheet b.0.day_sheet in
    let percentages_same = same_sheet percentages percentages_known (ap (λ p. p.1) days_same) a.0.percentage_sheet b.0.percentage_sheet in
    let points_same = same_sheet points points_known (ap (λ p. p.1) percentages_same) a.0.point_sheet b.0.point_sheet in
    let prices_same = same_sheet prices prices_known (ap (λ p. p.1) points_same) a.0.price_sheet b.0.price_sheet in
    let lines_same = same_sheet positions positions_known (ap (λ p. p.1) prices_same) a.0.position_sheet b.0.position_sheet in
    let day = same_day a.0.day b.0.day (ap (λ p. p.0) days_same) in
    let curve = ap (λ p. records_by point_rank p.0) points_same in
    let today = l.today ∙ (ap (λ (d : DayRow). d.today) day ∙ sym m.today) in
    let next = l.next ∙ (ap (λ (d : DayRow). d.next) day ∙ sym m.next) in
    let rule = l.rule ∙ (ap (λ (d : DayRow). netting_rule d.mode) day ∙ sym m.rule) in
    let ranked = l.percentages_are ∙ (ap (λ p. records_by percentage_rank p.0) percentages_same ∙ sym m.percentages_are) in
    let reach = l.reach ∙ (ap reach_of curve ∙ sym m.reach) in
    let rate = l.rate ∙ (ap₂ (λ (d : DayRow) ps. rate_by_shape d.curve ps) day curve ∙ sym m.rate) in
    let priced = l.prices_are ∙ (ap (λ p. records_by price_rank p.0) prices_same ∙ sym m.prices_are) in
    let standing = l.standing ∙ (ap (λ p. records_by line_rank p.0) lines_same ∙ sym m.standing) in
    λ i. record { setting = record { today = today i; next = next i; prices = priced i; percentages = ranked i; reach = reach i; rate = rate i; charged = rule i }; standing = standing i }
