-- Five sheets whose rows are right are loaded.
use Rattle.std.proofs.Common.{◌≡◌, ℕ, ◌+◌, ◌≤◌, ◌<◌, Bool, true, false, cond, List, [], ◌∷◌, length, Option, Some, None, Ok, Err, sym, refl, ap, ◌∙◌, subst, arith}
use Rattle.std.proofs.lemmas.Bool.{and_parts, and_from, lt-ltb, le-ltb}
use Rattle.std.specs.List.{AllByRecursion as All}
use Rattle.quantities.specs.Ranges.{most_titles}
use Rattle.quantities.specs.declared.isin.Isin.{Isin}
use Rattle.register.specs.Keys.{has_rank, inserted_by}
use Rattle.register.specs.Changes.{put}
use Rattle.register.specs.Contents.{Table}
use Rattle.curve.specs.Points.{point_rank}
use Rattle.curve.specs.declared.point.Point.{Point}
use Rattle.market.specs.Records.{price_rank, percentage_rank}
use Rattle.market.specs.Days.{is_next_day, day_answer}
use Rattle.market.specs.Contents.{Quotes}
use Rattle.account.proofs.Sorted.{inserted_long}
use Rattle.account.specs.declared.line.Line.{Line}
use Rattle.account.specs.Lines.{date, block_name, is_in_block}
use Rattle.account.specs.declared.block_name.BlockName.{BlockName as Block}
use Rattle.account.specs.Calls.{accepted, line_rank}
use Rattle.account.specs.Answers.{is_well_formed, is_well_dated, titles_of, titles_with, enter_answer}
use Rattle.account.proofs.Terms.{same_isin_decides, same_kind_itself}
use Rattle.book.proofs.ValidLines.{titles_first, titles_inserted}
use Rattle.sheet.specs.Sheets.{Rest}
use Rattle.sheet.specs.Kinds.{SheetKind}
use Rattle.sheet.specs.Written.{IsSheet}
use Rattle.sheet.proofs.Written.{read_as_written}
use Rattle.rows.specs.Percentages.{percentages}
use Rattle.rows.specs.Points.{points}
use Rattle.rows.specs.Prices.{prices}
use Rattle.rows.specs.Forms.{is_date}
use Rattle.rows.specs.Positions.{positions, line_in_range}
use Rattle.rows.specs.declared.day.DayRow.{DayRow}
use Rattle.rows.specs.Days.{days, day_in_range}
use Rattle.run.specs.Accepted.{NoneTurnedAway, account_of_rows}
use Rattle.account.specs.Checks.{IsInItsDays}
use Rattle.run.specs.Kept.{kept_table, keep_percentage, keep_price, keep_point, kept_day, keep_day, DayLines, kept_line, keep_line}
use Rattle.run.specs.Laws.{records_with, records_by, DeliveredRows}
use Rattle.run.specs.Runs.{and_then, input, quotes_of_day, no_points, no_lines, Account, account_of_day, nothing_left, whole_account, one_day, account_of_sheets}
use Rattle.run.specs.Refusals.{Outcome, refusal_of_sheet}
use Rattle.run.specs.KeptSheets.{KeptSheet, Keeping, kept_sheet}
use Rattle.run.proofs.RecordsBy.{Distinct, AreNew, new_beside, new_to_none}
use Rattle.run.proofs.Tests.{next_passes, date_passes, nothing_passes}
use Rattle.run.proofs.Keys.{tranches_ranked, terms_ranked, isins_ranked, references_ranked, once_by_rank}
use Rattle.run.proofs.RowKinds.{days_known, percentages_known, points_known, prices_known, positions_known, percentages_kept, prices_kept, points_kept}
use Rattle.run.proofs.Loaded.{with_prices, with_points, with_percentages, with_day, with_days, lines_kept}
use Rattle.run.proofs.Sheets.{KeptAll, EachIn, Ranged, sheet_read}
use Rattle.run.proofs.ToTheEnd.{ok_same, sheet_from, rows_ranged}

-- ---- records whose keys are their own are put in one after another
module _ {X S : Type 0} (keeping : Keeping X S) (rank : X → ℕ) (held : S → List X) (room : S → ℕ) where
  -- a record whose key is new is taken where there is room
  abbrev pub Takes : Type 0
  Takes =
      (s : S) (x : X) → has_rank rank (rank x) (held s) ≡ false → length (held s) < room s →
      (u : S) × ((held u ≡ inserted_by rank x (held s)) × ((room u ≡ room s) × (keeping s x ≡ Ok u)))

  pub all_taken : Takes → (s : S) (xs : List X) → Distinct rank xs → AreNew rank (held s) xs → length (held s) + length xs ≤ room s → (t : S) × KeptAll keeping s xs t
  all_taken takes s [] d n l = (s, refl)
  all_taken takes s (x ∷ xs) d n l =
      let one = takes s x n.0 (omega arith) in
      let u = one.0 in
      let held_is = one.1.0 in
      let same_room = one.1.1.0 in
      let longer = ap length held_is ∙ inserted_long rank x (held s) in
      let new = subst (λ ys. AreNew rank ys xs) (sym held_is) (new_beside rank x (held s) xs d.0 n.1) in
      let rest = all_taken takes u xs d.1 new (omega (arith, longer, same_room)) in
      (rest.0, (u, (one.1.1.1, rest.1)))

  -- from nothing held
  pub all_taken_first : Takes → (s : S) (xs : List X) → held s ≡ [] → Distinct rank xs → length xs ≤ room s → (t : S) × KeptAll keeping s xs t
  all_taken_first takes s xs none d l =
      let empty = ap length none in
      all_taken takes s xs d (subst (λ ys. AreNew rank ys xs) (sym none) (new_to_none rank xs)) (omega (arith, empty, l))

-- a record whose key is new is put in where a place is free
new_put : {X S : Type 0} (rank : X → ℕ) (keep : List X → S) (free : Bool) (x : X) (before : List X) → has_rank rank (rank x) before ≡ false → free ≡ true →
    kept_table keep (put rank free x before) ≡ Ok (keep (inserted_by rank x before))
new_put rank keep free x before h f = rw (h, f) refl

prices_taken : Takes keep_price price_rank (λ q. q.prices) (λ q. q.room)
prices_taken q p h l = (record q { prices = inserted_by price_rank p q.prices }, (refl, (refl, new_put price_rank (λ ps. record q { prices = ps }) _ p q.prices h (lt-ltb _ _ l))))

percentages_taken : (room : ℕ) → Takes keep_percentage percentage_rank (λ q. q.percentages) (λ q. room)
percentages_taken room q p h l = (record q { percentages = inserted_by percentage_rank p q.percentages }, (refl, (refl, new_put percentage_rank (λ ps. record q { percentages = ps }) true p q.percentages h refl)))

points_taken : Takes keep_point point_rank (λ h. h.records) (λ h. h.room)
points_taken q p h l = (record q { records = inserted_by point_rank p q.records }, (refl, (refl, new_put point_rank (λ ps. record q { records = ps }) _ p q.records h (lt-ltb _ _ l))))

-- ---- lines are entered one after another
own : (l : Line) → is_in_block l.isin (block_name l.block) l ≡ true
own l = and_from _ _ ((same_isin_decides l.isin l.isin).1 refl) (same_kind_itself (block_name l.block))

-- the titles of an ISIN and block, of lines that stand and of lines that come, are within the limit
abbrev Room : List Line → List Line → Type 0
Room standing ls = (i : Isin) (k : Block) → titles_of i k standing + titles_of i k ls ≤ most_titles

one_entered : (h : DayLines) (l : Line) → line_in_range l ≡ true → has_rank line_rank l.reference h.standing ≡ false → is_well_dated h.today l.block ≡ true → titles_with l h.standing ≤ most_titles → length h.standing < h.room →
    keep_line h l ≡ Ok (record h { standing = inserted_by line_rank l h.standing })
one_entered h l i n d t r =
    let f : is_well_formed l ≡ true = (and_parts (is_well_formed l) (is_date (date l.block)) i).0 in
    let answer : enter_answer h.today h.room h.standing l ≡ accepted = rw (f, n, d, le-ltb most_titles (titles_with l h.standing) t, lt-ltb (length h.standing) h.room r) refl in
    ap (kept_line h l) answer

lines_taken : (h : DayLines) (ls : List Line) → EachIn line_in_range ls → Distinct line_rank ls → AreNew line_rank h.standing ls → All (λ l. IsInItsDays h.today l.block) ls → Room h.standing ls → length h.standing + length ls ≤ h.room →
    (t : DayLines) × KeptAll keep_line h ls t
lines_taken h [] i d n t m r = (h, refl)
lines_taken h (l ∷ ls) i d n t m r =
    let here = titles_first l.isin (block_name l.block) l ls in
    let all = m l.isin (block_name l.block) in
    let mine : cond (is_in_block l.isin (block_name l.block) l) l.titles 0 ≡ l.titles = rw (own l) refl in
    let u : DayLines = record h { standing = inserted_by line_rank l h.standing } in
    let longer = inserted_long line_rank l h.standing in
    let rest = lines_taken u ls i.1 d.1 (new_beside line_rank l h.standing ls d.0 n.1) t.1
    (λ j k. let a = titles_inserted j k l h.standing in let b = titles_first j k l ls in let c = m j k in omega (arith, a, b, c)) (omega (arith, longer)) in
    (rest.0, (u, (one_entered h l i.0 n.0 (date_passes h.today l.block t.0) (omega (arith, here, all, mine)) (omega arith), rest.1)))

-- ---- the five sheets
-- a sheet as it is written, whose rows are kept
written : {Row S : Type 0} (kind : SheetKind Row) {in_range : Row → Bool} (known : Ranged kind in_range) (keeping : Keeping Row S) (left : Rest) (s t : S) (rows : List Row) (behind : Rest) → IsSheet kind left rows behind → KeptAll keeping s rows t →
    (n : ℕ) × (kept_sheet kind keeping s left ≡ Ok (record { kept = t; rows = n; left = behind }))
written kind known keeping left s t rows behind w k = sheet_from kind keeping left s t rows behind ((read_as_written kind known.judged left rows behind).1 w) k

pub then_from : {X Y : Type 0} (a : Outcome X) (f : X → Outcome Y) (x : X) (r : Outcome Y) → a ≡ Ok x → f x ≡ r → and_then a f ≡ r
then_from a f x r e q = ap (λ b. and_then b f) e ∙ q

day_taken : (d : DayRow) → is_next_day d.today d.next ≡ true → keep_day None d ≡ Ok (Some d)
day_taken d e = let answer : day_answer d.today d.next ≡ Ok (d.today, d.next) = rw e refl in ap (kept_day d) answer

-- a sheet of one row had one row
one_row : (bytes : List ℕ) (d : DayRow) (behind : Rest) (n : ℕ) → IsSheet days (input bytes) (d ∷ []) behind →
    kept_sheet days keep_day None (input bytes) ≡ Ok (record { kept = Some d; rows = n; left = behind }) → n ≡ 1
one_row bytes d behind n e k =
    let r = sheet_read days day_in_range days_known keep_day None (input bytes) (record { kept = Some d; rows = n; left = behind }) k in
    let same : r.0 ≡ d ∷ [] = ap (λ (p : List DayRow × Rest). p.0) (ok_same _ _ (sym r.1.read ∙ (read_as_written days days_known.judged (input bytes) (d ∷ []) behind).1 e)) in
    r.1.many ∙ ap length same

-- by the one row of its sheet
the_day : (d : DayRow) (n : ℕ) (left : Rest) → n ≡ 1 → one_day (record { kept = Some d; rows = n; left = left }) ≡ Ok d
the_day d n left e = rw e refl

-- no price or percentage stands twice
pub ranks_once : {bytes : List ℕ} (rows : DeliveredRows bytes) → NoneTurnedAway rows → Distinct price_rank rows.price_rows × Distinct percentage_rank rows.percentage_rows
ranks_once rows right = (
  once_by_rank (λ p. p.isin) price_rank isins_ranked rows.price_rows right.isins,
  once_by_rank (λ p. p.tranche) percentage_rank tranches_ranked rows.percentage_rows right.tranches,
)

-- the lines are within their ranges, and no reference stands twice
pub lines_ranged : {bytes : List ℕ} (rows : DeliveredRows bytes) → EachIn line_in_range rows.lines
lines_ranged rows = rows_ranged positions line_in_range positions_known rows.behind_prices rows.lines rows.behind_lines ((read_as_written positions positions_known.judged rows.behind_prices rows.lines rows.behind_lines).1 rows.position_sheet)

pub references_once : {bytes : List ℕ} (rows : DeliveredRows bytes) → NoneTurnedAway rows → Distinct line_rank rows.lines
references_once rows right = once_by_rank (λ l. l.reference) line_rank references_ranked rows.lines right.references

module _ (bytes : List ℕ) (rows : DeliveredRows bytes) (right : NoneTurnedAway rows) where
  with_all_percentages : (q : Quotes) × KeptAll keep_percentage (quotes_of_day rows.day) rows.percentage_rows q
  with_all_percentages =
      all_taken_first keep_percentage percentage_rank (λ q. q.percentages) (λ q. length rows.percentage_rows) (percentages_taken (length rows.percentage_rows)) (quotes_of_day rows.day) rows.percentage_rows refl (ranks_once rows right).1 (omega arith)

  with_all_points : (h : Table Point) × KeptAll keep_point no_points rows.point_rows h
  with_all_points =
      let once = once_by_rank (λ p. p.term) point_rank terms_ranked rows.point_rows right.terms in
      all_taken_first keep_point point_rank (λ h. h.records) (λ h. h.room) points_taken no_points rows.point_rows refl once right.few_points

  -- the quotes of the day, with the percentages
  with_percentages_is : with_all_percentages.0 ≡ record (quotes_of_day rows.day) { percentages = records_by percentage_rank rows.percentage_rows }
  with_percentages_is = percentages_kept (quotes_of_day rows.day) with_all_percentages.0 rows.percentage_rows with_all_percentages.1

  with_all_prices : (q : Quotes) × KeptAll keep_price with_all_percentages.0 rows.price_rows q
  with_all_prices =
      let room : with_all_percentages.0.room ≡ 256 = ap (λ (q : Quotes). q.room) with_percentages_is in
      let few = right.few_prices in
      all_taken_first keep_price price_rank (λ q. q.prices) (λ q. q.room) prices_taken with_all_percentages.0 rows.price_rows (ap (λ (q : Quotes). q.prices) with_percentages_is) (ranks_once rows right).0 (omega (arith, room, few))

  with_all_lines : (h : DayLines) × KeptAll keep_line (no_lines rows.day) rows.lines h
  with_all_lines =
      lines_taken (no_lines rows.day) rows.lines (lines_ranged rows) (references_once rows right) (new_to_none line_rank rows.lines) right.dates (λ i k. let m = right.titles i k in omega arith) (omega (arith, right.few_lines))

  loaded_is : account_of_day rows.day with_all_prices.0 with_all_points.0.records with_all_lines.0.standing ≡ account_of_rows rows
  loaded_is =
      let prices : with_all_prices.0 ≡ record with_all_percentages.0 { prices = records_with price_rank with_all_percentages.0.prices rows.price_rows } = prices_kept with_all_percentages.0 with_all_prices.0 rows.price_rows with_all_prices.1 in
      let quotes = prices ∙ ap (λ (q : Quotes). record q { prices = records_with price_rank q.prices rows.price_rows }) with_percentages_is in
      let curve = ap (λ (h : Table Point). h.records) (points_kept no_points with_all_points.0 rows.point_rows with_all_points.1) in
      let stand = (lines_kept (account_of_rows rows).setting (no_lines rows.day) with_all_lines.0 rows.lines refl with_all_lines.1).1 in
      λ i. account_of_day rows.day (quotes i) (curve i) (stand i)

  pub loads : account_of_sheets bytes ≡ Ok (account_of_rows rows)
  loads =
      let d = rows.day in
      let next = next_passes d right.next in
      let day = written days days_known keep_day (input bytes) None (Some d) (d ∷ []) rows.behind_day rows.day_sheet (Some d, (day_taken d next, refl)) in
      let par = written percentages percentages_known keep_percentage rows.behind_day (quotes_of_day d) with_all_percentages.0 rows.percentage_rows rows.behind_percentages rows.percentage_sheet with_all_percentages.1 in
      let crv = written points points_known keep_point rows.behind_percentages no_points with_all_points.0 rows.point_rows rows.behind_points rows.point_sheet with_all_points.1 in
      let prc = written prices prices_known keep_price rows.behind_points with_all_percentages.0 with_all_prices.0 rows.price_rows rows.behind_prices rows.price_sheet with_all_prices.1 in
      let pos = written positions positions_known keep_line rows.behind_prices (no_lines d) with_all_lines.0 rows.lines rows.behind_lines rows.position_sheet with_all_lines.1 in
      let l = account_of_day d with_all_prices.0 with_all_points.0.records with_all_lines.0.standing in
      let behind : ◌≡◌ {A = Outcome Account} (cond (nothing_left rows.behind_lines) (Ok l) (Err (refusal_of_sheet 5 rows.behind_lines.line 0))) (Ok l) = rw (nothing_passes rows.behind_lines rows.nothing_behind) refl in
      let read : KeptSheet (Option DayRow) = record { kept = Some d; rows = day.0; left = rows.behind_day } in
      then_from _ with_days read (Ok l) day.1
      (then_from (one_day read) (with_day read) d (Ok l) (the_day d day.0 rows.behind_day (one_row bytes d rows.behind_day day.0 rows.day_sheet day.1))
      (then_from _ (with_percentages d) _ (Ok l) par.1
      (then_from _ (with_points d with_all_percentages.0) _ (Ok l) crv.1
      (then_from _ (with_prices d with_all_points.0.records) _ (Ok l) prc.1
      (then_from _ (whole_account d with_all_prices.0 with_all_points.0.records) _ (Ok l) pos.1 behind)))))
      ∙ ap Ok loaded_is
