-- The steps by which five sheets are loaded, and the rows that they say.
use Rattle.std.proofs.Common.{◌≡◌, ℕ, ◌-◌, Bool, true, false, cond, eqb, List, [], ◌∷◌, length, Option, Some, None, Ok, Err, sym, refl, ap, ◌∙◌, subst, arith}
use Rattle.std.proofs.lemmas.Bool.{eqb-true}
use Rattle.register.specs.Keys.{inserted_by}
use Rattle.register.specs.Contents.{Table}
use Rattle.curve.specs.declared.point.Point.{Point}
use Rattle.market.specs.Contents.{Quotes}
use Rattle.market.specs.declared.percentage.Percentage.{Percentage}
use Rattle.market.specs.declared.price.Price.{Price}
use Rattle.market.specs.Days.{is_next_day}
use Rattle.market.specs.Records.{price_rank, percentage_rank}
use Rattle.account.specs.declared.line.Line.{Line}
use Rattle.account.specs.Calls.{accepted, line_rank, Event}
use Rattle.account.specs.declared.call.Call.TheVariants.{Enter}
use Rattle.account.specs.Settings.{Setting}
use Rattle.account.specs.Answers.{enter_answer, EachDue}
use Rattle.rows.specs.declared.day.DayRow.{DayRow}
use Rattle.rows.specs.Days.{days, day_in_range}
use Rattle.rows.specs.Percentages.{percentages, percentage_in_range}
use Rattle.rows.specs.Points.{points, point_in_range}
use Rattle.rows.specs.Prices.{prices, price_in_range}
use Rattle.rows.specs.Positions.{positions, line_in_range}
use Rattle.sheet.proofs.Written.{read_as_written}
use Rattle.run.specs.Refusals.{PlacedRefusal, Outcome, refusal_of_sheet}
use Rattle.run.specs.KeptSheets.{KeptSheet, kept_sheet}
use Rattle.run.specs.Kept.{keep_day, keep_percentage, keep_point, keep_price, DayLines, keep_line}
use Rattle.curve.specs.Points.{reach_of}
use Rattle.run.specs.Runs.{rate_by_shape, and_then, input, quotes_of_day, no_points, no_lines, Account, setting_of_day, nothing_left, whole_account, day_among, one_day, account_of_sheets}
use Rattle.run.specs.Laws.{records_with, records_by, DeliveredRows, LoadedFrom, RowsLaw}
use Rattle.run.proofs.Tests.{nothing_stands}
use Rattle.run.proofs.Sheets.{Read, KeptAll, sheet_read}
use Rattle.run.proofs.RowKinds.{days_known, percentages_known, points_known, prices_known, positions_known, day_kept, prices_kept, percentages_kept, points_kept, line_kept}

-- ---- what each sheet is followed by
abbrev pub with_prices : DayRow → List Point → KeptSheet Quotes → Outcome Account
with_prices d ps prc = and_then (kept_sheet positions keep_line (no_lines d) prc.left) (whole_account d prc.kept ps)

abbrev pub with_points : DayRow → Quotes → KeptSheet (Table Point) → Outcome Account
with_points d q crv = and_then (kept_sheet prices keep_price q crv.left) (with_prices d crv.kept.records)

abbrev pub with_percentages : DayRow → KeptSheet Quotes → Outcome Account
with_percentages d par = and_then (kept_sheet points keep_point no_points par.left) (with_points d par.kept)

abbrev pub with_day : KeptSheet (Option DayRow) → DayRow → Outcome Account
with_day day d = and_then (kept_sheet percentages keep_percentage (quotes_of_day d) day.left) (with_percentages d)

abbrev pub with_days : KeptSheet (Option DayRow) → Outcome Account
with_days day = and_then (one_day day) (with_day day)

-- ---- the steps of a loading that succeeds
pub then_ok : {X Y : Type 0} (a : Outcome X) (f : X → Outcome Y) (y : Y) → and_then a f ≡ Ok y → (x : X) × ((a ≡ Ok x) × (f x ≡ Ok y))
then_ok (Ok x) f y e = (x, (refl, e))
then_ok (Err d) f y e = cc

only_then : {X : Type 0} (t : Bool) (x y : X) (e : PlacedRefusal) → ◌≡◌ {A = Outcome X} (cond t (Ok x) (Err e)) (Ok y) → (t ≡ true) × (x ≡ y)
only_then true x y e h = (refl, cc)
only_then false x y e h = cc

pub record Steps (bytes : List ℕ) (l : Account) : Type 0 where
  pub day : KeptSheet (Option DayRow)
  pub day_is : kept_sheet days keep_day None (input bytes) ≡ Ok day
  pub today : DayRow
  pub today_is : one_day day ≡ Ok today
  pub par : KeptSheet Quotes
  pub par_is : kept_sheet percentages keep_percentage (quotes_of_day today) day.left ≡ Ok par
  pub crv : KeptSheet (Table Point)
  pub crv_is : kept_sheet points keep_point no_points par.left ≡ Ok crv
  pub prc : KeptSheet Quotes
  pub prc_is : kept_sheet prices keep_price par.kept crv.left ≡ Ok prc
  pub pos : KeptSheet DayLines
  pub pos_is : kept_sheet positions keep_line (no_lines today) prc.left ≡ Ok pos
  pub nothing_behind : nothing_left pos.left ≡ true
  pub loads : record { setting = setting_of_day today prc.kept crv.kept.records; standing = pos.kept.standing } ≡ l

pub steps : (bytes : List ℕ) (l : Account) → account_of_sheets bytes ≡ Ok l → Steps bytes l
steps bytes l e =
    let a = then_ok (kept_sheet days keep_day None (input bytes)) with_days l e in
    let b = then_ok (one_day a.0) (with_day a.0) l a.1.1 in
    let c = then_ok (kept_sheet percentages keep_percentage (quotes_of_day b.0) a.0.left) (with_percentages b.0) l b.1.1 in
    let d = then_ok (kept_sheet points keep_point no_points c.0.left) (with_points b.0 c.0.kept) l c.1.1 in
    let f = then_ok (kept_sheet prices keep_price c.0.kept d.0.left) (with_prices b.0 d.0.kept.records) l d.1.1 in
    let g = then_ok (kept_sheet positions keep_line (no_lines b.0) f.0.left) (whole_account b.0 f.0.kept d.0.kept.records) l f.1.1 in
    let h = only_then (nothing_left g.0.left) (record { setting = setting_of_day b.0 f.0.kept d.0.kept.records; standing = g.0.kept.standing }) l (refusal_of_sheet 5 g.0.left.line 0) g.1.1 in
    record {
      day = a.0;
      day_is = a.1.0;
      today = b.0;
      today_is = b.1.0;
      par = c.0;
      par_is = c.1.0;
      crv = d.0;
      crv_is = d.1.0;
      prc = f.0;
      prc_is = f.1.0;
      pos = g.0;
      pos_is = g.1.0;
      nothing_behind = h.0;
      loads = h.1;
    }

-- ---- the day's sheet has just the row of the day
one : (t : KeptSheet (Option DayRow)) (k : Option DayRow) (d : DayRow) → t.kept ≡ k → day_among t k ≡ Ok d → (t.kept ≡ Some d) × (t.rows ≡ 1)
one t None d q e = cc
one t (Some k) d q e =
    let p = only_then (eqb t.rows 1) k d (refusal_of_sheet 5 (t.left.line - 1) 0) e in
    (q ∙ ap Some p.1, eqb-true t.rows 1 p.0)

just : (rows : List DayRow) (d : DayRow) → length rows ≡ 1 → KeptAll keep_day None rows (Some d) → rows ≡ d ∷ []
just [] d l k = absurd (omega arith)
just (r ∷ []) d l k =
    let s : Some r ≡ Some d = sym (day_kept None r k.0 k.1.0).1 ∙ k.1.1 in
    let same : r ≡ d = cc in
    ap (λ x. x ∷ []) same
just (r ∷ (q ∷ rs)) d l k = absurd (omega arith)

pub day_sheet : (day : KeptSheet (Option DayRow)) (bytes : List ℕ) (d : DayRow) (rows : List DayRow) → Read days day_in_range keep_day None (input bytes) day rows → one_day day ≡ Ok d → rows ≡ d ∷ []
day_sheet day bytes d rows r e =
    let o = one day day.kept d refl e in
    just rows d (sym r.many ∙ o.1) (let k = r.kept in rw o.0 at k)

-- ---- lines that are kept are entered in a book, one after another
abbrev pub entered : List Line → List Event
entered [] = []
entered (l ∷ ls) = (Enter l, accepted) ∷ entered ls

pub lines_kept : (s : Setting) (h t : DayLines) (ls : List Line) → s.today ≡ h.today → KeptAll keep_line h ls t →
    EachDue s h.room h.standing (entered ls) × (t.standing ≡ records_with line_rank h.standing ls)
lines_kept s h t [] e k = (tt, ap (λ (u : DayLines). u.standing) (sym k))
lines_kept s h t (l ∷ ls) e k =
    let p = line_kept h l k.0 k.1.0 in
    let rest = lines_kept s (record h { standing = inserted_by line_rank l h.standing }) t ls e (let m = k.1.1 in rw p.put_in at m) in
    ((p.accepts ∙ ap (λ d. enter_answer d h.room h.standing l) (sym e), rest.0), rest.1)

-- ---- what is loaded, by the rows
module _ (bytes : List ℕ) (l : Account) (s : Steps bytes l) where
  abbrev pub worked : Setting
  worked = setting_of_day s.today s.prc.kept s.crv.kept.records

  pub percentages_of : (rows : List Percentage) × Read percentages percentage_in_range keep_percentage (quotes_of_day s.today) s.day.left s.par rows
  percentages_of = sheet_read percentages percentage_in_range percentages_known keep_percentage (quotes_of_day s.today) s.day.left s.par s.par_is

  pub points_of : (rows : List Point) × Read points point_in_range keep_point no_points s.par.left s.crv rows
  points_of = sheet_read points point_in_range points_known keep_point no_points s.par.left s.crv s.crv_is

  pub prices_of : (rows : List Price) × Read prices price_in_range keep_price s.par.kept s.crv.left s.prc rows
  prices_of = sheet_read prices price_in_range prices_known keep_price s.par.kept s.crv.left s.prc s.prc_is

  pub lines_of : (rows : List Line) × Read positions line_in_range keep_line (no_lines s.today) s.prc.left s.pos rows
  lines_of = sheet_read positions line_in_range positions_known keep_line (no_lines s.today) s.prc.left s.pos s.pos_is

  pub same_today : worked.today ≡ s.today.today
  same_today =
      let p = percentages_kept (quotes_of_day s.today) s.par.kept percentages_of.0 percentages_of.1.kept in
      let q = prices_kept s.par.kept s.prc.kept prices_of.0 prices_of.1.kept in
      ap (λ (x : Quotes). x.today) q ∙ ap (λ (x : Quotes). x.today) p

  pub percentages_are : s.par.kept ≡ record (quotes_of_day s.today) { percentages = records_by percentage_rank percentages_of.0 }
  percentages_are = percentages_kept (quotes_of_day s.today) s.par.kept percentages_of.0 percentages_of.1.kept

  pub day_of : (rows : List DayRow) × Read days day_in_range keep_day None (input bytes) s.day rows
  day_of = sheet_read days day_in_range days_known keep_day None (input bytes) s.day s.day_is

  pub day_is : day_of.0 ≡ s.today ∷ []
  day_is = day_sheet s.day bytes s.today day_of.0 day_of.1 s.today_is

  pub next_day : is_next_day s.today.today s.today.next ≡ true
  next_day = let k : KeptAll keep_day None (s.today ∷ []) s.day.kept = subst (λ rs. KeptAll keep_day None rs s.day.kept) day_is day_of.1.kept in (day_kept None s.today k.0 k.1.0).0

  abbrev pub rows_read : DeliveredRows bytes
  rows_read =
      record {
        day = s.today;
        behind_day = s.day.left;
        day_sheet = (read_as_written days days_known.judged (input bytes) (s.today ∷ []) s.day.left).0 (day_of.1.read ∙ ap (λ rs. Ok (rs, s.day.left)) day_is);
        percentage_rows = percentages_of.0;
        behind_percentages = s.par.left;
        percentage_sheet = (read_as_written percentages percentages_known.judged s.day.left percentages_of.0 s.par.left).0 percentages_of.1.read;
        point_rows = points_of.0;
        behind_points = s.crv.left;
        point_sheet = (read_as_written points points_known.judged s.par.left points_of.0 s.crv.left).0 points_of.1.read;
        price_rows = prices_of.0;
        behind_prices = s.prc.left;
        price_sheet = (read_as_written prices prices_known.judged s.crv.left prices_of.0 s.prc.left).0 prices_of.1.read;
        lines = lines_of.0;
        behind_lines = s.pos.left;
        position_sheet = (read_as_written positions positions_known.judged s.prc.left lines_of.0 s.pos.left).0 lines_of.1.read;
        nothing_behind = nothing_stands s.pos.left s.nothing_behind;
      }

  pub loaded_from : LoadedFrom rows_read l
  loaded_from =
      let points_are = ap (λ (x : Table Point). x.records) (points_kept no_points s.crv.kept points_of.0 points_of.1.kept) in
      let q = prices_kept s.par.kept s.prc.kept prices_of.0 prices_of.1.kept in
      subst (LoadedFrom rows_read) s.loads (record {
        today = same_today;
        next = ap (λ (x : Quotes). x.next) q ∙ ap (λ (x : Quotes). x.next) percentages_are;
        rule = refl;
        percentages_are = ap (λ (x : Quotes). x.percentages) q ∙ ap (λ (x : Quotes). x.percentages) percentages_are;
        reach = ap reach_of points_are;
        rate = ap (rate_by_shape s.today.curve) points_are;
        prices_are = ap (λ (x : Quotes). x.prices) q ∙ ap (λ (x : Quotes). records_with price_rank x.prices prices_of.0) percentages_are;
        standing = (lines_kept worked (no_lines s.today) s.pos.kept lines_of.0 same_today lines_of.1.kept).1;
      })

pub rows_law : RowsLaw
rows_law bytes l e = let s = steps bytes l e in (rows_read bytes l s, loaded_from bytes l s)
