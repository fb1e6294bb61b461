-- A run, once the sheets above the positions are read.
use Rattle.std.proofs.Common.{◌≡◌, ℕ, false, true, List, Option, None, Ok, Err, sym, refl, ap, ◌∙◌}
use Rattle.quantities.specs.Refusals.{number}
use Rattle.quantities.specs.declared.refusal.Refusal.TheVariants.{Trailer}
use Rattle.curve.specs.declared.point.Point.{Point}
use Rattle.register.specs.Contents.{Table}
use Rattle.market.specs.Contents.{Quotes}
use Rattle.rows.specs.declared.day.DayRow.{DayRow}
use Rattle.rows.specs.Days.{days}
use Rattle.rows.specs.Percentages.{percentages}
use Rattle.rows.specs.Points.{points}
use Rattle.rows.specs.Prices.{prices}
use Rattle.rows.specs.Positions.{positions}
use Rattle.sheet.specs.Sheets.{Rest}
use Rattle.run.specs.Refusals.{Outcome, PlacedRefusal, refusal_of_sheet}
use Rattle.run.specs.KeptSheets.{KeptSheet, kept_sheet}
use Rattle.run.specs.Kept.{keep_day, keep_percentage, keep_point, keep_price, DayLines, keep_line}
use Rattle.run.proofs.Loaded.{with_day, with_days, with_percentages, with_points, with_prices}
use Rattle.run.specs.Runs.{and_then, input, one_day, quotes_of_day, no_points, no_lines, nothing_left, whole_account, account_of_sheets, account_of_day, account_outcome, sheets_outcome}

module _ (bytes : List ℕ) {i : Rest} {t : KeptSheet (Option DayRow)} {d : DayRow} {q : Quotes} {h : Table Point} {par prc : KeptSheet Quotes} {crv : KeptSheet (Table Point)} {k : DayLines}
    (begins : i ≡ input bytes) (day : kept_sheet days keep_day None i ≡ Ok t) (one : one_day t ≡ Ok d)
    (unquoted : q ≡ quotes_of_day d) (percented : kept_sheet percentages keep_percentage q t.left ≡ Ok par)
    (unpointed : h ≡ no_points) (curved : kept_sheet points keep_point h par.left ≡ Ok crv)
    (priced : kept_sheet prices keep_price par.kept crv.left ≡ Ok prc) (empty : k ≡ no_lines d) where
  loads : account_of_sheets bytes ≡ and_then (kept_sheet positions keep_line k prc.left) (whole_account d prc.kept crv.kept.records)
  loads =
      ap (λ o. and_then o with_days) (ap (kept_sheet days keep_day None) (sym begins) ∙ day)
      ∙ ap (λ o. and_then o (with_day t)) one
      ∙ ap (λ o. and_then o (with_percentages d)) (ap (λ x. kept_sheet percentages keep_percentage x t.left) (sym unquoted) ∙ percented)
      ∙ ap (λ o. and_then o (with_points d par.kept)) (ap (λ x. kept_sheet points keep_point x par.left) (sym unpointed) ∙ curved)
      ∙ ap (λ o. and_then o (with_prices d crv.kept.records)) priced
      ∙ ap (λ x. and_then (kept_sheet positions keep_line x prc.left) (whole_account d prc.kept crv.kept.records)) (sym empty)

  -- the account, by what the sheet of positions comes to
  loads_by : {o : Outcome (KeptSheet DayLines)} → kept_sheet positions keep_line k prc.left ≡ o → account_of_sheets bytes ≡ and_then o (whole_account d prc.kept crv.kept.records)
  loads_by e = loads ∙ ap (λ o. and_then o (whole_account d prc.kept crv.kept.records)) e

  pub work_refused : (buffer : ℕ) {e : PlacedRefusal} → kept_sheet positions keep_line k prc.left ≡ Err e → sheets_outcome bytes buffer ≡ Err e
  work_refused buffer e = ap (λ o. and_then o (account_outcome buffer)) (loads_by e)

  pub work_trailed : (buffer : ℕ) {pos : KeptSheet DayLines} → kept_sheet positions keep_line k prc.left ≡ Ok pos → nothing_left pos.left ≡ false → sheets_outcome bytes buffer ≡ Err (refusal_of_sheet (number Trailer) pos.left.line 0)
  work_trailed buffer {pos} e more =
      let refused : whole_account d prc.kept crv.kept.records pos ≡ Err (refusal_of_sheet (number Trailer) pos.left.line 0) = rw more refl in
      ap (λ o. and_then o (account_outcome buffer)) (loads_by e ∙ refused)

  pub work_stated : (buffer : ℕ) {pos : KeptSheet DayLines} → kept_sheet positions keep_line k prc.left ≡ Ok pos → nothing_left pos.left ≡ true → sheets_outcome bytes buffer ≡ account_outcome buffer (account_of_day d prc.kept crv.kept.records pos.kept.standing)
  work_stated buffer {pos} e none =
      let whole : whole_account d prc.kept crv.kept.records pos ≡ Ok (account_of_day d prc.kept crv.kept.records pos.kept.standing) = rw none refl in
      ap (λ o. and_then o (account_outcome buffer)) (loads_by e ∙ whole)
