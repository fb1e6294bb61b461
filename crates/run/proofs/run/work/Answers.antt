use Rattle.std.proofs.lemmas.Result.{err_from_is_err_and}
use Rattle.std.proofs.Common.{◌≡◌, true, false, Ok, Err, length, ap, sym, refl, ◌∙◌, subst}
use Rattle.quantities.specs.Refusals.{number}
use Rattle.quantities.specs.declared.refusal.Refusal.TheVariants.{Trailer}
use Rattle.book.specs.Books.{lines_of, room_for, today_of}
use Rattle.rows.specs.Positions.{positions}
use Rattle.run.specs.Days.{day_row}
use Rattle.run.specs.Kept.{keep_line, DayLines}
use Rattle.run.specs.Runs.{account_of_day, account_outcome, sheets_outcome, nothing_left, input, quotes_of_day, no_points, no_lines}
use Rattle.run.specs.Refusals.{PlacedRefusal, refusal_of_sheet, placed_refusal}
use Rattle.run.specs.KeptSheets.{KeptSheet, kept_sheet}
use Rattle.run.specs.Answers.{WritesText}
use Rattle.run.proofs.Begun.{same_left, same_quotes, same_held, same_lines}
use Rattle.run.proofs.Loads.{work_refused, work_trailed, work_stated}
use Rattle.run.proofs.run.work.Goals as goal
use Rattle.run.proofs.run.work.Goals.{After-keep_sheet-5}

-- what a book keeps before its first line
abbrev kept : After-keep_sheet-5 → DayLines
kept c = record { today = today_of c.new-book.result; room = room_for c.new-book.result; standing = lines_of c.new-book.result }

module _ (c : After-keep_sheet-5) where
  begun : c.new.result ≡ input c.args.sheets.now
  begun = same_left c.new.ensures.lines c.new.ensures.loose c.new.ensures.line

  unquoted : c.new-market.result ≡ quotes_of_day (day_row c.in_ok-day.day)
  unquoted = same_quotes c.new-market.ensures.today c.new-market.ensures.next c.new-market.ensures.unpriced c.new-market.ensures.unranked c.new-market.ensures.room

  unpointed : c.new-curve.result ≡ no_points
  unpointed = same_held c.new-curve.ensures.none c.new-curve.ensures.room

  empty : kept c ≡ no_lines (day_row c.in_ok-day.day)
  empty = same_lines (ap (λ q. q.today) c.new-book.ensures.market ∙ ap (λ f. f.0) (c.in_ok-left-3.ensures.frame ∙ c.in_ok-left.ensures.frame) ∙ c.new-market.ensures.today) c.new-book.ensures.room c.new-book.ensures.empty

  -- what follows the prices, by what the sheet of positions comes to
  refused : {e : PlacedRefusal} → kept_sheet positions keep_line (kept c) c.in_ok-left-3.field-0.left ≡ Err e → sheets_outcome c.args.sheets.now (length c.args.buffer.now) ≡ Err e
  refused = work_refused c.args.sheets.now begun c.in_ok-day_sheet.ensures.answer c.in_ok-day.ensures unquoted c.in_ok-left.ensures.answer unpointed c.in_ok-left-2.ensures.answer c.in_ok-left-3.ensures.answer empty (length c.args.buffer.now)

  trailed : {t : KeptSheet DayLines} → kept_sheet positions keep_line (kept c) c.in_ok-left-3.field-0.left ≡ Ok t → nothing_left t.left ≡ false → sheets_outcome c.args.sheets.now (length c.args.buffer.now) ≡ Err (refusal_of_sheet (number Trailer) t.left.line 0)
  trailed = work_trailed c.args.sheets.now begun c.in_ok-day_sheet.ensures.answer c.in_ok-day.ensures unquoted c.in_ok-left.ensures.answer unpointed c.in_ok-left-2.ensures.answer c.in_ok-left-3.ensures.answer empty (length c.args.buffer.now)

  stated : {t : KeptSheet DayLines} → kept_sheet positions keep_line (kept c) c.in_ok-left-3.field-0.left ≡ Ok t → nothing_left t.left ≡ true → sheets_outcome c.args.sheets.now (length c.args.buffer.now) ≡ account_outcome (length c.args.buffer.now) (account_of_day (day_row c.in_ok-day.day) c.keep_sheet-4.new.keeper c.keep_sheet-3.new.keeper.records t.kept.standing)
  stated = work_stated c.args.sheets.now begun c.in_ok-day_sheet.ensures.answer c.in_ok-day.ensures unquoted c.in_ok-left.ensures.answer unpointed c.in_ok-left-2.ensures.answer c.in_ok-left-3.ensures.answer empty (length c.args.buffer.now)

pub returns-in_err-left-4 : goal.returns-in_err-left-4
returns-in_err-left-4 c =
    let shared = (goal.at.returns-in_err-left-4 c).After-keep_sheet-5 in
    let p = err_from_is_err_and c.from_residual-in_err-left-4.result c.from_residual-in_err-left-4.ensures.1 in
    rw (refused shared c.in_err-left-4.ensures.answer, p.1) (ap placed_refusal p.2, refl)

pub returns-then-not-is_empty : goal.returns-then-not-is_empty
returns-then-not-is_empty c =
    let shared = (goal.at.returns-then-not-is_empty c).After-keep_sheet-5 in
    rw (trailed shared c.in_ok-left-4.ensures.answer (sym c.is_empty.ensures ∙ c.if-not-is_empty.true)) (c.of_sheet.ensures ∙ ap (λ n. refusal_of_sheet (number Trailer) n 0) c.line.ensures.is, refl)

pub returns : goal.returns
returns c =
    let shared = (goal.at.returns c).After-keep_sheet-5 in
    let buffer = c.args.buffer.now in
    let market = ap (λ f. f.0) c.in_ok-left-4.ensures.frame ∙ c.new-book.ensures.market in
    rw (stated shared c.in_ok-left-4.ensures.answer (sym c.is_empty.ensures ∙ c.if-not-is_empty.false))
    (subst (λ q. WritesText (account_outcome (length buffer) (account_of_day (day_row c.in_ok-day.day) q c.keep_sheet-3.new.keeper.records (lines_of c.keep_sheet-5.new.keeper))) c.state.result buffer c.state.new.buffer) market c.state.ensures)
