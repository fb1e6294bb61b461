use Rattle.std.proofs.Common.{List, length, sym, ap, arith}
use Rattle.std.proofs.lemmas.List.{length-take-le}
use Rattle.account.specs.declared.row.Row.{Row}
use Rattle.account.specs.Rows.{statement_rows}
use Rattle.book.specs.Books.{lines_of}
use Rattle.run.specs.Days.{day_row}
use Rattle.run.specs.Runs.{setting_of_day}
use Rattle.run.proofs.RowCount.{rows_few}
use Rattle.run.proofs.Stated.{taken_rows, written_length}
use Rattle.run.proofs.state.stated_rows.Goals as goal

pub slice_bounds-result-end : goal.slice_bounds-result-end
slice_bounds-result-end c =
    let s = setting_of_day (day_row c.args.day.now) c.args.book.now.market.now c.args.points.now.records in
    let rows : List Row = statement_rows s (lines_of c.args.book.now) in
    let places = c.args.places.now in
    sym (length-take-le c.in_ok-given.given.rows c.margin_by_day.new.rows
    (omega (arith, c.in_ok-given.ensures.1, ap length c.in_ok-given.ensures.2, written_length 0 rows places, rows_few s (lines_of c.args.book.now), c.requires)))

pub returns : goal.returns
returns c =
    let s = setting_of_day (day_row c.args.day.now) c.args.book.now.market.now c.args.points.now.records in
    let rows : List Row = statement_rows s (lines_of c.args.book.now) in
    let places = c.args.places.now in
    let stated = c.in_ok-given.ensures in
    (sym stated.0, rw (stated.1, stated.2) (taken_rows rows places (omega (arith, rows_few s (lines_of c.args.book.now), c.requires))))
