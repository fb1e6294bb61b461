use Rattle.std.proofs.Common.{sym, ap, ◌∙◌}
use Rattle.sheet.specs.Kinds.{cell_at}
use Rattle.rows.specs.Points.{term_in, rate_in}
use Rattle.rows.proofs.Records.{point_is}
use Rattle.rows.proofs.point.PointRowsRowKind.read.Goals as goal

pub returns : goal.returns
returns c =
    let term = sym (c.in_ok-parse_term.ensures ∙ ap term_in c.cell.ensures) in
    let rate = sym (c.in_ok-parse_rate.ensures ∙ ap rate_in c.cell-2.ensures) in
    point_is (cell_at c.args.cells.now) _ term rate
