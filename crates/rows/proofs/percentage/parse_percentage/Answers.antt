use Rattle.std.proofs.Common.{sym}
use Rattle.rows.proofs.Quantities.{percentage_read}
use Rattle.rows.proofs.percentage.parse_percentage.Goals as goal

pub returns : goal.returns
returns c =
    let found = rw c.from.ensures at c.in_ok-basis_points.ensures.is in
    sym (percentage_read c.args.cell.now _ (sym found))
