use Rattle.std.proofs.Common.{◌≡◌, drop}
use Rattle.sheet.specs.Kinds.{cell_at}
use Rattle.sheet.specs.Sheets.{leftmost}
use Rattle.sheet.proofs.Leftmost.{least}
use Rattle.sheet.proofs.row.leftmost_misfit.Given as goal

abbrev pub invariant-loop-column : goal.invariant-loop-column
invariant-loop-column g l =
    let fits = g.K.RowKind.kind.fits (cell_at l.cells) in
    least l.leftmost (leftmost (drop l.column fits) (drop l.column l.places)) ≡ leftmost fits l.places
