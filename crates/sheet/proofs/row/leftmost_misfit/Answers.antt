use Rattle.std.proofs.Common.{◌<◌, true, length, sym, ◌∙◌, arith}
use Rattle.sheet.specs.Kinds.{cell_at}
use Rattle.sheet.proofs.Leftmost.{fits_here, first_misfit, right_of, left_of}
use Rattle.sheet.proofs.row.leftmost_misfit.Goals as goal
use Rattle.sheet.proofs.row.leftmost_misfit.Goals.{then-fits, else-fits+in-Some, else-fits+in_default-2, in_default-2-via-in-Some+else-left-place, in_default-2-via-in_default-2}

pub loop-column-preserved : goal.loop-column-preserved
loop-column-preserved g c =
    let fits = g.K.RowKind.kind.fits (cell_at c.args.cells.now) in
    let places = c.args.places.now in
    let i = c.loop-column.column in
    let m = c.loop-column-test.true in
    let l : i < length fits = omega (arith, g.met.K.RowKind.judged (cell_at c.args.cells.now), c.requires) in
    let here = c.fits.ensures in
    let before = c.loop-column.invariant in
    elim c.if-fits.branch [
      | then-fits w ↦ rw w.leftmost-is (fits_here fits places i true 0 _ l m c.loop-column.leftmost (sym w.if-fits.true ∙ here) before)
      | else-fits+in-Some w ↦ rw w.leftmost-is (right_of fits places i true 0 _ l m _ w.if-fits.ensures w.if-left-place.true (rw w.in-Some.is at before))
      | else-fits+in_default-2 w ↦ rw w.leftmost-is elim w.in_default-2.branch [ in_default-2-via-in-Some+else-left-place w' ↦ left_of fits places i true 0 _ l m _ w.if-fits.ensures (omega (arith, w'.if-left-place.false)) (rw w'.in-Some.is at before) | in_default-2-via-in_default-2 w' ↦ first_misfit fits places i true 0 _ l m w.if-fits.ensures (let e = w'.in_default-2.is in rw e at before) ]
    ]
