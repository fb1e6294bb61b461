use Rattle.std.proofs.Common.{◌≤◌, length, refl, sym, ◌∙◌, arith}
use Rattle.std.proofs.lemmas.Bool.{cond-true}
use Rattle.std.proofs.lemmas.Option.{cond_some}
use Rattle.sheet.specs.Kinds.{cell_at}
use Rattle.sheet.proofs.Leftmost.{all_fit, none_misfits}
use Rattle.sheet.proofs.row.made.Goals as goal

pub returns-in-Some : goal.returns-in-Some
returns-in-Some g c =
    let fits = g.K.RowKind.kind.fits (cell_at c.args.cells.now) in
    let read = cond_some _ _ _ (sym c.read.ensures ∙ c.in-Some.is) in
    rw (all_fit fits c.args.places.now read.0, read.1) refl

pub unreachable-requires : goal.unreachable-requires
unreachable-requires g c =
    let fits = g.K.RowKind.kind.fits (cell_at c.args.cells.now) in
    let l : length fits ≤ length c.args.places.now = omega (arith, g.met.K.RowKind.judged (cell_at c.args.cells.now), c.requires) in
    let all = none_misfits fits c.args.places.now l (sym c.leftmost_misfit.ensures ∙ c.in-None.is) in
    c.in_default.not-Some _ (c.read.ensures ∙ cond-true _ _ _ all)
