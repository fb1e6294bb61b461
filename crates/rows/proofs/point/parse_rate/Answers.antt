use Rattle.std.proofs.Common.{◌≡◌, sym, ap, ◌∙◌, arith, w16, w32, to_z, of_z, Some}
use Rattle.std.proofs.lemmas.Int.{ints}
use Rattle.rows.proofs.Quantities.{rate_read}
use Rattle.rows.proofs.point.parse_rate.Goals as goal

pub returns : goal.returns
returns c =
    let z = c.in_ok-basis_points.basis_points in
    let found = rw (c.from.ensures, c.from-2.ensures) at c.in_ok-basis_points.ensures.is in
    let fits = rw (c.from.ensures, c.from-2.ensures) at c.in_ok-basis_points.ensures.within in
    let low = fits.0 in
    let high = fits.1 in
    let same : z ≡ to_z w16 (of_z w16 (to_z w32 (of_z w32 z))) = omega (arith, ints) in
    sym (rate_read c.args.cell.now _ (sym found ∙ ap Some same))
