use Rattle.std.proofs.Common.{◌≡◌, ◌-◌, pos, ◌+ℤ◌, ◌-ℤ◌, ◌*ℤ◌, ap, ◌∙◌, arith, w16, w32, to_z, of_z}
use Rattle.std.proofs.lemmas.Int.{ints}
use Rattle.quantities.specs.Rounding.{round_down_signed}
use Rattle.curve.specs.Slopes.{BetweenEnds, between_ends}
use Rattle.curve.proofs.sloping.rate_between.Goals as goal
use Rattle.curve.proofs.sloping.rate_between.Goals.{After-risen-slope}

ends : (c : After-risen-slope) → BetweenEnds c.args.previous.rate.basis_points c.risen-slope.result
ends c =
    let x = c.args.previous.rate in
    let y = c.args.next.rate in
    between_ends (to_z w32 (of_z w32 (to_z w32 (of_z w32 c.from.result) -ℤ to_z w32 (of_z w32 c.from-start.result)))) x.basis_points y.basis_points c.risen-slope.result (omega (arith, ints))
    c.risen-slope.ensures.up c.risen-slope.ensures.down x.above x.within y.above y.within

pub overflow_add-result : goal.overflow_add-result
overflow_add-result c = let e = ends c in omega (arith, ints)

pub overflow_cast-result : goal.overflow_cast-result
overflow_cast-result c = let e = ends c in omega (arith, ints)

pub invariant_of-result : goal.invariant_of-result
invariant_of-result c = let e = ends c in record { above = omega (arith, ints); within = omega (arith, ints) }

pub returns : goal.returns
returns c =
    let e = ends (goal.at.returns c).After-risen-slope in
    let rise = c.args.next.rate.basis_points -ℤ c.args.previous.rate.basis_points in
    let a = c.args.term - c.args.previous.term in
    let b = c.args.next.term - c.args.previous.term in
    let d : to_z w32 (of_z w32 (to_z w32 (of_z w32 c.from.result) -ℤ to_z w32 (of_z w32 c.from-start.result))) ≡ rise = omega (arith, ints) in
    let s : c.risen-slope.result ≡ round_down_signed (rise *ℤ pos a) b = c.risen-slope.ensures.is ∙ ap (λ z. round_down_signed (z *ℤ pos a) b) d in
    let x = c.args.previous.rate.basis_points in
    let v : to_z w32 (of_z w32 (to_z w32 (of_z w32 c.from-start.result) +ℤ to_z w32 (of_z w32 c.risen-slope.result))) ≡ x +ℤ c.risen-slope.result = omega (arith, ints) in
    let w : to_z w16 (of_z w16 (x +ℤ c.risen-slope.result)) ≡ x +ℤ c.risen-slope.result = omega (arith, ints) in
    ap (λ z. to_z w16 (of_z w16 z)) v ∙ (w ∙ ap (λ z. x +ℤ z) s)
