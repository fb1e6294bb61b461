use Rattle.std.proofs.Common.{◌≡◌, pos, ◌*ℤ◌, refl, ap, ◌∙◌, arith, w32, to_z, of_z}
use Rattle.std.specs.Int.{int_div_euclid}
use Rattle.std.proofs.lemmas.Int.{ints}
use Rattle.quantities.specs.Rounding.{round_down_signed}
use Rattle.quantities.proofs.Rounded.{euclid_down}
use Rattle.curve.specs.Slopes.{risen_is}
use Rattle.curve.proofs.sloping.risen.Goals as goal
use Rattle.curve.proofs.sloping.risen.Goals.{After-from}

-- the product that the code works out
product : (c : After-from) → to_z w32 (of_z w32 c.args.rise) *ℤ to_z w32 (of_z w32 c.from.result) ≡ c.args.rise *ℤ pos c.args.ahead
product c =
    let x : to_z w32 (of_z w32 c.args.rise) ≡ c.args.rise = omega (arith, ints) in
    let y : to_z w32 (of_z w32 c.from.result) ≡ pos c.args.ahead = omega (arith, ints) in
    rw (x, y) refl

pub overflow_mul-rise : goal.overflow_mul-rise
overflow_mul-rise c =
    let k = risen_is c.args.rise c.args.ahead c.args.span c.requires.0 c.requires.1.0 c.requires.1.1 (omega arith) in
    let p = product c in
    omega (arith, ints)

pub returns : goal.returns
returns c =
    let rise = c.args.rise in
    let a = c.args.ahead in
    let b = c.args.span in
    let k = risen_is rise a b c.requires.0 c.requires.1.0 c.requires.1.1 (omega arith) in
    let p = product (goal.at.returns c).After-from in
    let q : to_z w32 (of_z w32 (to_z w32 (of_z w32 rise) *ℤ to_z w32 (of_z w32 c.from.result))) ≡ rise *ℤ pos a = omega (arith, ints) in
    let s : to_z w32 (of_z w32 c.from-2.result) ≡ pos b = omega (arith, ints) in
    let r : to_z w32 (of_z w32 c.div_euclid.result) ≡ c.div_euclid.result = omega (arith, ints) in
    let is : to_z w32 (of_z w32 c.div_euclid.result) ≡ round_down_signed (rise *ℤ pos a) b = r ∙ (c.div_euclid.ensures ∙ (ap (λ z. int_div_euclid z (to_z w32 (of_z w32 c.from-2.result))) q ∙ (ap (λ z. int_div_euclid (rise *ℤ pos a) z) s ∙ euclid_down (rise *ℤ pos a) b))) in
    record { is = is; up = rw is k.up; down = rw is k.down }
