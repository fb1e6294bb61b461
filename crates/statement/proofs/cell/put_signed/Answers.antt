use Rattle.std.proofs.Common.{◌≡◌, ◌∷◌, ℤ, pos, negsuc, refl, true, false, arith, to_z, of_z, w64, rules}
use Rattle.std.proofs.Math.IntN.{nat_abs}
use Rattle.std.specs.Fmt.{decimal, signed_decimal}
use Rattle.statement.proofs.Placed.{then_puts}
use Rattle.statement.proofs.cell.put_signed.Goals.{then-number-lt0, else-number-lt0}
use Rattle.statement.proofs.cell.put_signed.Goals as goal
use lib.Signed.{lt_z}

below : (z : ℤ) → lt_z z (pos 0) ≡ true → 45 ∷ decimal (nat_abs z) ≡ signed_decimal z
below (pos n) h = absurd (grind (arith, h))
below (negsuc n) h = refl

not_below : (z : ℤ) → lt_z z (pos 0) ≡ false → decimal (nat_abs z) ≡ signed_decimal z
not_below (pos n) h = refl
not_below (negsuc n) h = absurd (grind (arith, h))

pub returns : goal.returns
returns c =
    let z = c.args.number in
    let back : to_z w64 (of_z w64 z) ≡ z = search rules in
    let digits = rw (c.unsigned_abs.ensures.value, back) at c.put_number.ensures in
    elim c.if-number-lt0.branch [
      | then-number-lt0 w ↦ rw (← below z (rw back at w.if-number-lt0.true)) (then_puts _ _ _ _ _ _ _ _ (omega arith) w.put-at.ensures (rw (w.memory-is, w.at-is) at digits))
      | else-number-lt0 w ↦ rw (← not_below z (rw back at w.if-number-lt0.false)) (rw (w.memory-is, w.at-is) at digits)
    ]
