-- How many digits a number has, by how many bits it has.
use Rattle.std.proofs.Common.{◌≡◌, ℕ, zero, suc, ◌+◌, ◌-◌, ◌*◌, ◌/◌, ◌^◌, ◌<◌, ◌≤◌, Bool, true, length, get_or, eqb, inl, inr, refl, sym, ap, ◌∙◌, arith, length-append}
use Rattle.std.proofs.Math.Dec.{leb, leb-zero}
use Rattle.std.proofs.Math.Nat.{pow-succ', pow-le-pow_right}
use Rattle.std.proofs.lemmas.Bool.{agree_below_at, eqb-true, leb-true}
use Rattle.std.proofs.lemmas.Bool.Decides.{leb_tells}
use Rattle.std.proofs.lemmas.Fmt.{decimal_digit, decimal_step, decimal_nonempty, length-decimal-le}
use Rattle.std.proofs.lemmas.Nat.{leading_length}
use Rattle.std.specs.Int.Count.{count_leading_zeros}
use Rattle.std.specs.Fmt.{decimal}
use Rattle.statement.specs.declared.cell.TheConstants.{POWERS}
use mir.Val.{bool_byte}

-- a number from a power of ten on has a digit more than the power's exponent
reached : (k n : ℕ) → 10 ^ k ≤ n → n < 2 ^ 64 → k < length (decimal n)
reached zero n from small = decimal_nonempty n small
reached (suc k) n from small =
    let power : 10 ^ suc k ≡ 10 * 10 ^ k = pow-succ' 10 k in
    let some : 10 ^ 0 ≤ 10 ^ k = pow-le-pow_right {n = 10} (omega arith) {i = 0} {j = k} (omega arith) in
    let long : length (decimal n) ≡ length (decimal (n / 10)) + 1 = ap length (decimal_step n (omega arith) small) ∙ length-append _ _ in
    omega (arith, long, reached k (n / 10) (omega arith) (omega arith))

-- of two neighbouring counts, the power of ten between them tells which one it is
count_between : (k n : ℕ) → n < 2 ^ 64 → 10 ^ k ≤ n → n < 10 ^ (suc k + 1) → suc k + bool_byte (leb (10 ^ suc k) n) ≡ length (decimal n)
count_between k n small from below =
    elim (leb_tells (10 ^ suc k) n) [
      | inl t ↦ rw t.0 (omega (arith, reached (suc k) n t.1 small, length-decimal-le (suc k + 1) n (omega arith) below small))
      | inr t ↦ rw t.0 (omega (arith, reached k n from small, length-decimal-le (suc k) n (omega arith) t.1 small))
    ]

-- the least count of digits by that of bits, and the power of ten there; 0 at none
abbrev least : ℕ → ℕ
least bits = bits * 1233 / 4096

abbrev power : ℕ → ℕ
power zero = 0
power (suc k) = 10 ^ suc k

abbrev reaches : ℕ → ℕ → Bool
reaches zero bits = true
reaches (suc k) bits = leb (2 * 10 ^ k) (2 ^ bits)

-- what is computed of each count of bits
abbrev listed : ℕ → Bool
listed bits = eqb (get_or POWERS (least bits) 0) (power (least bits))

abbrev above : ℕ → Bool
above bits = leb (2 ^ bits) (10 ^ (least bits + 1))

abbrev under : ℕ → Bool
under bits = reaches (least bits) bits

abbrev yes : ℕ → Bool
yes bits = true

from_least : (g bits n : ℕ) → n < 2 ^ 64 → 2 ^ bits ≤ 2 * n + 1 → reaches g bits ≡ true → n < 10 ^ (g + 1) → g + bool_byte (leb (power g) n) ≡ length (decimal n)
from_least zero bits n small long r below = rw leb-zero (sym (ap length (decimal_digit n (omega arith))))
from_least (suc k) bits n small long r below = count_between k n small (omega (arith, leb-true _ _ r)) below

pub digits_counted : (n : ℕ) → n < 2 ^ 64 → least (64 - count_leading_zeros 64 n) + bool_byte (leb (get_or POWERS (least (64 - count_leading_zeros 64 n)) 0) n) ≡ length (decimal n)
digits_counted n small =
    let l = leading_length 64 n small in
    let bits : ℕ = l.0 in
    let e : 64 - count_leading_zeros 64 n ≡ bits = omega (arith, l.1) in
    let few : bits < 65 = omega (arith, l.1) in
    let p : get_or POWERS (least bits) 0 ≡ power (least bits) = eqb-true _ _ (agree_below_at listed yes 65 bits refl few) in
    let below : 2 ^ bits ≤ 10 ^ (least bits + 1) = leb-true _ _ (agree_below_at above yes 65 bits refl few) in
    rw (e, p) (from_least (least bits) bits n small l.3 (agree_below_at under yes 65 bits refl few) (omega (arith, l.2)))
