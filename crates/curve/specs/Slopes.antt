-- A slope stays between its two ends. Here and not in proofs, as what cites it in Discounted.
use Rattle.std.specs.Prelude.{◌≡◌, ℕ, zero, suc, ◌+◌, ◌*◌, ◌/◌, ◌<◌, ◌≤◌, ℤ, pos, negsuc, ◌+ℤ◌, ◌-ℤ◌, ◌*ℤ◌, neg_ℤ, ◌≤ℤ◌}
use Rattle.std.proofs.Common.{arith, add-mul, mul-le-mul, mul-le-mul_left}
use borrow.Author.Differences.{le_out}
use Rattle.std.proofs.lemmas.Nat.{div_below}
use Rattle.std.proofs.lemmas.Int.{ints}
use Rattle.quantities.specs.Ranges.{lowest_rate, highest_rate}
use Rattle.quantities.specs.Rounding.{round_down_signed}

-- what is known of a rise that has come a days of b
pub record Risen (rise : ℤ) (a b : ℕ) : Type 0 where
  pub low : negsuc 229372499 ≤ℤ (rise *ℤ pos a)
  pub high : (rise *ℤ pos a) ≤ℤ pos 229372500
  pub up : pos 0 ≤ℤ rise →
      (pos 0 ≤ℤ round_down_signed (rise *ℤ pos a) b)
      × (round_down_signed (rise *ℤ pos a) b ≤ℤ rise)
  pub down : rise ≤ℤ pos 0 →
      (rise ≤ℤ round_down_signed (rise *ℤ pos a) b)
      × (round_down_signed (rise *ℤ pos a) b ≤ℤ pos 0)

upward : (n a b : ℕ) → a < b → (n * a) / b ≤ n
upward n a b h =
    let m : n * a ≤ n * b = mul-le-mul_left n (omega arith) in
    let e : (n * a) / b < n + 1 =
    div_below (n * a) b (n + 1) (omega arith) (omega (arith, add-mul n 1 b)) in
    omega arith

downward : (m n b : ℕ) → m ≤ suc n * b → 0 < b →
    (negsuc n ≤ℤ round_down_signed (neg_ℤ (pos m)) b)
    × (round_down_signed (neg_ℤ (pos m)) b ≤ℤ pos 0)
downward zero n b h k =
    let e : 0 / b < 1 = div_below 0 b 1 k (omega (arith, add-mul 0 1 b)) in
    (omega (arith, ints), omega (arith, ints))
downward (suc m) n b h k =
    let e : m / b < suc n = div_below m b (suc n) k (omega arith) in
    (omega (arith, ints), omega (arith, ints))

pub risen_is : (rise : ℤ) (a b : ℕ) → negsuc 3499 ≤ℤ rise → rise ≤ℤ pos 3500 →
    a < b → b ≤ 65535 → Risen rise a b
risen_is (pos n) a b l h k s =
    let e : n ≤ 3500 = omega (arith, le_out _ _ h) in
    let w : a ≤ 65535 = omega arith in
    let f = mul-le-mul e w in
    let u = upward n a b k in
    record {
      low = omega (arith, ints);
      high = omega (arith, ints);
      up = λ z. (omega (arith, ints), omega (arith, ints));
      down = λ z. (omega (arith, ints), omega (arith, ints));
    }
risen_is (negsuc n) a b l h k s =
    let e : suc n ≤ 3500 = omega (arith, le_out _ _ l) in
    let w : a ≤ 65535 = omega arith in
    let f = mul-le-mul e w in
    let d = downward (suc n * a) n b (mul-le-mul_left (suc n) (omega arith)) (omega arith) in
    record {
      low = omega (arith, ints);
      high = omega (arith, ints);
      up = λ z. absurd (omega (arith, ints));
      down = λ z. d;
    }

-- what is known of a rate on the way from x to y, s above x
pub record BetweenEnds (x s : ℤ) : Type 0 where
  pub low : lowest_rate ≤ℤ (x +ℤ s)
  pub high : (x +ℤ s) ≤ℤ highest_rate

pub between_ends : (d x y s : ℤ) → d ≡ y -ℤ x →
    (pos 0 ≤ℤ d → (pos 0 ≤ℤ s) × (s ≤ℤ d)) →
    (d ≤ℤ pos 0 → (d ≤ℤ s) × (s ≤ℤ pos 0)) →
    lowest_rate ≤ℤ x → x ≤ℤ highest_rate → lowest_rate ≤ℤ y → y ≤ℤ highest_rate → BetweenEnds x s
between_ends (pos n) x y s e up down lx hx ly hy =
    let u = up (omega (arith, ints)) in
    record { low = omega (arith, ints); high = omega (arith, ints) }
between_ends (negsuc n) x y s e up down lx hx ly hy =
    let u = down (omega (arith, ints)) in
    record { low = omega (arith, ints); high = omega (arith, ints) }
