-- Whole cents near a fraction: at least the fraction, and at most k cents above it.
use Rattle.std.proofs.Common.{◌≡◌, ℕ, ◌+◌, ◌*◌, ◌<◌, ◌≤◌, ltb, List, [], ◌∷◌, ℤ, pos, negsuc, ◌+ℤ◌, ◌-ℤ◌, ◌*ℤ◌, neg_ℤ, refl, ap, subst, mul-le-mul_right, le_of_mul-le-mul_right, arith}
use lib.Signed.{lt_z}
use borrow.Author.Differences.{up, down, sum_is_lem, neg_is, product_is, at_most_in, lt-true, lt-false}
use Rattle.std.proofs.lemmas.Bool.{cond_both}
use Rattle.quantities.specs.Rounding.{round_up, round_down_signed}
use Rattle.account.specs.Lines.{sum_of, sum_ℤ}
use Rattle.account.specs.Margin.{not_below_zero}
use Rattle.account.specs.Exact.{Fraction, fraction_of, whole_number, fraction_sum, fraction_difference, opposite, is_below, greater_of, at_least_zero, sum_of_fractions}
use Rattle.account.specs.Joint.{WithinCents}
use Rattle.account.proofs.Blocks.{larger}

-- ---- by differences: (u − v) / d ≤ p − q ≤ (u − v) / d + k
pub record Close (k p q u v d : ℕ) : Type 0 where
  pub positive : 0 < d
  pub low : u + q * d ≤ v + p * d
  pub high : p * d + v ≤ u + k * d + q * d

close_plus : {j k a b u v d c q w x e : ℕ} → Close j a b u v d → Close k c q w x e → Close (j + k) (a + c) (b + q) (u * e + w * d) (v * e + x * d) (d * e)
close_plus {j} {k} {a} {b} {u} {v} {d} {c} {q} {w} {x} {e} h g =
    record {
      positive = omega (arith, mul-le-mul_right e h.positive, g.positive);
      low = omega (arith, mul-le-mul_right e h.low, mul-le-mul_right d g.low);
      high = omega (arith, mul-le-mul_right e h.high, mul-le-mul_right d g.high);
    }

-- the same differences
close_same : {k p q u v d : ℕ} (P Q U V : ℕ) → P + q ≡ Q + p → U + v ≡ V + u → Close k p q u v d → Close k P Q U V d
close_same {k} {p} {q} {u} {v} {d} P Q U V e f h =
    record {
      positive = h.positive;
      low = omega (arith, h.low, ap (λ (n : ℕ). n * d) e);
      high = omega (arith, h.high, ap (λ (n : ℕ). n * d) e);
    }

close_more : {k p q u v d : ℕ} (l : ℕ) → k ≤ l → Close k p q u v d → Close l p q u v d
close_more {k} {p} {q} {u} {v} {d} l m h =
    record { positive = h.positive; low = h.low; high = omega (arith, h.high, mul-le-mul_right d m) }

-- the larger difference and the larger fraction, where they come from different pairs
close_cross : {k p q u v d P Q w x e : ℕ} → Close k p q u v d → Close k P Q w x e → p + Q ≤ P + q → w * d + v * e ≤ x * d + u * e → Close k P Q u v d
close_cross {k} {p} {q} {u} {v} {d} {P} {Q} {w} {x} {e} h g m c =
    let z : (P * d + v) * e ≤ (u + k * d + Q * d) * e = omega (arith, mul-le-mul_right d g.high, c) in
    record {
      positive = h.positive;
      low = omega (arith, h.low, mul-le-mul_right d m);
      high = le_of_mul-le-mul_right z g.positive;
    }

-- ---- integers near fractions, and under them
pub record Near (k : ℕ) (m : ℤ) (f : Fraction) : Type 0 where
  pub near : Close k (up m) (down m) (up f.numerator) (down f.numerator) f.denominator

-- at most the fraction, and at most k below it
pub record Under (k : ℕ) (m : ℤ) (f : Fraction) : Type 0 where
  pub under : Close k (down m) (up m) (down f.numerator) (up f.numerator) f.denominator

pub near_more : {k l : ℕ} {m : ℤ} {f : Fraction} → k ≤ l → Near k m f → Near l m f
near_more {k} {l} le h = record { near = close_more l le h.near }

pub near_neg : {k : ℕ} {m : ℤ} {f : Fraction} → Under k m f → Near k (neg_ℤ m) (opposite f)
near_neg {k} {m} {f} h = record { near = close_same _ _ _ _ (omega (arith, neg_is m)) (omega (arith, neg_is f.numerator)) h.under }

pub near_plus : {j k : ℕ} {m n : ℤ} {f g : Fraction} → Near j m f → Near k n g → Near (j + k) (m +ℤ n) (fraction_sum f g)
near_plus {j} {k} {m} {n} {f} {g} h i =
    let a : ℤ = f.numerator *ℤ pos g.denominator in
    let b : ℤ = g.numerator *ℤ pos f.denominator in
    record { near = close_same _ _ _ _ (omega (arith, sum_is_lem m n)) (omega (arith, sum_is_lem a b, product_is f.numerator (pos g.denominator), product_is g.numerator (pos f.denominator))) (close_plus h.near i.near) }

pub near_minus : {j k : ℕ} {m n : ℤ} {f g : Fraction} → Near j m f → Under k n g → Near (j + k) (m -ℤ n) (fraction_difference f g)
near_minus {j} {k} {m} {n} {f} {g} h i =
    let a : ℤ = f.numerator *ℤ pos g.denominator in
    let b : ℤ = g.numerator *ℤ pos f.denominator in
    record { near = close_same _ _ _ _ (omega (arith, sum_is_lem m (neg_ℤ n), neg_is n)) (omega (arith, sum_is_lem a (neg_ℤ b), neg_is b, product_is f.numerator (pos g.denominator), product_is g.numerator (pos f.denominator))) (close_plus h.near i.under) }

pub under_minus : {j k : ℕ} {m n : ℤ} {f g : Fraction} → Under j m f → Near k n g → Under (j + k) (m -ℤ n) (fraction_difference f g)
under_minus {j} {k} {m} {n} {f} {g} h i =
    let a : ℤ = f.numerator *ℤ pos g.denominator in
    let b : ℤ = g.numerator *ℤ pos f.denominator in
    record { under = close_same _ _ _ _ (omega (arith, sum_is_lem m (neg_ℤ n), neg_is n)) (omega (arith, sum_is_lem a (neg_ℤ b), neg_is b, product_is f.numerator (pos g.denominator), product_is g.numerator (pos f.denominator))) (close_plus h.under i.near) }

pub near_max : {k : ℕ} {m n : ℤ} {f g : Fraction} → Near k m f → Near k n g → Near k (larger m n) (greater_of f g)
near_max {k} {m} {n} {f} {g} h i =
    let a : ℤ = f.numerator *ℤ pos g.denominator in
    let b : ℤ = g.numerator *ℤ pos f.denominator in
    let p = product_is f.numerator (pos g.denominator) in
    let q = product_is g.numerator (pos f.denominator) in
    cond_both (lt_z m n) n m (λ z. Near k z (greater_of f g))
    (λ c. cond_both (is_below f g) g f (Near k n) (λ d. i) (λ d. record { near = close_cross h.near i.near (omega (arith, lt-true m n c)) (omega (arith, lt-false a b d, p, q)) }))
    (λ c. cond_both (is_below f g) g f (Near k m) (λ d. record { near = close_cross i.near h.near (omega (arith, lt-false m n c)) (omega (arith, lt-true a b d, p, q)) }) (λ d. h))

pub near_whole : (z : ℤ) → Near 0 z (whole_number z)
near_whole z = record { near = record { positive = omega arith; low = omega arith; high = omega arith } }

larger_zero : (z : ℤ) → larger (pos 0) z ≡ pos (not_below_zero z)
larger_zero (pos n) = cond_both (ltb 0 n) (pos n) (pos 0) (λ y. y ≡ pos n) (λ e. refl) (λ e. ap pos (omega (arith, lt-false (pos 0) (pos n) e)))
larger_zero (negsuc n) = refl

pub near_cut : {k : ℕ} {z : ℤ} {f : Fraction} → Near k z f → Near k (pos (not_below_zero z)) (at_least_zero f)
near_cut {k} {z} {f} h = subst (λ y. Near k y (at_least_zero f)) (larger_zero z) (near_max (near_more (omega arith) (near_whole (pos 0))) h)

pub near_sum : {X : Type 0} (k : X → ℕ) (m : X → ℤ) (f : X → Fraction) (xs : List X) → ((x : X) → Near (k x) (m x) (f x)) → Near (sum_of k xs) (sum_ℤ m xs) (sum_of_fractions f xs)
near_sum k m f [] h = near_whole (pos 0)
near_sum k m f (x ∷ xs) h = near_plus (h x) (near_sum k m f xs h)

-- ---- rounded amounts
pub near_ceil : (n d : ℕ) → 0 < d → Near 1 (pos (round_up n d)) (fraction_of (pos n) d)
near_ceil n d h = record { near = record { positive = h; low = omega arith; high = omega arith } }

pub under_floor : (z : ℤ) (d : ℕ) → 0 < d → Under 1 (round_down_signed z d) (fraction_of z d)
under_floor (pos n) d h = record { under = record { positive = h; low = omega arith; high = omega arith } }
under_floor (negsuc n) d h = record { under = record { positive = h; low = omega arith; high = omega arith } }

pub near_cents : {k m : ℕ} {f : Fraction} → Near k (pos m) f → WithinCents f m k
near_cents {k} {m} {f} h =
    let p = product_is f.numerator (pos 1) in
    let s : ℤ = (f.numerator *ℤ pos 1) +ℤ (pos k *ℤ pos f.denominator) in
    record {
      positive = h.near.positive;
      low = at_most_in _ _ (omega (arith, h.near.low, p));
      high = at_most_in _ _ (omega (arith, h.near.high, p, sum_is_lem (f.numerator *ℤ pos 1) (pos k *ℤ pos f.denominator), product_is s (pos 1)));
    }
