-- Fractions rounded to whole numbers, and how near they stay.
use Rattle.std.specs.Prelude.{ℕ, ◌+◌, ◌-◌, ◌*◌, ◌/◌, ◌<◌, ◌≤◌, ℤ, pos, negsuc, ◌+ℤ◌, ◌*ℤ◌, ◌≤ℤ◌, ◌<ℤ◌}

-- n / d, rounded up
abbrev pub round_up : ℕ → ℕ → ℕ
round_up n d = (n + (d - 1)) / d

-- n / d, rounded down
abbrev pub round_down : ℕ → ℕ → ℕ
round_down n d = n / d

-- z / d, rounded down, also below zero: negsuc n is −(n + 1)
abbrev pub round_down_signed : ℤ → ℕ → ℤ
round_down_signed (pos n) d = pos (n / d)
round_down_signed (negsuc n) d = negsuc (n / d)

-- r is not below n / d, and above it by less than one
pub record JustAbove (n d r : ℕ) : Type 0 where
  pub not_below : n ≤ r * d
  pub by_less_than_one : r * d < n + d

-- r is not above n / d, and below it by less than one
pub record JustBelow (n d r : ℕ) : Type 0 where
  pub not_above : r * d ≤ n
  pub by_less_than_one : n < r * d + d

-- the same of a fraction that may be negative
pub record JustBelowSigned (z : ℤ) (d : ℕ) (r : ℤ) : Type 0 where
  pub not_above : (r *ℤ pos d) ≤ℤ z
  pub by_less_than_one : z <ℤ ((r *ℤ pos d) +ℤ pos d)
