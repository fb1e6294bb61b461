-- The titles that are charged for b titles bought and s titles sold; - stops at 0.
use Rattle.std.specs.Prelude.{ℕ, ◌+◌, ◌-◌, ◌≤◌, max}

-- |b − s|
abbrev pub net : ℕ → ℕ → ℕ
net b s = (b - s) + (s - b)

-- the larger of the two
abbrev pub gross : ℕ → ℕ → ℕ
gross b s = max b s

abbrev pub both_sides : ℕ → ℕ → ℕ
both_sides b s = b + s

-- what every rule keeps to: the charge lies between |b − s| and b + s,
-- and two positions added are charged at most what both are
pub record Netting (charged : ℕ → ℕ → ℕ) : Type 0 where
  pub at_least : (b s : ℕ) → net b s ≤ charged b s
  pub at_most : (b s : ℕ) → charged b s ≤ b + s
  pub together : (b s c t : ℕ) → charged (b + c) (s + t) ≤ charged b s + charged c t
