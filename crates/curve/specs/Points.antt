-- The points of a curve, by term.
use Rattle.std.specs.Prelude.{ℕ, ◌+◌, ◌-◌, Bool, ◌&&◌, List, [], ◌∷◌, ℤ, pos, ◌+ℤ◌, ◌-ℤ◌, ◌*ℤ◌, Ok, Err, Result, ◌==◌, if◌then◌else◌, int_le, nat_le, nat_lt}
use Rattle.quantities.specs.declared.refusal.Refusal.TheVariants.{Value}
use Rattle.quantities.specs.Refusals.{number}
use Rattle.quantities.specs.Ranges.{lowest_rate, highest_rate}
use Rattle.quantities.specs.Rounding.{round_down_signed}
use Rattle.curve.specs.declared.point.Point.{Point}

-- a rate within its range
abbrev pub rate_fits : ℤ → Bool
rate_fits rate = int_le lowest_rate rate && int_le rate highest_rate

-- points go by their term
abbrev pub point_rank : Point → ℕ
point_rank p = p.term

-- what a point holds: term, rate
abbrev pub point_parts : Point → ℕ × ℤ
point_parts p = (p.term, p.rate.basis_points)

-- a point of those parts where the rate is in its range, refused elsewhere
abbrev pub point_answer : ℕ → ℤ → Result (ℕ × ℤ) ℕ
point_answer term rate = if rate_fits rate then Ok (term, rate) else Err (number Value)

-- the last term plus one, or 0 without points
abbrev pub reach_of : List Point → ℕ
reach_of [] = 0
reach_of (p ∷ []) = p.term + 1
reach_of (p ∷ (q ∷ qs)) = reach_of (q ∷ qs)

-- the rate of the first point whose term is not below the one asked
abbrev pub step_rate : List Point → ℕ → ℤ
step_rate [] term = pos 0
step_rate (p ∷ ps) term = if nat_le term p.term then p.rate.basis_points else step_rate ps term

-- between two neighbours, rounded down
abbrev pub rate_between : Point → Point → ℕ → ℤ
rate_between p q term =
    p.rate.basis_points
    +ℤ round_down_signed
    ((q.rate.basis_points -ℤ p.rate.basis_points) *ℤ pos (term - p.term))
    (q.term - p.term)

-- after a point p: the slope to the next one, and the next one's rate at its term
abbrev pub slope_after : Point → List Point → ℕ → ℤ
slope_after p [] term = p.rate.basis_points
slope_after p (q ∷ qs) term =
    if nat_lt term q.term then rate_between p q term
    else (if term == q.term then q.rate.basis_points else slope_after q qs term)

-- the first rate up to the first point, then the slopes
abbrev pub sloping_rate : List Point → ℕ → ℤ
sloping_rate [] term = pos 0
sloping_rate (p ∷ ps) term =
    if nat_le term p.term then p.rate.basis_points else slope_after p ps term
