-- A point is determined by its parts, since the bounds beside them are propositions.
use Rattle.std.proofs.Common.{◌≡◌, ◌≤◌, ℤ, ◌≤ℤ◌, ap}
use Rattle.std.specs.Coded.{le_prop}
use Rattle.std.proofs.Props.{props}
use mathlib.Core.HLevel.{is_prop→PathP}
use Rattle.quantities.specs.Ranges.{lowest_rate, highest_rate, longest_curve_term}
use Rattle.quantities.specs.declared.range.Rate.{Rate}
use Rattle.curve.specs.declared.point.Point.{Point}
use Rattle.curve.specs.Points.{point_parts}

le_z_prop : {a b : ℤ} → IsProp (a ≤ℤ b)
le_z_prop = hlevel props

pub rate_of_parts : (p q : Rate) → p.basis_points ≡ q.basis_points → p ≡ q
rate_of_parts p q e =
    λ i. record {
      basis_points = e i;
      above = is_prop→PathP (λ j. lowest_rate ≤ℤ e j) (λ j. le_z_prop) p.above q.above i;
      within = is_prop→PathP (λ j. e j ≤ℤ highest_rate) (λ j. le_z_prop) p.within q.within i;
    }

pub point_of_parts : (p q : Point) → point_parts p ≡ point_parts q → p ≡ q
point_of_parts p q e =
    let rate = rate_of_parts p.rate q.rate (ap (λ y. y.1) e) in
    λ i. record {
      term = (e i).0;
      rate = rate i;
      within = is_prop→PathP (λ j. (e j).0 ≤ longest_curve_term) (λ j. le_prop) p.within q.within i;
    }
