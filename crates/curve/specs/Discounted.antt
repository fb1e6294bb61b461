-- The rates of both curves stay within their bounds. Here and not in proofs, since an impl cites
-- the proof of its law from specs alone.
use Rattle.std.specs.Prelude.{◌≡◌, ℕ, ◌-◌, ◌<◌, ◌≤◌, Bool, true, false, if◌then◌else◌, List, [], ◌∷◌, ℤ, pos, negsuc, ◌-ℤ◌, ◌*ℤ◌, ◌≤ℤ◌, nat_le, refl}
use Rattle.std.proofs.Common.{arith, ⊎_elim}
use Rattle.std.specs.Int.Signed.{le_z_yes}
use Rattle.std.proofs.lemmas.Int.{ints}
use Rattle.std.proofs.lemmas.Bool.{cases_lt, cases_eq, lt-ltb, le-ltb, le-leb, lt-leb, eq-eqb, ne_eqb}
use Rattle.quantities.specs.Rounding.{round_down_signed}
use Rattle.quantities.specs.Ranges.{lowest_rate, highest_rate}
use Rattle.curve.specs.declared.point.Point.{Point}
use Rattle.curve.specs.Curves.{Discounting}
use Rattle.curve.specs.Points.{reach_of, step_rate, slope_after, sloping_rate}
use Rattle.curve.specs.Slopes.{BetweenEnds, between_ends, risen_is}

reach_short : (ps : List Point) → reach_of ps ≤ 65536
reach_short [] = omega arith
reach_short (p ∷ []) = let w = p.within in omega arith
reach_short (p ∷ (q ∷ qs)) = reach_short (q ∷ qs)

-- a choice between two numbers keeps what both keep
chosen : (P : ℤ → Type 0) (b : Bool) (x y : ℤ) → P x → P y → P (if b then x else y)
chosen P true x y p q = p
chosen P false x y p q = q

step_low : (ps : List Point) (t : ℕ) → lowest_rate ≤ℤ step_rate ps t
step_low [] t = le_z_yes tt
step_low (p ∷ ps) t =
    chosen (λ z. lowest_rate ≤ℤ z) (nat_le t p.term) _ _ p.rate.above (step_low ps t)

step_high : (ps : List Point) (t : ℕ) → step_rate ps t ≤ℤ highest_rate
step_high [] t = le_z_yes tt
step_high (p ∷ ps) t =
    chosen (λ z. z ≤ℤ highest_rate) (nat_le t p.term) _ _ p.rate.within (step_high ps t)

pub steps_discounting : (ps : List Point) → Discounting (reach_of ps) (step_rate ps)
steps_discounting ps =
    record { short = reach_short ps; low = λ t h. step_low ps t; high = λ t h. step_high ps t }

-- a slope between neighbours stays within the bounds of a rate
between_fits : (p q : Point) (t : ℕ) → p.term < t → t < q.term →
    BetweenEnds p.rate.basis_points
    (round_down_signed
    ((q.rate.basis_points -ℤ p.rate.basis_points) *ℤ pos (t - p.term))
    (q.term - p.term))
between_fits p q t h k =
    let x = p.rate in
    let y = q.rate in
    let d = y.basis_points -ℤ x.basis_points in
    let w = q.within in
    let low : negsuc 3499 ≤ℤ d = let a = x.within in let b = y.above in omega (arith, ints) in
    let high : d ≤ℤ pos 3500 = let a = x.above in let b = y.within in omega (arith, ints) in
    let r = risen_is d (t - p.term) (q.term - p.term) low high (omega arith) (omega arith) in
    between_ends d x.basis_points y.basis_points _ refl
    r.up r.down x.above x.within y.above y.within

-- both bounds of a rate
record Fits (z : ℤ) : Type 0 where
  pub low : lowest_rate ≤ℤ z
  pub high : z ≤ℤ highest_rate

point_rate_fits : (p : Point) → Fits p.rate.basis_points
point_rate_fits p = record { low = p.rate.above; high = p.rate.within }

slope_fits : (p : Point) (ps : List Point) (t : ℕ) → p.term < t → Fits (slope_after p ps t)
slope_fits p [] t h = point_rate_fits p
slope_fits p (q ∷ qs) t h =
    ⊎_elim
    (λ (l : t < q.term).
    let b = between_fits p q t h l in
    rw (lt-ltb t q.term l) (record { low = b.low; high = b.high }))
    (λ (l : q.term ≤ t).
    rw (le-ltb t q.term l)
    (⊎_elim (λ (e : t ≡ q.term). rw (eq-eqb t q.term e) (point_rate_fits q))
    (λ (ne : t ≡ q.term → ⊥). rw (ne_eqb t q.term ne) (slope_fits q qs t (omega (arith, ne))))
    (cases_eq t q.term)))
    (cases_lt t q.term)

sloping_fits : (ps : List Point) (t : ℕ) → Fits (sloping_rate ps t)
sloping_fits [] t = record { low = le_z_yes tt; high = le_z_yes tt }
sloping_fits (p ∷ ps) t =
    ⊎_elim (λ (l : p.term < t). rw (lt-leb t p.term l) (slope_fits p ps t l))
    (λ (l : t ≤ p.term). rw (le-leb t p.term l) (point_rate_fits p))
    (cases_lt p.term t)

pub slopes_discounting : (ps : List Point) → Discounting (reach_of ps) (sloping_rate ps)
slopes_discounting ps =
    record {
      short = reach_short ps;
      low = λ t h. (sloping_fits ps t).low;
      high = λ t h. (sloping_fits ps t).high;
    }
