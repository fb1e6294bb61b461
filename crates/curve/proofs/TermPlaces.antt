-- Where a term falls among points that ascend.
use Rattle.std.proofs.Common.{◌≡◌, ℕ, suc, ◌+◌, ◌-◌, ◌<◌, ◌≤◌, List, [], ◌∷◌, length, slice_get, Some, None, Option, sym, refl, ap, ◌∙◌, ⊎_elim, arith}
use Rattle.std.proofs.lemmas.Bool.{cases_lt, lt-ltb, le-ltb, le-leb, lt-leb}
use Rattle.register.specs.Keys.{Ascends, from_rank}
use Rattle.curve.specs.declared.point.Point.{Point}
use Rattle.curve.specs.Points.{reach_of, step_rate}

abbrev pub term_of : Point → ℕ
term_of p = p.term

pub tail_ascends : (p : Point) (ps : List Point) → Ascends term_of (p ∷ ps) → Ascends term_of ps
tail_ascends p ps up k d h = let e : suc k + 1 ≡ suc (k + 1) = omega arith in (rw e at (up (suc k) d (omega arith)))

-- the first point from a term on is this one, or a later one
pub first_here : (p : Point) (ps : List Point) (t : ℕ) → t ≤ p.term → slice_get (from_rank term_of t (p ∷ ps)) 0 ≡ Some p
first_here p ps t h = rw (le-ltb p.term t h) refl

pub first_later : (p : Point) (ps : List Point) (t : ℕ) → p.term < t → slice_get (from_rank term_of t (p ∷ ps)) 0 ≡ slice_get (from_rank term_of t ps) 0
first_later p ps t h = rw (lt-ltb p.term t h) refl

pub none_some : (P : Type 0) (q : Point) → ◌≡◌ {A = Option Point} None (Some q) → P
none_some P q e = let z : ◌≡◌ {A = ℕ} 0 1 = cc in absurd (omega arith)

-- the reach is above the first term
above_first : (p : Point) (ps : List Point) → Ascends term_of (p ∷ ps) → p.term < reach_of (p ∷ ps)
above_first p [] up = omega arith
above_first p (q ∷ qs) up =
    let a : p.term < q.term = up 0 p (omega arith) in
    let b = above_first q qs (tail_ascends p (q ∷ qs) up) in
    omega arith

-- a term beyond every point is not below the reach
pub beyond : (ps : List Point) (t : ℕ) → None ≡ slice_get (from_rank term_of t ps) 0 → reach_of ps ≤ t
beyond [] t h = omega arith
beyond (p ∷ []) t h =
    ⊎_elim (λ (l : p.term < t). omega arith) (λ (l : t ≤ p.term). none_some _ p (h ∙ first_here p [] t l)) (cases_lt p.term t)
beyond (p ∷ (q ∷ qs)) t h =
    ⊎_elim (λ (l : p.term < t). beyond (q ∷ qs) t (h ∙ first_later p (q ∷ qs) t l))
    (λ (l : t ≤ p.term). none_some _ p (h ∙ first_here p (q ∷ qs) t l))
    (cases_lt p.term t)

-- a term with a point from it on is below the reach
pub reached : (ps : List Point) (t : ℕ) (q : Point) → Ascends term_of ps → Some q ≡ slice_get (from_rank term_of t ps) 0 → t < reach_of ps
reached [] t q up h = none_some _ q (sym h)
reached (p ∷ []) t q up h =
    ⊎_elim (λ (l : p.term < t). none_some _ q (sym (h ∙ first_later p [] t l))) (λ (l : t ≤ p.term). omega arith) (cases_lt p.term t)
reached (p ∷ (r ∷ rs)) t q up h =
    ⊎_elim (λ (l : p.term < t). reached (r ∷ rs) t q (tail_ascends p (r ∷ rs) up) (h ∙ first_later p (r ∷ rs) t l))
    (λ (l : t ≤ p.term). let a = above_first p (r ∷ rs) up in omega arith)
    (cases_lt p.term t)

-- the step curve's rate is that of the first point from the term on
pub step_is : (ps : List Point) (t : ℕ) (q : Point) → Some q ≡ slice_get (from_rank term_of t ps) 0 → step_rate ps t ≡ q.rate.basis_points
step_is [] t q h = none_some _ q (sym h)
step_is (p ∷ ps) t q h =
    ⊎_elim (λ (l : p.term < t). rw (lt-leb t p.term l) (step_is ps t q (h ∙ first_later p ps t l)))
    (λ (l : t ≤ p.term).
    let s : q ≡ p = let e = h ∙ first_here p ps t l in cc in
    rw (le-leb t p.term l) (ap (λ x. x.rate.basis_points) (sym s)))
    (cases_lt p.term t)

-- the last of points
abbrev pub last_of : List Point → Option Point
last_of [] = None
last_of (p ∷ []) = Some p
last_of (p ∷ (q ∷ qs)) = last_of (q ∷ qs)

pub last_is : (ps : List Point) → slice_get ps (length ps - 1) ≡ last_of ps
last_is [] = refl
last_is (p ∷ []) = refl
last_is (p ∷ (q ∷ qs)) =
    let e : length (p ∷ (q ∷ qs)) - 1 ≡ suc (length (q ∷ qs) - 1) = omega arith in
    rw e (last_is (q ∷ qs))
