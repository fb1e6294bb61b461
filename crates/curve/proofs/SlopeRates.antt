-- The sloping curve's rate, by the last point below a term and the first one from it on.
use Rattle.std.proofs.Common.{◌≡◌, ℕ, ◌<◌, ◌≤◌, List, [], ◌∷◌, slice_get, Some, None, sym, refl, ap, ◌∙◌, ⊎_elim, arith}
use Rattle.std.proofs.lemmas.Bool.{cases_lt, lt-ltb, le-ltb, le-leb, lt-leb, eq-eqb, ne_eqb}
use Rattle.register.specs.Keys.{below_rank, from_rank}
use Rattle.curve.specs.declared.point.Point.{Point}
use Rattle.curve.specs.Points.{rate_between, slope_after, sloping_rate}
use Rattle.curve.proofs.TermPlaces.{term_of, last_of, first_here, first_later, none_some}

same_point : (p q : Point) → Some p ≡ Some q → p ≡ q
same_point p q e = cc

-- the points below a term: none, or this one and more
below_none : (p : Point) (ps : List Point) (t : ℕ) → t ≤ p.term → below_rank term_of t (p ∷ ps) ≡ []
below_none p ps t h = rw (le-ltb p.term t h) refl

below_more : (p : Point) (ps : List Point) (t : ℕ) → p.term < t → below_rank term_of t (p ∷ ps) ≡ p ∷ below_rank term_of t ps
below_more p ps t h = rw (lt-ltb p.term t h) refl

never_none : (P : Type 0) (p : Point) (ps : List Point) → None ≡ last_of (p ∷ ps) → P
never_none P p [] e = none_some P p e
never_none P p (q ∷ qs) e = never_none P q qs e

pub not_before : (ps : List Point) (t : ℕ) (q : Point) → Some q ≡ slice_get (from_rank term_of t ps) 0 → t ≤ q.term
not_before [] t q h = none_some _ q (sym h)
not_before (p ∷ ps) t q h =
    ⊎_elim (λ (l : p.term < t). not_before ps t q (h ∙ first_later p ps t l))
    (λ (l : t ≤ p.term). let e = same_point q p (h ∙ first_here p ps t l) in rw e l)
    (cases_lt p.term t)

last_after : (x : Point) (ps : List Point) (t : ℕ) (p : Point) → x.term < t → Some p ≡ last_of (x ∷ below_rank term_of t ps) → p.term < t
last_after x [] t p l h = let e = same_point p x h in rw e l
last_after x (y ∷ ys) t p l h =
    ⊎_elim (λ (k : y.term < t). last_after y ys t p k (h ∙ ap (λ zs. last_of (x ∷ zs)) (below_more y ys t k)))
    (λ (k : t ≤ y.term). let e = same_point p x (h ∙ ap (λ zs. last_of (x ∷ zs)) (below_none y ys t k)) in rw e l)
    (cases_lt y.term t)

pub last_below : (ps : List Point) (t : ℕ) (p : Point) → Some p ≡ last_of (below_rank term_of t ps) → p.term < t
last_below [] t p h = none_some _ p (sym h)
last_below (x ∷ xs) t p h =
    ⊎_elim (λ (k : x.term < t). last_after x xs t p k (h ∙ ap last_of (below_more x xs t k)))
    (λ (k : t ≤ x.term). none_some _ p (sym (h ∙ ap last_of (below_none x xs t k))))
    (cases_lt x.term t)

-- past a point x, at the term of the next one
slope_at : (x : Point) (ps : List Point) (t : ℕ) (q : Point) → Some q ≡ slice_get (from_rank term_of t ps) 0 → q.term ≡ t → slope_after x ps t ≡ q.rate.basis_points
slope_at x [] t q h e = none_some _ q (sym h)
slope_at x (y ∷ ys) t q h e =
    ⊎_elim
    (λ (k : y.term < t). rw (le-ltb t y.term (omega arith), ne_eqb t y.term (λ z. omega arith)) (slope_at y ys t q (h ∙ first_later y ys t k) e))
    (λ (k : t ≤ y.term).
    let s = same_point q y (h ∙ first_here y ys t k) in
    let z : t ≡ y.term = sym e ∙ ap (λ p. p.term) s in
    rw (le-ltb t y.term (omega arith), eq-eqb t y.term z) (ap (λ p. p.rate.basis_points) (sym s)))
    (cases_lt y.term t)

pub at_point : (ps : List Point) (t : ℕ) (q : Point) → Some q ≡ slice_get (from_rank term_of t ps) 0 → q.term ≡ t → sloping_rate ps t ≡ q.rate.basis_points
at_point [] t q h e = none_some _ q (sym h)
at_point (p ∷ ps) t q h e =
    ⊎_elim (λ (k : p.term < t). rw (lt-leb t p.term k) (slope_at p ps t q (h ∙ first_later p ps t k) e))
    (λ (k : t ≤ p.term). let s = same_point q p (h ∙ first_here p ps t k) in rw (le-leb t p.term k) (ap (λ x. x.rate.basis_points) (sym s)))
    (cases_lt p.term t)

pub before_first : (ps : List Point) (t : ℕ) (q : Point) → None ≡ last_of (below_rank term_of t ps) → Some q ≡ slice_get (from_rank term_of t ps) 0 → sloping_rate ps t ≡ q.rate.basis_points
before_first [] t q n h = none_some _ q (sym h)
before_first (p ∷ ps) t q n h =
    ⊎_elim (λ (k : p.term < t). never_none _ p (below_rank term_of t ps) (n ∙ ap last_of (below_more p ps t k)))
    (λ (k : t ≤ p.term). let s = same_point q p (h ∙ first_here p ps t k) in rw (le-leb t p.term k) (ap (λ x. x.rate.basis_points) (sym s)))
    (cases_lt p.term t)

-- past a point x, below the next one
slope_between : (x : Point) (ps : List Point) (t : ℕ) (p q : Point) → Some p ≡ last_of (x ∷ below_rank term_of t ps) → Some q ≡ slice_get (from_rank term_of t ps) 0 → t < q.term → slope_after x ps t ≡ rate_between p q t
slope_between x [] t p q h f l = none_some _ q (sym f)
slope_between x (y ∷ ys) t p q h f l =
    ⊎_elim
    (λ (k : y.term < t).
    rw (le-ltb t y.term (omega arith), ne_eqb t y.term (λ z. omega arith))
    (slope_between y ys t p q (h ∙ ap (λ zs. last_of (x ∷ zs)) (below_more y ys t k)) (f ∙ first_later y ys t k) l))
    (λ (k : t ≤ y.term).
    let s = same_point q y (f ∙ first_here y ys t k) in
    let r = same_point p x (h ∙ ap (λ zs. last_of (x ∷ zs)) (below_none y ys t k)) in
    let m = ap (λ u. u.term) s in
    rw (lt-ltb t y.term (omega arith)) (ap (λ u. rate_between u y t) (sym r) ∙ ap (λ u. rate_between p u t) (sym s)))
    (cases_lt y.term t)

pub between_points : (ps : List Point) (t : ℕ) (p q : Point) → Some p ≡ last_of (below_rank term_of t ps) → Some q ≡ slice_get (from_rank term_of t ps) 0 → t < q.term → sloping_rate ps t ≡ rate_between p q t
between_points [] t p q h f l = none_some _ q (sym f)
between_points (x ∷ xs) t p q h f l =
    ⊎_elim (λ (k : x.term < t). rw (lt-leb t x.term k) (slope_between x xs t p q (h ∙ ap last_of (below_more x xs t k)) (f ∙ first_later x xs t k) l))
    (λ (k : t ≤ x.term). none_some _ p (sym (h ∙ ap last_of (below_none x xs t k))))
    (cases_lt x.term t)
