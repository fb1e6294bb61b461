-- Points that ascend, passed up to the first one from a term on.
use Rattle.std.proofs.Common.{ℕ, zero, suc, ◌<◌, ◌≤◌, List, [], ◌∷◌, length, get_or, refl, ap, arith}
use Rattle.std.proofs.lemmas.Bool.{lt-ltb, le-ltb}
use Rattle.register.specs.Search.{SplitsAt}
use Rattle.curve.specs.declared.point.Point.{Point}
use Rattle.curve.proofs.TermPlaces.{term_of}

-- the points before a place are below a term
abbrev pub Below : List Point → ℕ → ℕ → Type 0
Below ps at t = (k : ℕ) (d : Point) → k < at → term_of (get_or ps k d) < t

-- the place where the points below a term end parts them from the others
pub parts_at : (ps : List Point) (at t : ℕ) → at ≤ length ps → Below ps at t → (at < length ps → (d : Point) × (t ≤ term_of (get_or ps at d))) → SplitsAt term_of t ps at
parts_at [] zero t l low high = record { below = refl; from = refl }
parts_at [] (suc at) t l low high = absurd (omega arith)
parts_at (p ∷ ps) zero t l low high =
    let e = le-ltb p.term t ((high (omega arith)).1) in
    record { below = rw e; from = rw e }
parts_at (p ∷ ps) (suc at) t l low high =
    let e = lt-ltb p.term t (low 0 p (omega arith)) in
    let r = parts_at ps at t (omega arith) (λ k e m. low (suc k) e (omega arith)) (λ m. high (omega arith)) in
    record { below = rw e (ap (λ qs. p ∷ qs) r.below); from = rw e r.from }
