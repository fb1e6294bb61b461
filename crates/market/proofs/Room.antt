-- Ranks that ascend within limits leave room for one that is absent.
use Rattle.std.proofs.Common.{◌≡◌, ℕ, suc, ◌+◌, ◌<◌, ◌≤◌, Bool, true, false, cond, eqb, ltb, List, [], ◌∷◌, length, get_or, ⊎_elim, Ok, Err, Result, refl, sym, ◌∙◌, arith}
use Rattle.std.proofs.lemmas.Bool.{cases_lt, cases_Bool, true≢false, eqb-false, lt-ltb}
use Rattle.quantities.specs.declared.refusal.Refusal.{Refusal}
use Rattle.quantities.specs.declared.refusal.Refusal.TheVariants.{KeyPresent, Full}
use Rattle.quantities.specs.declared.tranche.Tranche.{Tranche}
use Rattle.quantities.specs.declared.tranche.Tranche.TheVariants.{UpToOneYear, UpToThreeYears, UpToFiveYears, UpToTenYears, UpToTwentyYears, OverTwentyYears}
use Rattle.quantities.specs.Tranches.{tranche_number}
use Rattle.register.specs.Changes.{insert_answer}
use Rattle.register.specs.Keys.{Ascends, has_rank}
use Rattle.market.specs.declared.percentage.Percentage.{Percentage}
use Rattle.market.specs.Records.{percentage_rank}

module _ {X : Type 0} (f : X → ℕ) where
  -- the first rank, if there is one, is not below low
  abbrev From : ℕ → List X → Type 0
  From low xs = (d : X) → 0 < length xs → low ≤ f (get_or xs 0 d)

  tail_ascends : (x : X) (xs : List X) → Ascends f (x ∷ xs) → Ascends f xs
  tail_ascends x xs up k d h = let e : suc k + 1 ≡ suc (k + 1) = omega arith in (rw e at (up (suc k) d (omega arith)))

  tail_from : (x : X) (xs : List X) → Ascends f (x ∷ xs) → From (f x + 1) xs
  tail_from x xs up d l = let h = up 0 d (omega arith) in omega arith

  module _ (high : ℕ) (within : (x : X) → f x ≤ high) where
    as_many : (xs : List X) (low : ℕ) → low ≤ high + 1 → Ascends f xs → From low xs → low + length xs ≤ high + 1
    as_many [] low l up from = omega arith
    as_many (x ∷ xs) low l up from =
        let w = within x in
        let b = from x (omega arith) in
        let n = as_many xs (f x + 1) (omega arith) (tail_ascends x xs up) (tail_from x xs up) in
        omega arith

    pub one_fewer : (xs : List X) (low k : ℕ) → low ≤ k → k ≤ high → Ascends f xs → From low xs → has_rank f k xs ≡ false → low + length xs ≤ high
    one_fewer [] low k l m up from absent = omega arith
    one_fewer (x ∷ xs) low k l m up from absent =
        let b = from x (omega arith) in
        ⊎_elim
        (λ (e : eqb (f x) k ≡ true). absurd (true≢false (rw e at absent)))
        (λ (e : eqb (f x) k ≡ false). ⊎_elim
        (λ (o : f x < k).
        let n = one_fewer xs (f x + 1) k (omega arith) m (tail_ascends x xs up) (tail_from x xs up) (rw e at absent) in
        omega arith)
        (λ (o : k ≤ f x).
        let w = within x in
        let n = as_many xs (f x + 1) (omega arith) (tail_ascends x xs up) (tail_from x xs up) in
        omega (arith, eqb-false (f x) k e))
        (cases_lt (f x) k))
        (cases_Bool (eqb (f x) k))

six : (t : Tranche) → (1 ≤ tranche_number t) × (tranche_number t ≤ 6)
six UpToOneYear = (omega arith, omega arith)
six UpToThreeYears = (omega arith, omega arith)
six UpToFiveYears = (omega arith, omega arith)
six UpToTenYears = (omega arith, omega arith)
six UpToTwentyYears = (omega arith, omega arith)
six OverTwentyYears = (omega arith, omega arith)

-- six places suffice for the percentages of six tranches
place_free : (room k : ℕ) (p : Percentage) (xs : List Percentage) → room ≡ 6 → percentage_rank p ≡ k → Ascends percentage_rank xs → has_rank percentage_rank k xs ≡ false → length xs < room
place_free room k p xs e r up absent =
    let b = six p.tranche in
    let n = one_fewer percentage_rank 6 (λ q. (six q.tranche).1) xs 1 k (omega arith) (omega arith) up (λ d _. (six (get_or xs 0 d).tranche).0) absent in
    omega arith

pub not_full : (room : ℕ) (p : Percentage) (xs : List Percentage) (a : Result (Unit {0}) Refusal) → room ≡ 6 → Ascends percentage_rank xs → a ≡ insert_answer percentage_rank room p xs → a ≡ Err Full → ⊥
not_full room p xs a six up is full = go (has_rank percentage_rank (percentage_rank p) xs) refl (sym full ∙ is)
  where
    go : (present : Bool) → has_rank percentage_rank (percentage_rank p) xs ≡ present → ◌≡◌ {A = Result (Unit {0}) Refusal} (Err Full) (cond present (Err KeyPresent) (cond (ltb (length xs) room) (Ok tt) (Err Full))) → ⊥
    go true e h = cc
    go false e h = let free = lt-ltb (length xs) room (place_free room (percentage_rank p) p xs six refl up e) in (let z = rw free at h in cc)
