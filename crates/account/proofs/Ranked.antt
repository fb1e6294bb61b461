-- Lines that ascend by ISIN: a search for the rank of one.
use Rattle.std.proofs.Common.{◌≡◌, ℕ, zero, suc, ◌+◌, ◌-◌, ◌<◌, ◌≤◌, true, false, eqb, ltb, List, [], ◌∷◌, length, get_or, take, drop, Ok, Err, sym, ap, ◌∙◌, subst, ⊎_elim, length-drop, arith}
use Rattle.std.proofs.lemmas.Bool.{true≢false, cases_Bool, cases_eq, cases_lt, cond_both, eq-eqb, eqb-true, lt-ltb, le-ltb, ltb-true, ltb-false}
use Rattle.std.proofs.lemmas.List.{length-take-le, get_or-take, get_or-drop}
use Rattle.std.proofs.ByRecursion.{All-weaker, All-get_or}
use Rattle.std.specs.List.{AllByRecursion as All}
use Rattle.register.specs.Keys.{Ascends, has_rank, below_rank, from_rank}
use Rattle.register.specs.Search.{SplitsAt, IsPlace}
use Rattle.register.proofs.Ascending.{far, parted, placed_hit, placed_miss}
use Rattle.account.proofs.Sorted.{Rises, rises}

module _ {X : Type 0} (f : X → ℕ) (n : ℕ) (xs : List X) where
  -- where the records ascend, the ranks below low are lower than n, and those from high on are not
  pub record Searched (low high : ℕ) : Type 0 where
    pub order : low ≤ high
    pub within : high ≤ length xs
    pub below : Ascends f xs → (k : ℕ) (d : X) → k < low → f (get_or xs k d) < n
    pub above : Ascends f xs → (k : ℕ) (d : X) → high ≤ k → k < length xs → n ≤ f (get_or xs k d)

  pub searched_none : Searched 0 (length xs)
  searched_none = record { order = omega arith; within = omega arith; below = λ up k d l. absurd (omega arith); above = λ up k d l m. absurd (omega arith) }

  module _ (low high m : ℕ) (s : Searched low high) (l : low ≤ m) (h : m < high) where
    pub searched_up : ((d : X) → f (get_or xs m d) < n) → Searched (m + 1) high
    searched_up here =
        let w = s.within in
        record {
          order = omega arith;
          within = s.within;
          below = λ up k d b. ⊎_elim (λ (e : k ≡ m). rw e (here d)) (λ ne. let u = far f xs up k m d (omega (arith, ne)) (omega arith) in let v = here d in omega arith) (cases_eq k m);
          above = s.above;
        }

    pub searched_down : ((d : X) → n ≤ f (get_or xs m d)) → Searched low m
    searched_down here =
        let w = s.within in
        record {
          order = l;
          within = omega arith;
          below = s.below;
          above = λ up k d b c. ⊎_elim (λ (e : k ≡ m). rw e (here d)) (λ ne. let u = far f xs up m k d (omega (arith, ne)) c in let v = here d in omega arith) (cases_eq k m);
        }

  pub searched_all : (p high : ℕ) → high ≤ p → Searched p high → Ascends f xs → SplitsAt f n xs p
  searched_all p high l s up = let w = s.within in let o = s.order in parted f n xs p (omega arith) (s.below up) (λ k d m c. s.above up k d (omega arith) c)

-- ---- where a rank is absent or present, the place that a search has found
module _ {X : Type 0} (f : X → ℕ) (n : ℕ) where
  low_below : (xs : List X) → All (λ x. f x < n) (below_rank f n xs)
  low_below [] = tt
  low_below (x ∷ xs) = cond_both (ltb (f x) n) (x ∷ below_rank f n xs) [] (All (λ y. f y < n)) (λ e. (ltb-true (f x) n e, low_below xs)) (λ e. tt)

  high_from : (xs : List X) → Rises f xs → All (λ x. n ≤ f x) (from_rank f n xs)
  high_from [] up = tt
  high_from (x ∷ xs) up =
      cond_both (ltb (f x) n) (from_rank f n xs) (x ∷ xs) (All (λ y. n ≤ f y)) (λ e. high_from xs up.1)
      (λ e. let l = ltb-false (f x) n e in (l, All-weaker (λ y. f x < f y) (λ y. n ≤ f y) (λ y u. omega arith) xs up.0))

  absent_at : (xs : List X) (k : ℕ) (d : X) → k < length xs → has_rank f n xs ≡ false → f (get_or xs k d) ≡ n → ⊥
  absent_at [] k d l h e = absurd (omega arith)
  absent_at (x ∷ xs) zero d l h e = let q = eq-eqb (f x) n e in true≢false (rw q at h)
  absent_at (x ∷ xs) (suc k) d l h e = ⊎_elim
      (λ (q : eqb (f x) n ≡ true). true≢false (rw q at h))
      (λ (q : eqb (f x) n ≡ false). absent_at xs k d (omega arith) (rw q at h) e)
      (cases_Bool (eqb (f x) n))

  present_at : (xs : List X) → has_rank f n xs ≡ true → (k : ℕ) × (k < length xs) × ((d : X) → f (get_or xs k d) ≡ n)
  present_at [] h = absurd (true≢false (sym h))
  present_at (x ∷ xs) h = ⊎_elim
      (λ (q : eqb (f x) n ≡ true). (0, omega arith, λ d. eqb-true (f x) n q))
      (λ (q : eqb (f x) n ≡ false). let r = present_at xs (rw q at h) in let l = r.1 in (suc r.0, omega arith, r.2))
      (cases_Bool (eqb (f x) n))

  module _ (xs : List X) (p : ℕ) (up : Ascends f xs) (l : p ≤ length xs) (s : SplitsAt f n xs p) where
    below : (k : ℕ) (d : X) → k < p → f (get_or xs k d) < n
    below k d h =
        let many = length-take-le p xs l in
        subst (λ x. f x < n) (get_or-take p xs k d h) (All-get_or (λ x. f x < n) (take p xs) k d (omega arith) (subst (All (λ x. f x < n)) (sym s.below) (low_below xs)))

    above : (k : ℕ) (d : X) → p ≤ k → k < length xs → n ≤ f (get_or xs k d)
    above k d h m =
        let rest = length-drop p xs in
        let e : p + (k - p) ≡ k = omega arith in
        subst (λ x. n ≤ f x) (get_or-drop p xs (k - p) d ∙ ap (λ j. get_or xs j d) e)
        (All-get_or (λ x. n ≤ f x) (drop p xs) (k - p) d (omega arith) (subst (All (λ x. n ≤ f x)) (sym s.from) (high_from xs (rises f xs up))))

    pub placed_absent : has_rank f n xs ≡ false → IsPlace f n xs (Err p)
    placed_absent h =
        placed_miss f n xs p up l (λ k d m o. lt-ltb _ n (below k d o), λ k d m o. le-ltb _ n (above k d m o))
        (λ m d o. let ne = absent_at xs p d m h in omega (arith, ne))

    pub placed_present : has_rank f n xs ≡ true → IsPlace f n xs (Ok p)
    placed_present h =
        let r = present_at xs h in
        go xs r.0 r.1 r.1 r.2
      where
        here : (k : ℕ) (d : X) → k < length xs → f (get_or xs k d) ≡ n → k ≡ p
        here k d m e = ⊎_elim
            (λ (b : k < p). let u = below k d b in absurd (omega arith))
            (λ (b : p ≤ k). ⊎_elim (λ (q : k ≡ p). q) (λ ne. let u = far f xs up p k d (omega (arith, ne)) m in let v = above p d (omega arith) (omega (arith, ne)) in absurd (omega arith)) (cases_eq k p))
            (cases_lt k p)

        go : (ys : List X) (k : ℕ) → k < length ys → k < length xs → ((d : X) → f (get_or xs k d) ≡ n) → IsPlace f n xs (Ok p)
        go [] k l m e = absurd (omega arith)
        go (y ∷ ys) k l m e = subst (λ q. IsPlace f n xs (Ok q)) (here k y m (e y)) (placed_hit f n xs k up m e)
