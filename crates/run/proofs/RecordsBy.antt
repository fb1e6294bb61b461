-- Records that are put in by their ranks, one after another: what their ranks find, and what is true of each.
use Rattle.std.proofs.Common.{◌≡◌, ℕ, zero, suc, ◌<◌, true, false, eqb, ltb, List, [], ◌∷◌, length, get_or, Some, sym, refl, ap, ◌∙◌, subst, ⊎_elim, arith}
use Rattle.std.proofs.lemmas.Bool.{true≢false, both_ways, cases_Bool, cond_both, eq-eqb, ne_eqb, eqb-true, eqb-false}
use Rattle.std.specs.List.{Contains, AllByRecursion as All}
use Rattle.register.specs.Keys.{has_rank, found_by, inserted_by}
use Rattle.register.proofs.Found.{found_inserted, others_inserted}
use Rattle.account.proofs.Sorted.{absent_inserted, all_inserted, Rises, rises_inserted}
use Rattle.run.specs.Laws.{records_with}
use Rattle.run.proofs.RecordsOfRows.{later, absent, all_apart}

module _ {X : Type 0} (f : X → ℕ) where
  -- no rank stands twice
  abbrev pub Distinct : List X → Type 0
  Distinct [] = Unit {0}
  Distinct (x ∷ xs) = (has_rank f (f x) xs ≡ false) × Distinct xs

  -- none of the ranks stands among others
  abbrev pub AreNew : List X → List X → Type 0
  AreNew before xs = All (λ x. has_rank f (f x) before ≡ false) xs

  pub rank_apart : (k : ℕ) (y : X) (xs : List X) → has_rank f k (y ∷ xs) ≡ false → (eqb (f y) k ≡ false) × (has_rank f k xs ≡ false)
  rank_apart k y xs h = ⊎_elim
      (λ (q : eqb (f y) k ≡ true). absurd (true≢false (rw q at h)))
      (λ (q : eqb (f y) k ≡ false). (q, rw q at h))
      (cases_Bool (eqb (f y) k))

  -- a record that stands there has its rank there
  pub rank_there : (x : X) (xs : List X) → Contains xs x → has_rank f (f x) xs ≡ true
  rank_there x xs c = go xs c.0 c.1 c.2
    where
      go : (ys : List X) (k : ℕ) → k < length ys → get_or ys k x ≡ x → has_rank f (f x) ys ≡ true
      go [] k l e = absurd (omega arith)
      go (y ∷ ys) zero l e = rw (eq-eqb (f y) (f x) (ap f e)) refl
      go (y ∷ ys) (suc k) l e = ⊎_elim
          (λ (q : eqb (f y) (f x) ≡ true). rw q refl)
          (λ (q : eqb (f y) (f x) ≡ false). rw q (go ys k (omega arith) e))
          (cases_Bool (eqb (f y) (f x)))

  -- ---- after one insertion
  pub new_inserted : (k : ℕ) (x : X) (xs : List X) → has_rank f k (inserted_by f x xs) ≡ false → (eqb (f x) k ≡ false) × (has_rank f k xs ≡ false)
  new_inserted k x [] h = rank_apart k x [] h
  new_inserted k x (y ∷ ys) h =
      cond_both (ltb (f x) (f y)) (x ∷ (y ∷ ys)) (y ∷ inserted_by f x ys) (λ zs. has_rank f k zs ≡ false → (eqb (f x) k ≡ false) × (has_rank f k (y ∷ ys) ≡ false))
      (λ e h. rank_apart k x (y ∷ ys) h)
      (λ e h. let p = rank_apart k y (inserted_by f x ys) h in let q = new_inserted k x ys p.1 in (q.0, rw (p.0, q.1) refl))
      h

  pub of_inserted : (P : X → Type 0) (x : X) (xs : List X) → All P (inserted_by f x xs) → P x × All P xs
  of_inserted P x [] a = a
  of_inserted P x (y ∷ ys) a =
      cond_both (ltb (f x) (f y)) (x ∷ (y ∷ ys)) (y ∷ inserted_by f x ys) (λ zs. All P zs → P x × All P (y ∷ ys))
      (λ e a. a)
      (λ e a. let p = of_inserted P x ys a.1 in (p.0, (a.0, p.1)))
      a

  -- ranks that are new beside one more are new, and are none of them its rank
  pub still_apart : (x : X) (before xs : List X) → AreNew (inserted_by f x before) xs → (has_rank f (f x) xs ≡ false) × AreNew before xs
  still_apart x before [] a = (refl, tt)
  still_apart x before (y ∷ ys) a =
      let p = new_inserted (f y) x before a.0 in
      let q = still_apart x before ys a.1 in
      (rw (ne_eqb (f y) (f x) (λ e. eqb-false (f x) (f y) p.0 (sym e)), q.0) refl, (p.1, q.1))

  -- and the other way
  pub new_beside : (x : X) (before xs : List X) → has_rank f (f x) xs ≡ false → AreNew before xs → AreNew (inserted_by f x before) xs
  new_beside x before [] h a = tt
  new_beside x before (y ∷ ys) h a =
      let p = rank_apart (f x) y ys h in
      (absent_inserted f (f y) x before (ne_eqb (f x) (f y) (λ e. eqb-false (f y) (f x) p.0 (sym e))) a.0, new_beside x before ys p.1 a.1)

  pub new_to_none : (xs : List X) → AreNew [] xs
  new_to_none [] = tt
  new_to_none (x ∷ xs) = (refl, new_to_none xs)

  -- ---- after all of them
  pub all_with : (P : X → Type 0) (before xs : List X) → All P before → All P xs → All P (records_with f before xs)
  all_with P before [] a b = a
  all_with P before (x ∷ xs) a b = all_with P (inserted_by f x before) xs (all_inserted f P x before b.0 a) b.1

  pub of_all_with : (P : X → Type 0) (before xs : List X) → All P (records_with f before xs) → All P before × All P xs
  of_all_with P before [] a = (a, tt)
  of_all_with P before (x ∷ xs) a =
      let p = of_all_with P (inserted_by f x before) xs a in
      let q = of_inserted P x before p.0 in
      (q.1, (q.0, p.1))

  pub rises_with : (before xs : List X) → Rises f before → Distinct xs → AreNew before xs → Rises f (records_with f before xs)
  rises_with before [] r d n = r
  rises_with before (x ∷ xs) r d n =
      let apart = all_apart f x before (λ y m e. absent f (f x) before y n.0 m e) in
      rises_with (inserted_by f x before) xs (rises_inserted f x before apart r) d.1 (new_beside x before xs d.0 n.1)

  others_with : (before xs : List X) (k : ℕ) → has_rank f k xs ≡ false → found_by f k (records_with f before xs) ≡ found_by f k before
  others_with before [] k h = refl
  others_with before (x ∷ xs) k h =
      let p = rank_apart k x xs h in
      others_with (inserted_by f x before) xs k p.1 ∙ others_inserted f x before k (λ e. eqb-false (f x) k p.0 (sym e))

  -- a record is found by its rank, where no rank stands twice
  pub found_with : (x : X) (before xs : List X) → Distinct xs → Contains xs x → has_rank f (f x) before ≡ false → found_by f (f x) (records_with f before xs) ≡ Some x
  found_with x before xs d c n = go before xs c.0 d c.1 c.2 n
    where
      go : (before ys : List X) (k : ℕ) → Distinct ys → k < length ys → get_or ys k x ≡ x → has_rank f (f x) before ≡ false → found_by f (f x) (records_with f before ys) ≡ Some x
      go before [] k d l e n = absurd (omega arith)
      go before (y ∷ ys) zero d l e n =
          subst (λ z. has_rank f (f z) before ≡ false → found_by f (f z) (records_with f before (y ∷ ys)) ≡ Some z) e
          (λ n. others_with (inserted_by f y before) ys (f y) d.0 ∙ found_inserted f y before n) n
      go before (y ∷ ys) (suc k) d l e n =
          let there = rank_there x ys (k, omega arith, e) in
          let apart : eqb (f y) (f x) ≡ false = ne_eqb (f y) (f x) (λ q. both_ways (has_rank f (f x) ys) (ap (λ m. has_rank f m ys) (sym q) ∙ d.0) there) in
          go (inserted_by f y before) ys k d.1 (omega arith) e (absent_inserted f (f x) y before apart n)

  -- a rank that is found is that of one of them
  pub rank_among : (before xs : List X) (k : ℕ) → has_rank f k (records_with f before xs) ≡ true → has_rank f k before ≡ false → (x : X) × (Contains xs x × (f x ≡ k))
  rank_among before [] k h n = absurd (both_ways (has_rank f k before) n h)
  rank_among before (x ∷ xs) k h n = ⊎_elim
      (λ (q : eqb (f x) k ≡ true). (x, ((0, omega arith, refl), eqb-true (f x) k q)))
      (λ (q : eqb (f x) k ≡ false).
      let r = rank_among (inserted_by f x before) xs k h (absent_inserted f k x before q n) in
      (r.0, (later x r.0 xs r.1.0, r.1.1)))
      (cases_Bool (eqb (f x) k))
