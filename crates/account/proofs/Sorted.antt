-- Records put in by a rank, one after another: the order in which they come does not matter.
use Rattle.std.proofs.Common.{◌≡◌, ℕ, zero, suc, ◌<◌, ◌≤◌, Bool, true, false, cond, eqb, ltb, List, [], ◌∷◌, length, sym, refl, ap, ⊎_elim, arith}
use Rattle.std.proofs.lemmas.Bool.{true≢false, cases_Bool, cases_order, cond_both, lt-ltb, le-ltb, ltb-true, ltb-false}
use Rattle.std.specs.List.{AllByRecursion as All}
use Rattle.std.proofs.ByRecursion.{All-weaker, All-from_get_or}
use native.Mathlib.Numerals.{unary_clauses}
use Rattle.register.specs.Keys.{Ascends, has_rank, inserted_by, without}
use Rattle.register.proofs.Ascending.{far}
use Rattle.account.specs.Lines.{keep}

module _ {X : Type 0} (f : X → ℕ) where
  pub inserted_long : (x : X) (xs : List X) → length (inserted_by f x xs) ≡ suc (length xs)
  inserted_long x [] = refl
  inserted_long x (y ∷ ys) =
      cond_both (ltb (f x) (f y)) (x ∷ (y ∷ ys)) (y ∷ inserted_by f x ys) (λ zs. length zs ≡ suc (suc (length ys))) (λ e. refl) (λ e. ap suc (inserted_long x ys))

  -- ---- of records of two ranks either may come first
  below_swapped : (a b : X) (xs : List X) → f a < f b → inserted_by f a (inserted_by f b xs) ≡ inserted_by f b (inserted_by f a xs)
  below_swapped a b [] l = rw (lt-ltb (f a) (f b) l, le-ltb (f b) (f a) (omega arith)) refl
  below_swapped a b (x ∷ xs) l = ⊎_elim
      (λ (q : ltb (f b) (f x) ≡ true). rw (q, lt-ltb (f a) (f b) l, lt-ltb (f a) (f x) (omega (arith, ltb-true _ _ q)), le-ltb (f b) (f a) (omega arith), q) refl)
      (λ (q : ltb (f b) (f x) ≡ false). ⊎_elim
      (λ (p : ltb (f a) (f x) ≡ true). rw (q, p, le-ltb (f b) (f a) (omega arith), q) refl)
      (λ (p : ltb (f a) (f x) ≡ false). rw (q, p, q) (ap (λ zs. x ∷ zs) (below_swapped a b xs l)))
      (cases_Bool (ltb (f a) (f x))))
      (cases_Bool (ltb (f b) (f x)))

  pub swapped : (a b : X) (xs : List X) → (f a ≡ f b → ⊥) → inserted_by f a (inserted_by f b xs) ≡ inserted_by f b (inserted_by f a xs)
  swapped a b xs apart = ⊎_elim (λ e. absurd (apart e)) (⊎_elim (below_swapped a b xs) (λ l. sym (below_swapped b a xs l))) (cases_order (f a) (f b))

  -- ---- what is true of each
  pub all_inserted : (P : X → Type 0) (x : X) (xs : List X) → P x → All P xs → All P (inserted_by f x xs)
  all_inserted P x [] p a = (p, tt)
  all_inserted P x (y ∷ ys) p a = cond_both (ltb (f x) (f y)) (x ∷ (y ∷ ys)) (y ∷ inserted_by f x ys) (All P) (λ e. (p, a)) (λ e. (a.0, all_inserted P x ys p a.1))

  all_without : (P : X → Type 0) (k : ℕ) (xs : List X) → All P xs → All P (without f k xs)
  all_without P k [] a = tt
  all_without P k (x ∷ xs) a = cond_both (eqb (f x) k) (without f k xs) (x ∷ without f k xs) (All P) (λ e. all_without P k xs a.1) (λ e. (a.0, all_without P k xs a.1))

  -- ranks that rise weakly, and strictly
  abbrev pub Sorted : List X → Type 0
  Sorted [] = Unit {0}
  Sorted (x ∷ xs) = All (λ y. f x ≤ f y) xs × Sorted xs

  abbrev pub Rises : List X → Type 0
  Rises [] = Unit {0}
  Rises (x ∷ xs) = All (λ y. f x < f y) xs × Rises xs

  pub rises : (xs : List X) → Ascends f xs → Rises xs
  rises [] up = tt
  rises (x ∷ xs) up = (
    All-from_get_or (λ y. f x < f y) xs x (λ i h. far f (x ∷ xs) up 0 (suc i) x (omega arith) (omega arith)),
    rises xs (λ k d h. simp unary_clauses (simp unary_clauses at (up (suc k) d (omega arith)))),
  )

  pub ascends : (xs : List X) → Rises xs → Ascends f xs
  ascends [] r k d h = absurd (omega arith)
  ascends (x ∷ []) r k d h = absurd (omega arith)
  ascends (x ∷ (y ∷ ys)) r zero d h = r.0.0
  ascends (x ∷ (y ∷ ys)) r (suc k) d h = simp unary_clauses (simp unary_clauses at (ascends (y ∷ ys) r.1 k d (omega arith)))

  pub rises_inserted : (x : X) (xs : List X) → All (λ y. f x ≡ f y → ⊥) xs → Rises xs → Rises (inserted_by f x xs)
  rises_inserted x [] n r = (tt, tt)
  rises_inserted x (y ∷ ys) n r =
      cond_both (ltb (f x) (f y)) (x ∷ (y ∷ ys)) (y ∷ inserted_by f x ys) Rises
      (λ e. let l = ltb-true (f x) (f y) e in ((l, All-weaker (λ z. f y < f z) (λ z. f x < f z) (λ z h. omega arith) ys r.0), r))
      (λ e. (all_inserted (λ z. f y < f z) x ys (let l = ltb-false (f x) (f y) e in let ne = n.0 in omega (arith, l, ne)) r.0, rises_inserted x ys n.1 r.1))

  pub rises_without : (k : ℕ) (xs : List X) → Rises xs → Rises (without f k xs)
  rises_without k [] r = tt
  rises_without k (x ∷ xs) r =
      cond_both (eqb (f x) k) (without f k xs) (x ∷ without f k xs) Rises (λ e. rises_without k xs r.1) (λ e. (all_without (λ y. f x < f y) k xs r.0, rises_without k xs r.1))

  pub sorted_inserted : (x : X) (xs : List X) → Sorted xs → Sorted (inserted_by f x xs)
  sorted_inserted x [] s = (tt, tt)
  sorted_inserted x (y ∷ ys) s =
      cond_both (ltb (f x) (f y)) (x ∷ (y ∷ ys)) (y ∷ inserted_by f x ys) Sorted
      (λ e. let l = ltb-true (f x) (f y) e in ((omega arith, All-weaker (λ z. f y ≤ f z) (λ z. f x ≤ f z) (λ z h. omega arith) ys s.0), s))
      (λ e. (all_inserted (λ z. f y ≤ f z) x ys (ltb-false (f x) (f y) e) s.0, sorted_inserted x ys s.1))

  -- ---- the records without a rank
  pub gone_inserted : (k : ℕ) (x : X) (xs : List X) → eqb (f x) k ≡ true → without f k (inserted_by f x xs) ≡ without f k xs
  gone_inserted k x [] e = rw e refl
  gone_inserted k x (y ∷ ys) e = ⊎_elim
      (λ (q : ltb (f x) (f y) ≡ true). rw (q, e) refl)
      (λ (q : ltb (f x) (f y) ≡ false). rw q (ap (λ zs. cond (eqb (f y) k) zs (y ∷ zs)) (gone_inserted k x ys e)))
      (cases_Bool (ltb (f x) (f y)))

  -- a record of a lower rank than all comes first
  comes_first : (x : X) (xs : List X) → All (λ y. f x < f y) xs → inserted_by f x xs ≡ x ∷ xs
  comes_first x [] a = refl
  comes_first x (y ∷ ys) a = rw (lt-ltb (f x) (f y) a.0) refl

  pub kept_inserted : (k : ℕ) (x : X) (xs : List X) → Sorted xs → eqb (f x) k ≡ false → without f k (inserted_by f x xs) ≡ inserted_by f x (without f k xs)
  kept_inserted k x [] s e = rw e refl
  kept_inserted k x (y ∷ ys) s e = ⊎_elim
      (λ (q : ltb (f x) (f y) ≡ true).
      let l = ltb-true (f x) (f y) q in
      let above : All (λ z. f x < f z) (y ∷ ys) = (l, All-weaker (λ z. f y ≤ f z) (λ z. f x < f z) (λ z h. omega arith) ys s.0) in
      rw (q, e) (sym (comes_first x (without f k (y ∷ ys)) (all_without (λ z. f x < f z) k (y ∷ ys) above))))
      (λ (q : ltb (f x) (f y) ≡ false). ⊎_elim
      (λ (g : eqb (f y) k ≡ true). rw (q, g) (kept_inserted k x ys s.1 e))
      (λ (g : eqb (f y) k ≡ false). rw (q, g, q) (ap (λ zs. y ∷ zs) (kept_inserted k x ys s.1 e)))
      (cases_Bool (eqb (f y) k)))
      (cases_Bool (ltb (f x) (f y)))

  -- ---- whether a record has a rank
  pub absent_inserted : (k : ℕ) (x : X) (xs : List X) → eqb (f x) k ≡ false → has_rank f k xs ≡ false → has_rank f k (inserted_by f x xs) ≡ false
  absent_inserted k x [] e h = rw e refl
  absent_inserted k x (y ∷ ys) e h = ⊎_elim
      (λ (g : eqb (f y) k ≡ true). absurd (true≢false (rw g at h)))
      (λ (g : eqb (f y) k ≡ false).
      cond_both (ltb (f x) (f y)) (x ∷ (y ∷ ys)) (y ∷ inserted_by f x ys) (λ zs. has_rank f k zs ≡ false) (λ q. rw e h) (λ q. rw g (absent_inserted k x ys e (rw g at h))))
      (cases_Bool (eqb (f y) k))

  -- ---- those that pass a test
  pub test_failed : (p : X → Bool) (x : X) (xs : List X) → p x ≡ false → keep p (inserted_by f x xs) ≡ keep p xs
  test_failed p x [] e = rw e refl
  test_failed p x (y ∷ ys) e = ⊎_elim
      (λ (q : ltb (f x) (f y) ≡ true). rw (q, e) refl)
      (λ (q : ltb (f x) (f y) ≡ false). rw q (ap (λ zs. cond (p y) (y ∷ zs) zs) (test_failed p x ys e)))
      (cases_Bool (ltb (f x) (f y)))

  pub test_passed : (p : X → Bool) (x : X) (xs : List X) → p x ≡ true → All (λ y. p y ≡ true → f x < f y) xs → keep p (inserted_by f x xs) ≡ x ∷ keep p xs
  test_passed p x [] e a = rw e refl
  test_passed p x (y ∷ ys) e a = ⊎_elim
      (λ (q : ltb (f x) (f y) ≡ true). rw (q, e) refl)
      (λ (q : ltb (f x) (f y) ≡ false). ⊎_elim
      (λ (g : p y ≡ true). let l = a.0 g in let h = ltb-false (f x) (f y) q in absurd (omega arith))
      (λ (g : p y ≡ false). rw (q, g) (test_passed p x ys e a.1))
      (cases_Bool (p y)))
      (cases_Bool (ltb (f x) (f y)))
