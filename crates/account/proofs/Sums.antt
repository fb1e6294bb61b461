-- Sums over lists. Two lists in which each element stands as often have one sum.
use Rattle.std.proofs.Common.{◌≡◌, ℕ, ◌+◌, ◌≤◌, Bool, true, false, cond, ◌⊎◌, List, [], ◌∷◌, ◌++◌, ℤ, pos, ◌+ℤ◌, ◌≤ℤ◌, sym, refl, ap, ◌∙◌, inl, inr, ⊎_elim, arith}
use Rattle.std.proofs.lemmas.Int.{ints}
use Rattle.std.proofs.lemmas.Bool.{cond_both}
use Rattle.account.specs.Lines.{keep, sum_of, sum_ℤ}

abbrev pub one_if : Bool → ℕ
one_if b = cond b 1 0

-- ---- of naturals
pub sum_zero : {X : Type 0} (xs : List X) → sum_of (λ (x : X). 0) xs ≡ 0
sum_zero [] = refl
sum_zero (x ∷ xs) = omega (arith, sum_zero xs)

pub sum_plus : {X : Type 0} (f g : X → ℕ) (xs : List X) → sum_of (λ x. f x + g x) xs ≡ sum_of f xs + sum_of g xs
sum_plus f g [] = refl
sum_plus f g (x ∷ xs) = omega (arith, sum_plus f g xs)

pub sum_joined : {X : Type 0} (f : X → ℕ) (xs ys : List X) → sum_of f (xs ++ ys) ≡ sum_of f xs + sum_of f ys
sum_joined f [] ys = omega arith
sum_joined f (x ∷ xs) ys = omega (arith, sum_joined f xs ys)

pub sum_le : {X : Type 0} (f g : X → ℕ) (xs : List X) → ((x : X) → f x ≤ g x) → sum_of f xs ≤ sum_of g xs
sum_le f g [] h = omega arith
sum_le f g (x ∷ xs) h = omega (arith, h x, sum_le f g xs h)

-- a sum over those that pass a test, by the first and the rest
pub sum_first : {X : Type 0} (f : X → ℕ) (p : X → Bool) (x : X) (xs : List X) → sum_of f (keep p (x ∷ xs)) ≡ cond (p x) (f x) 0 + sum_of f (keep p xs)
sum_first {X} f p x xs = go (p x)
  where
    go : (b : Bool) → sum_of f (cond b (x ∷ keep p xs) (keep p xs)) ≡ cond b (f x) 0 + sum_of f (keep p xs)
    go true = refl
    go false = omega arith

-- a sum of naturals, as one of integers
pub sum_pos : {X : Type 0} (f : X → ℕ) (xs : List X) → sum_ℤ (λ x. pos (f x)) xs ≡ pos (sum_of f xs)
sum_pos f [] = refl
sum_pos f (x ∷ xs) = ap (λ z. pos (f x) +ℤ z) (sum_pos f xs)

-- ---- of integers
pub sum_both : {X : Type 0} (f : X → ℤ) (xs ys : List X) → sum_ℤ f (xs ++ ys) ≡ sum_ℤ f xs +ℤ sum_ℤ f ys
sum_both f [] ys = omega (arith, ints)
sum_both f (x ∷ xs) ys = omega (arith, ints, sum_both f xs ys)

pub sum_kept : {X : Type 0} (f : X → ℤ) (p : X → Bool) (xs : List X) → sum_ℤ f (keep p xs) ≡ sum_ℤ (λ x. cond (p x) (f x) (pos 0)) xs
sum_kept f p [] = refl
sum_kept f p (x ∷ xs) = go (p x) (sum_kept f p xs)
  where
    go : (b : Bool) {z : ℤ} → sum_ℤ f (keep p xs) ≡ z → sum_ℤ f (cond b (x ∷ keep p xs) (keep p xs)) ≡ cond b (f x) (pos 0) +ℤ z
    go true e = ap (λ z. f x +ℤ z) e
    go false e = omega (arith, ints)

pub sum_at_most : {X : Type 0} (f g h : X → ℤ) → ((x : X) → f x ≤ℤ (g x +ℤ h x)) → (xs : List X) → sum_ℤ f xs ≤ℤ (sum_ℤ g xs +ℤ sum_ℤ h xs)
sum_at_most f g h le [] = record { le = tt }
sum_at_most f g h le (x ∷ xs) = omega (arith, ints, le x, sum_at_most f g h le xs)

-- ---- by how often each element stands
abbrev pub count : {X : Type 0} → (X → X → Bool) → X → List X → ℕ
count same x xs = sum_of (λ y. cond (same x y) 1 0) xs

-- the list without the first that is the same as y
abbrev less : {X : Type 0} → (X → X → Bool) → X → List X → List X
less same y [] = []
less same y (z ∷ zs) = cond (same y z) zs (z ∷ less same y zs)

module _ {X : Type 0} (same : X → X → Bool) (itself : (x : X) → same x x ≡ true) (alike : (x y z : X) → same x y ≡ true → same z x ≡ same z y) where
  taken_out : (f : X → ℤ) → ((x y : X) → same x y ≡ true → f x ≡ f y) → (y : X) (xs : List X) → 1 ≤ count same y xs → sum_ℤ f xs ≡ f y +ℤ sum_ℤ f (less same y xs)
  taken_out f kept y [] h = absurd (omega arith)
  taken_out f kept y (z ∷ zs) h =
      cond_both (same y z) zs (z ∷ less same y zs) (λ ws. f z +ℤ sum_ℤ f zs ≡ f y +ℤ sum_ℤ f ws) (λ e. ap (λ t. t +ℤ sum_ℤ f zs) (sym (kept y z e)))
      (λ e. omega (arith, ints, taken_out f kept y zs (omega (arith, ap one_if e))))

  counted_out : (x y : X) (xs : List X) → 1 ≤ count same y xs → count same x xs ≡ cond (same x y) 1 0 + count same x (less same y xs)
  counted_out x y xs h =
      let f : X → ℕ = λ z. one_if (same x z) in
      omega (arith, ints, taken_out (λ z. pos (f z)) (λ a b e. ap (λ t. pos (one_if t)) (alike a b x e)) y xs h, sum_pos f xs, sum_pos f (less same y xs))

  -- an element at which f is 0 may stand in one of the lists more often
  pub same_sum : (f : X → ℤ) → ((x y : X) → same x y ≡ true → f x ≡ f y) → (xs ys : List X) → ((x : X) → (count same x xs ≡ count same x ys) ⊎ (f x ≡ pos 0)) → sum_ℤ f xs ≡ sum_ℤ f ys
  same_sum f kept [] [] h = refl
  same_sum f kept [] (z ∷ zs) h =
      let none : f z ≡ pos 0 = ⊎_elim (λ e. absurd (omega (arith, e, ap one_if (itself z)))) (λ e. e) (h z) in
      omega (arith, ints, same_sum f kept [] zs (λ x. ⊎_elim (λ e. inl (omega arith)) inr (h x)))
  same_sum f kept (y ∷ xs) ys h =
      ⊎_elim
      (λ e. let one : 1 ≤ count same y ys = omega (arith, e, ap one_if (itself y)) in
      omega (arith, ints, taken_out f kept y ys one, same_sum f kept xs (less same y ys) (λ x. ⊎_elim (λ d. inl (omega (arith, counted_out x y ys one))) inr (h x))))
      (λ none. omega (arith, ints, same_sum f kept xs ys (λ x. ⊎_elim (go x none (same x y) refl) inr (h x))))
      (h y)
    where
      go : (x : X) → f y ≡ pos 0 → (b : Bool) → same x y ≡ b → cond b 1 0 + count same x xs ≡ count same x ys → (count same x xs ≡ count same x ys) ⊎ (f x ≡ pos 0)
      go x none true e d = inr (kept x y e ∙ none)
      go x none false e d = inl (omega arith)

  -- the third list is the first two put together
  pub joint_sum : (f : X → ℤ) → ((x y : X) → same x y ≡ true → f x ≡ f y) → (us vs ws : List X) → ((x : X) → count same x ws ≡ count same x us + count same x vs) → sum_ℤ f ws ≡ sum_ℤ f us +ℤ sum_ℤ f vs
  joint_sum f kept us vs ws h = same_sum f kept ws (us ++ vs) (λ x. inl (h x ∙ sym (sum_joined (λ y. one_if (same x y)) us vs))) ∙ sum_both f us vs
