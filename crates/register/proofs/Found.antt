-- What a key finds after an insertion and after a removal.
use Rattle.std.proofs.Common.{◌≡◌, ℕ, true, false, cond, eqb, ltb, List, [], ◌∷◌, Some, None, sym, refl, ap, ◌∙◌, ⊎_elim}
use Rattle.std.proofs.lemmas.Bool.{true≢false, cases_Bool, eq-eqb, ne_eqb, eqb-true}
use Rattle.register.specs.Keys.{found_by, has_rank, inserted_by, without}

module _ {X : Type 0} (f : X → ℕ) where
  pub found_inserted : (r : X) (xs : List X) → has_rank f (f r) xs ≡ false → found_by f (f r) (inserted_by f r xs) ≡ Some r
  found_inserted r [] h = rw (eq-eqb (f r) (f r) refl)
  found_inserted r (x ∷ xs) h = ⊎_elim
      (λ (q : eqb (f x) (f r) ≡ true). absurd (true≢false (rw q at h)))
      (λ (q : eqb (f x) (f r) ≡ false). ⊎_elim
      (λ (e : ltb (f r) (f x) ≡ true). rw (e, eq-eqb (f r) (f r) refl))
      (λ (e : ltb (f r) (f x) ≡ false). rw (e, q) (found_inserted r xs (rw q at h)))
      (cases_Bool (ltb (f r) (f x))))
      (cases_Bool (eqb (f x) (f r)))

  pub others_inserted : (r : X) (xs : List X) (j : ℕ) → (j ≡ f r → ⊥) → found_by f j (inserted_by f r xs) ≡ found_by f j xs
  others_inserted r [] j ne = rw (ne_eqb (f r) j (λ e. ne (sym e)))
  others_inserted r (x ∷ xs) j ne = ⊎_elim
      (λ (e : ltb (f r) (f x) ≡ true). rw (e, ne_eqb (f r) j (λ q. ne (sym q))))
      (λ (e : ltb (f r) (f x) ≡ false). rw e (ap (λ o. cond (eqb (f x) j) (Some x) o) (others_inserted r xs j ne)))
      (cases_Bool (ltb (f r) (f x)))

  pub gone : (k : ℕ) (xs : List X) → found_by f k (without f k xs) ≡ None
  gone k [] = refl
  gone k (x ∷ xs) = ⊎_elim
      (λ (e : eqb (f x) k ≡ true). rw e (gone k xs))
      (λ (e : eqb (f x) k ≡ false). rw (e, e) (gone k xs))
      (cases_Bool (eqb (f x) k))

  pub others_without : (k : ℕ) (xs : List X) (j : ℕ) → (j ≡ k → ⊥) → found_by f j (without f k xs) ≡ found_by f j xs
  others_without k [] j ne = refl
  others_without k (x ∷ xs) j ne = ⊎_elim
      (λ (e : eqb (f x) k ≡ true). rw (e, ne_eqb (f x) j (λ q. ne (sym q ∙ eqb-true (f x) k e))) (others_without k xs j ne))
      (λ (e : eqb (f x) k ≡ false). rw e (ap (λ o. cond (eqb (f x) j) (Some x) o) (others_without k xs j ne)))
      (cases_Bool (eqb (f x) k))
