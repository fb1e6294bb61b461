-- Records that are put in by rank are just those that were read.
use Rattle.std.proofs.Common.{◌≡◌, ℕ, zero, suc, ◌+◌, ◌<◌, ◌⊎◌, inl, inr, Bool, true, false, cond, eqb, ltb, List, [], ◌∷◌, length, get_or, Ok, sym, refl, ap, ◌∙◌, subst, ⊎_elim, arith}
use Rattle.std.specs.Prelude.{Contains}
use Rattle.std.specs.List.{AllByRecursion as All}
use Rattle.std.proofs.lemmas.List.Elements.{Contains-get_or}
use Rattle.std.proofs.lemmas.Bool.{eq-eqb, true≢false}
use Rattle.register.specs.Keys.{has_rank, inserted_by}
use Rattle.account.proofs.Sorted.{inserted_long, Rises, rises_inserted}
use Rattle.run.specs.KeptSheets.{Keeping}
use Rattle.run.specs.Laws.{records_with}
use Rattle.run.proofs.Sheets.{KeptAll}

-- ---- what stands in a list
module _ {X : Type 0} where
  pub first : (x : X) (xs : List X) → Contains (x ∷ xs) x
  first x xs = (0, omega arith, refl)

  pub later : (x y : X) (xs : List X) → Contains xs y → Contains (x ∷ xs) y
  later x y xs h = let l = h.1 in (suc h.0, omega arith, h.2)

  pub which : (x y : X) (xs : List X) → Contains (x ∷ xs) y → (x ≡ y) ⊎ Contains xs y
  which x y xs h = go h.0 h.1 h.2
    where
      go : (k : ℕ) → k < length (x ∷ xs) → get_or (x ∷ xs) k y ≡ y → (x ≡ y) ⊎ Contains xs y
      go zero l e = inl e
      go (suc k) l e = inr (k, omega arith, e)

  pub nothing_in : {Z : Type 0} (y : X) → Contains [] y → Z
  nothing_in y h = let l = h.1 in absurd (omega arith)

module _ {X : Type 0} (rank : X → ℕ) where
  among : (x y : X) (ys : List X) → Contains ys y → Contains (inserted_by rank x ys) y
  among x y [] h = nothing_in y h
  among x y (z ∷ zs) h = go (ltb (rank x) (rank z)) (λ m. among x y zs m)
    where
      go : (t : Bool) → (Contains zs y → Contains (inserted_by rank x zs) y) → Contains (cond t (x ∷ (z ∷ zs)) (z ∷ inserted_by rank x zs)) y
      go true rest = later x y (z ∷ zs) h
      go false rest = ⊎_elim (λ e. subst (Contains (z ∷ inserted_by rank x zs)) e (first z (inserted_by rank x zs))) (λ m. later z y (inserted_by rank x zs) (rest m)) (which z y zs h)

  put_in : (x : X) (ys : List X) → Contains (inserted_by rank x ys) x
  put_in x [] = first x []
  put_in x (z ∷ zs) = go (ltb (rank x) (rank z)) (put_in x zs)
    where
      go : (t : Bool) → Contains (inserted_by rank x zs) x → Contains (cond t (x ∷ (z ∷ zs)) (z ∷ inserted_by rank x zs)) x
      go true rest = first x (z ∷ zs)
      go false rest = later z x (inserted_by rank x zs) rest

  pub come_from : (x y : X) (ys : List X) → Contains (inserted_by rank x ys) y → (x ≡ y) ⊎ Contains ys y
  come_from x y [] h = which x y [] h
  come_from x y (z ∷ zs) h = go (ltb (rank x) (rank z)) h (λ m. come_from x y zs m)
    where
      go : (t : Bool) → Contains (cond t (x ∷ (z ∷ zs)) (z ∷ inserted_by rank x zs)) y → (Contains (inserted_by rank x zs) y → (x ≡ y) ⊎ Contains zs y) → (x ≡ y) ⊎ Contains (z ∷ zs) y
      go true h rest = which x y (z ∷ zs) h
      go false h rest =
          ⊎_elim (λ e. inr (subst (Contains (z ∷ zs)) e (first z zs))) (λ m. ⊎_elim inl (λ k. inr (later z y zs k)) (rest m)) (which z y (inserted_by rank x zs) h)

  still : (before xs : List X) (y : X) → Contains before y → Contains (records_with rank before xs) y
  still before [] y h = h
  still before (x ∷ xs) y h = still (inserted_by rank x before) xs y (among x y before h)

  pub record_of_row : (before xs : List X) (y : X) → Contains xs y → Contains (records_with rank before xs) y
  record_of_row before [] y h = nothing_in y h
  record_of_row before (x ∷ xs) y h = ⊎_elim
      (λ e. still (inserted_by rank x before) xs y (subst (Contains (inserted_by rank x before)) e (put_in x before)))
      (record_of_row (inserted_by rank x before) xs y)
      (which x y xs h)

  pub row_of_record : (before xs : List X) (y : X) → Contains (records_with rank before xs) y → Contains before y ⊎ Contains xs y
  row_of_record before [] y h = inl h
  row_of_record before (x ∷ xs) y h = ⊎_elim
      (λ m. ⊎_elim (λ e. inr (subst (Contains (x ∷ xs)) e (first x xs))) inl (come_from x y before m))
      (λ m. inr (later x y xs m))
      (row_of_record (inserted_by rank x before) xs y h)

  pub records_long : (before xs : List X) → length (records_with rank before xs) ≡ length before + length xs
  records_long before [] = omega arith
  records_long before (x ∷ xs) = let l = records_long (inserted_by rank x before) xs in omega (arith, l, inserted_long rank x before)

  pub absent : (k : ℕ) (xs : List X) (y : X) → has_rank rank k xs ≡ false → Contains xs y → rank y ≡ k → ⊥
  absent k [] y n h e = nothing_in y h
  absent k (x ∷ xs) y n h e = go (eqb (rank x) k) refl n (λ m o. absent k xs y m o e)
    where
      go : (t : Bool) → eqb (rank x) k ≡ t → cond t true (has_rank rank k xs) ≡ false → (has_rank rank k xs ≡ false → Contains xs y → ⊥) → ⊥
      go true q n rest = true≢false n
      go false q n rest = ⊎_elim (λ s. true≢false (sym (eq-eqb (rank x) k (ap rank s ∙ e)) ∙ q)) (rest n) (which x y xs h)

  pub all_apart : (x : X) (xs : List X) → ((y : X) → Contains xs y → rank y ≡ rank x → ⊥) → All (λ y. rank x ≡ rank y → ⊥) xs
  all_apart x [] h = tt
  all_apart x (y ∷ ys) h = (λ e. h y (first y ys) (sym e), all_apart x ys (λ z m e. h z (later y z ys m) e))

  -- ---- records that are kept one after another
  module _ {S : Type 0} (keeping : Keeping X S) (held : S → List X) where
    -- a record that is kept was new, and is put in
    abbrev pub PutsNew : Type 0
    PutsNew = (s u : S) (x : X) → keeping s x ≡ Ok u → (has_rank rank (rank x) (held s) ≡ false) × (held u ≡ inserted_by rank x (held s))

    module _ (puts : PutsNew) where
      pub held_by_rank : (s t : S) (xs : List X) → KeptAll keeping s xs t → held t ≡ records_with rank (held s) xs
      held_by_rank s t [] k = ap held (sym k)
      held_by_rank s t (x ∷ xs) k = held_by_rank k.0 t xs k.1.1 ∙ ap (λ ys. records_with rank ys xs) (puts s k.0 x k.1.0).1

      pub held_rises : (s t : S) (xs : List X) → Rises rank (held s) → KeptAll keeping s xs t → Rises rank (held t)
      held_rises s t [] r k = subst (λ u. Rises rank (held u)) k r
      held_rises s t (x ∷ xs) r k =
          let p = puts s k.0 x k.1.0 in
          let apart = all_apart x (held s) (λ y m e. absent (rank x) (held s) y p.0 m e) in
          held_rises k.0 t xs (subst (Rises rank) (sym p.1) (rises_inserted rank x (held s) apart r)) k.1.1

      -- what is held before is not kept again
      not_again : (s t : S) (xs : List X) (z y : X) → Contains (held s) z → KeptAll keeping s xs t → Contains xs y → z ≡ y → ⊥
      not_again s t [] z y h k m e = nothing_in y m
      not_again s t (x ∷ xs) z y h k m e =
          let p = puts s k.0 x k.1.0 in
          ⊎_elim
          (λ q. absent (rank x) (held s) z p.0 h (ap rank (e ∙ sym q)))
          (λ n. not_again k.0 t xs z y (subst (λ ys. Contains ys z) (sym p.1) (among x z (held s) h)) k.1.1 n e)
          (which x y xs m)

      pub kept_once : (s t : S) (xs : List X) → KeptAll keeping s xs t → (i j : ℕ) (d : X) → i < length xs → j < length xs → get_or xs i d ≡ get_or xs j d → i ≡ j
      kept_once s t [] k i j d l m e = absurd (omega arith)
      kept_once s t (x ∷ xs) k i j d l m e = go i j l m e (λ a b. kept_once k.0 t xs k.1.1 a b d)
        where
          held_first : Contains (held k.0) x
          held_first = let p = puts s k.0 x k.1.0 in subst (λ ys. Contains ys x) (sym p.1) (put_in x (held s))

          go : (i j : ℕ) → i < length (x ∷ xs) → j < length (x ∷ xs) → get_or (x ∷ xs) i d ≡ get_or (x ∷ xs) j d → ((a b : ℕ) → a < length xs → b < length xs → get_or xs a d ≡ get_or xs b d → a ≡ b) → i ≡ j
          go zero zero l m e rest = refl
          go zero (suc j) l m e rest = absurd (not_again k.0 t xs x (get_or xs j d) held_first k.1.1 (Contains-get_or xs j d (omega arith)) e)
          go (suc i) zero l m e rest = absurd (not_again k.0 t xs x (get_or xs i d) held_first k.1.1 (Contains-get_or xs i d (omega arith)) (sym e))
          go (suc i) (suc j) l m e rest = ap suc (rest i j (omega arith) (omega arith) e)
