-- Lists in which ranks rise are the same where they hold the same.
use Rattle.std.proofs.Common.{◌≡◌, ℕ, suc, ◌<◌, List, [], ◌∷◌, length, get_or, sym, refl, ap, ap₂, ◌∙◌, subst, ⊎_elim, arith}
use Rattle.std.specs.Prelude.{Contains}
use Rattle.std.specs.List.{AllByRecursion as All}
use Rattle.std.proofs.lemmas.List.Elements.{Contains-get_or}
use Rattle.register.specs.Keys.{inserted_by}
use Rattle.account.proofs.Sorted.{Rises, rises_inserted}
use Rattle.run.specs.Laws.{records_with, records_by}
use Rattle.run.proofs.RecordsOfRows.{first, later, which, nothing_in, come_from, all_apart, record_of_row, row_of_record}

module _ {X : Type 0} where
  of_each : (P : X → Type 0) (xs : List X) (x : X) → All P xs → Contains xs x → P x
  of_each P [] x a h = nothing_in x h
  of_each P (y ∷ ys) x a h = ⊎_elim (λ e. subst P e a.0) (of_each P ys x a.1) (which y x ys h)

module _ {X : Type 0} (rank : X → ℕ) where
  same_rising : (xs ys : List X) → Rises rank xs → Rises rank ys → ((z : X) → Contains xs z → Contains ys z) → ((z : X) → Contains ys z → Contains xs z) → xs ≡ ys
  same_rising [] [] r q to back = refl
  same_rising [] (y ∷ ys) r q to back = nothing_in y (back y (first y ys))
  same_rising (x ∷ xs) [] r q to back = nothing_in x (to x (first x xs))
  same_rising (x ∷ xs) (y ∷ ys) r q to back =
      ap₂ (λ z zs. z ∷ zs) head
      (same_rising xs ys r.1 q.1 (λ z m. ⊎_elim (λ e. absurd (below_x z m (head ∙ e))) (λ n. n) (which y z ys (to z (later x z xs m))))
      (λ z m. ⊎_elim (λ e. absurd (below_y z m (sym head ∙ e))) (λ n. n) (which x z xs (back z (later y z ys m)))))
    where
      below_x : (z : X) → Contains xs z → x ≡ z → ⊥
      below_x z m e = let l = of_each (λ v. rank x < rank v) xs z r.0 m in let s = ap rank e in omega (arith, l, s)

      below_y : (z : X) → Contains ys z → y ≡ z → ⊥
      below_y z m e = let l = of_each (λ v. rank y < rank v) ys z q.0 m in let s = ap rank e in omega (arith, l, s)

      crossed : Contains ys x → Contains xs y → x ≡ y
      crossed m n = let l = of_each (λ v. rank y < rank v) ys x q.0 m in let k = of_each (λ v. rank x < rank v) xs y r.0 n in absurd (omega (arith, l, k))

      head : x ≡ y
      head = ⊎_elim sym (λ m. ⊎_elim (λ e. e) (crossed m) (which x y xs (back y (first y ys)))) (which y x ys (to x (first x xs)))

  -- a rank stands once
  one_of_rank : (xs : List X) (x y : X) → Rises rank xs → Contains xs x → Contains xs y → rank x ≡ rank y → x ≡ y
  one_of_rank [] x y r h k e = nothing_in x h
  one_of_rank (z ∷ zs) x y r h k e = ⊎_elim
      (λ a. ⊎_elim (λ b. sym a ∙ b) (λ n. absurd (let l = of_each (λ v. rank z < rank v) zs y r.0 n in let s = ap rank a in omega (arith, l, s))) (which z y zs k))
      (λ m. ⊎_elim (λ b. absurd (let l = of_each (λ v. rank z < rank v) zs x r.0 m in let s = ap rank b in omega (arith, l, s))) (λ n. one_of_rank zs x y r.1 m n e) (which z y zs k))
      (which z x zs h)

  -- no two have the same rank
  abbrev Apart : List X → Type 0
  Apart [] = Unit {0}
  Apart (x ∷ xs) = ((y : X) → Contains xs y → rank y ≡ rank x → ⊥) × Apart xs

  put_rises : (before xs : List X) → Rises rank before → ((x y : X) → Contains before x → Contains xs y → rank x ≡ rank y → ⊥) → Apart xs → Rises rank (records_with rank before xs)
  put_rises before [] r d a = r
  put_rises before (x ∷ xs) r d a =
      put_rises (inserted_by rank x before) xs (rises_inserted rank x before (all_apart rank x before (λ y m e. d y x m (first x xs) e)) r)
      (λ z y m n e. ⊎_elim (λ s. a.0 y n (sym e ∙ ap rank (sym s))) (λ k. d z y k (later x y xs n) e) (come_from rank x z before m)) a.1

  apart_by_places : (xs : List X) → ((i j : ℕ) (d : X) → i < length xs → j < length xs → rank (get_or xs i d) ≡ rank (get_or xs j d) → i ≡ j) → Apart xs
  apart_by_places [] h = tt
  apart_by_places (x ∷ xs) h = (
    λ y m e. let l = m.1 in let z = h 0 (suc m.0) y (omega arith) (omega arith) (sym e ∙ ap rank (sym m.2)) in omega (arith, z),
    apart_by_places xs (λ i j d l k e. let s = h (suc i) (suc j) d (omega arith) (omega arith) e in omega (arith, s)),
  )

  -- a rising list is made of those rows that hold the same, each once
  pub made_of : (records rows : List X) → Rises rank records → ((x : X) → Contains records x → Contains rows x) → ((x : X) → Contains rows x → Contains records x) →
      ((i j : ℕ) (d : X) → i < length rows → j < length rows → get_or rows i d ≡ get_or rows j d → i ≡ j) → records ≡ records_by rank rows
  made_of records rows r to_row to_record once =
      let at = λ (i : ℕ) (d : X) (l : i < length rows). to_record (get_or rows i d) (Contains-get_or rows i d l) in
      let apart = apart_by_places rows (λ i j d l k e. once i j d l k (one_of_rank records (get_or rows i d) (get_or rows j d) r (at i d l) (at j d k) e)) in
      same_rising records (records_by rank rows) r (put_rises [] rows tt (λ x y m n e. nothing_in x m) apart)
      (λ z m. record_of_row rank [] rows z (to_row z m))
      (λ z m. ⊎_elim (nothing_in z) (to_record z) (row_of_record rank [] rows z m))
