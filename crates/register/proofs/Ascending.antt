-- Records that ascend: what a search shows, and what stays so after a change.
use Rattle.std.proofs.Common.{◌≡◌, ℕ, zero, suc, ◌+◌, ◌-◌, ◌<◌, ◌≤◌, true, false, ltb, List, [], ◌∷◌, length, take, drop, get_or, Some, None, Ok, Err, sym, refl, ap, ◌∙◌, ⊎_elim, arith}
use Rattle.std.proofs.lemmas.Bool.{cases_lt, cases_eq, lt-ltb, le-ltb, ltb-true, ltb-false, eq-eqb, ne_eqb}
use Rattle.std.specs.List.{insert, remove}
use Rattle.std.proofs.lemmas.List.{length-take-le, length-drop, get_or-take, get_or-drop}
use Rattle.std.proofs.lemmas.List.Edits.{length-insert, get_or-insert_below, get_or-insert_at, get_or-insert_above, length-remove, get_or-remove_below, get_or-remove_above}
use Rattle.register.specs.Keys.{found_by, has_rank, inserted_by, without, Ascends}
use Rattle.std.specs.List.Sorted.{IsPartitionedBy, IsPartitionPoint}
use Rattle.register.specs.Search.{SplitsAt, Hits, Misses, IsPlace, LastBelow, FirstAbove}

-- the ranks rise between any two places
abbrev pub Far : {X : Type 0} → (X → ℕ) → List X → Type 0
Far {X} f xs = (i j : ℕ) (d : X) → i < j → j < length xs → f (get_or xs i d) < f (get_or xs j d)

-- the ranks before p are lower than n, and from p on they are higher
record Splits {X : Type 0} (f : X → ℕ) (n : ℕ) (xs : List X) (p : ℕ) : Type 0 where
  pub below : (k : ℕ) (d : X) → k < p → f (get_or xs k d) < n
  pub above : (k : ℕ) (d : X) → p ≤ k → k < length xs → n < f (get_or xs k d)

-- the rank at p is n
record Stands {X : Type 0} (f : X → ℕ) (n : ℕ) (xs : List X) (p : ℕ) : Type 0 where
  pub below : (k : ℕ) (d : X) → k < p → f (get_or xs k d) < n
  pub here : (d : X) → f (get_or xs p d) ≡ n
  pub above : (k : ℕ) (d : X) → p < k → k < length xs → n < f (get_or xs k d)

module _ {X : Type 0} (f : X → ℕ) where
  ahead : (xs : List X) → Ascends f xs → (d : X) (i m : ℕ) → i + suc m < length xs → f (get_or xs i d) < f (get_or xs (i + suc m) d)
  ahead xs up d i zero l =
      let e : i + suc zero ≡ i + 1 = omega arith in
      rw e (up i d (omega arith))
  ahead xs up d i (suc m) l =
      let e : i + suc (suc m) ≡ (i + suc m) + 1 = omega arith in
      let a = ahead xs up d i m (omega arith) in
      let b = up (i + suc m) d (omega arith) in
      rw e (omega arith)

  pub far : (xs : List X) → Ascends f xs → Far f xs
  far xs up i j d l m =
      let e : j ≡ i + suc (j - i - 1) = omega arith in
      rw e (ahead xs up d i (j - i - 1) (omega arith))

  near : (xs : List X) → Far f xs → Ascends f xs
  near xs up k d l = up k (k + 1) d (omega arith) l

  stands_at : (n : ℕ) (xs : List X) (p : ℕ) → Far f xs → p < length xs → ((d : X) → f (get_or xs p d) ≡ n) → Stands f n xs p
  stands_at n xs p up l here = record {
    below = λ k d m. let u = up k p d m l in let v = here d in omega arith;
    here = here;
    above = λ k d m o. let u = up p k d m o in let v = here d in omega arith;
  }

  stands_tail : {n : ℕ} (x : X) (xs : List X) (p : ℕ) → Stands f n (x ∷ xs) (suc p) → Stands f n xs p
  stands_tail x xs p h = record {
    below = λ k c m. h.below (suc k) c (omega arith);
    here = h.here;
    above = λ k c m o. h.above (suc k) c (omega arith) (omega arith);
  }

  -- what the definitions say where the search hits
  found_here : (n : ℕ) (xs : List X) (p : ℕ) (d : X) → p < length xs → Stands f n xs p → found_by f n xs ≡ Some (get_or xs p d)
  found_here n [] p d l h = absurd (omega arith)
  found_here n (x ∷ xs) zero d l h = let e = eq-eqb (f x) n (h.here d) in rw e
  found_here n (x ∷ xs) (suc p) d l h =
      let b = h.below 0 d (omega arith) in
      let e = ne_eqb (f x) n (λ z. omega arith) in
      rw e (found_here n xs p d (omega arith) (stands_tail x xs p h))

  has_here : (n : ℕ) (xs : List X) (p : ℕ) → p < length xs → Stands f n xs p → has_rank f n xs ≡ true
  has_here n [] p l h = absurd (omega arith)
  has_here n (x ∷ xs) zero l h = let e = eq-eqb (f x) n (h.here x) in rw e
  has_here n (x ∷ xs) (suc p) l h =
      let b = h.below 0 x (omega arith) in
      let e = ne_eqb (f x) n (λ z. omega arith) in
      rw e (has_here n xs p (omega arith) (stands_tail x xs p h))

  -- no element has rank n
  abbrev Lacks : ℕ → List X → Type 0
  Lacks n xs = (k : ℕ) (d : X) → k < length xs → f (get_or xs k d) ≡ n → ⊥

  lacks : (n : ℕ) (xs : List X) (p : ℕ) → Splits f n xs p → Lacks n xs
  lacks n xs p h k d l e =
      ⊎_elim (λ (w : k < p). let b = h.below k d w in omega arith) (λ (w : p ≤ k). let b = h.above k d w l in omega arith) (cases_lt k p)

  lacks_tail : {n : ℕ} (x : X) (xs : List X) → Lacks n (x ∷ xs) → Lacks n xs
  lacks_tail x xs h k d l e = h (suc k) d (omega arith) e

  has_none : (n : ℕ) (xs : List X) → Lacks n xs → has_rank f n xs ≡ false
  has_none n [] h = refl
  has_none n (x ∷ xs) h =
      let e = ne_eqb (f x) n (h 0 x (omega arith)) in rw e (has_none n xs (lacks_tail x xs h))

  found_none : (n : ℕ) (xs : List X) → Lacks n xs → found_by f n xs ≡ None
  found_none n [] h = refl
  found_none n (x ∷ xs) h =
      let e = ne_eqb (f x) n (h 0 x (omega arith)) in rw e (found_none n xs (lacks_tail x xs h))

  without_none : (n : ℕ) (xs : List X) → Lacks n xs → without f n xs ≡ xs
  without_none n [] h = refl
  without_none n (x ∷ xs) h =
      let e = ne_eqb (f x) n (h 0 x (omega arith)) in rw e (ap (λ ys. x ∷ ys) (without_none n xs (lacks_tail x xs h)))

  -- the lists after a change
  without_here : (n : ℕ) (xs : List X) (p : ℕ) → p < length xs → Stands f n xs p → without f n xs ≡ remove xs p
  without_here n [] p l h = absurd (omega arith)
  without_here n (x ∷ xs) zero l h =
      let e = eq-eqb (f x) n (h.here x) in
      rw e (without_none n xs (λ k d m z. let b = h.above (suc k) d (omega arith) (omega arith) in omega arith))
  without_here n (x ∷ xs) (suc p) l h =
      let b = h.below 0 x (omega arith) in
      let e = ne_eqb (f x) n (λ z. omega arith) in
      rw e (ap (λ ys. x ∷ ys) (without_here n xs p (omega arith) (stands_tail x xs p h)))

  splits_tail : {n : ℕ} (x : X) (xs : List X) (p : ℕ) → Splits f n (x ∷ xs) (suc p) → Splits f n xs p
  splits_tail x xs p h = record {
    below = λ k c m. h.below (suc k) c (omega arith);
    above = λ k c m o. h.above (suc k) c (omega arith) (omega arith);
  }

  inserted_here : (r : X) (xs : List X) (p : ℕ) → p ≤ length xs → Splits f (f r) xs p → inserted_by f r xs ≡ insert xs p r
  inserted_here r [] zero l h = refl
  inserted_here r [] (suc p) l h = absurd (omega arith)
  inserted_here r (x ∷ xs) zero l h =
      let b = h.above 0 x (omega arith) (omega arith) in
      let e = lt-ltb (f r) (f x) b in rw e
  inserted_here r (x ∷ xs) (suc p) l h =
      let b = h.below 0 x (omega arith) in
      let e = le-ltb (f r) (f x) (omega arith) in
      rw e (ap (λ ys. x ∷ ys) (inserted_here r xs p (omega arith) (splits_tail x xs p h)))

  -- what ascends stays so
  past : (r : X) (xs : List X) (p j : ℕ) (d : X) → p ≤ length xs → p < j → get_or (insert xs p r) j d ≡ get_or xs (j - 1) d
  past r xs p j d le l =
      let z : j ≡ (j - 1) + 1 = omega arith in
      ap (λ m. get_or (insert xs p r) m d) z ∙ get_or-insert_above xs p r d (j - 1) (omega arith) le

  ascends_inserted : (r : X) (xs : List X) (p : ℕ) → p ≤ length xs → Far f xs → Splits f (f r) xs p → Far f (insert xs p r)
  ascends_inserted r xs p le up h i j d l m =
      let n = length-insert xs p r le in
      ⊎_elim
      (λ (a : i < p).
      let bi = ap f (get_or-insert_below xs p r d i a le) in
      let ri = h.below i d a in
      ⊎_elim
      (λ (e : j ≡ p). let bj = ap f (ap (λ m. get_or (insert xs p r) m d) e ∙ get_or-insert_at xs p r d le) in omega arith)
      (λ ne. ⊎_elim
      (λ (b : j < p). let bj = ap f (get_or-insert_below xs p r d j b le) in let u = up i j d l (omega arith) in omega arith)
      (λ (b : p ≤ j). let g : p < j = omega (arith, ne) in let bj = ap f (past r xs p j d le g) in let u = up i (j - 1) d (omega arith) (omega arith) in omega arith)
      (cases_lt j p))
      (cases_eq j p))
      (λ (a : p ≤ i).
      let bj = ap f (past r xs p j d le (omega arith)) in
      ⊎_elim
      (λ (e : i ≡ p).
      let bi = ap f (ap (λ m. get_or (insert xs p r) m d) e ∙ get_or-insert_at xs p r d le) in
      let q = h.above (j - 1) d (omega arith) (omega arith) in omega arith)
      (λ ne.
      let g : p < i = omega (arith, ne) in
      let bi = ap f (past r xs p i d le g) in let u = up (i - 1) (j - 1) d (omega arith) (omega arith) in omega arith)
      (cases_eq i p))
      (cases_lt i p)

  ascends_removed : (xs : List X) (p : ℕ) → p < length xs → Far f xs → Far f (remove xs p)
  ascends_removed xs p lt up i j d l m =
      let n = length-remove xs p lt in
      ⊎_elim
      (λ (a : i < p).
      let bi = ap f (get_or-remove_below xs p d i a lt) in
      ⊎_elim
      (λ (b : j < p). let bj = ap f (get_or-remove_below xs p d j b lt) in let u = up i j d l (omega arith) in omega arith)
      (λ (b : p ≤ j). let bj = ap f (get_or-remove_above xs p d j b lt) in let u = up i (j + 1) d (omega arith) (omega arith) in omega arith)
      (cases_lt j p))
      (λ (a : p ≤ i).
      let bi = ap f (get_or-remove_above xs p d i a lt) in
      let bj = ap f (get_or-remove_above xs p d j (omega arith) lt) in
      let u = up (i + 1) (j + 1) d (omega arith) (omega arith) in omega arith)
      (cases_lt i p)

  -- the two parts of the records at a place
  pub parted : (n : ℕ) (xs : List X) (p : ℕ) → p ≤ length xs → ((k : ℕ) (d : X) → k < p → f (get_or xs k d) < n) → ((k : ℕ) (d : X) → p ≤ k → k < length xs → n ≤ f (get_or xs k d)) → SplitsAt f n xs p
  parted n [] zero l low high = record { below = refl; from = refl }
  parted n [] (suc p) l low high = absurd (omega arith)
  parted n (x ∷ xs) zero l low high =
      let h = high 0 x (omega arith) (omega arith) in
      let e = le-ltb (f x) n (omega arith) in
      record { below = rw e; from = rw e }
  parted n (x ∷ xs) (suc p) l low high =
      let b = low 0 x (omega arith) in
      let e = lt-ltb (f x) n b in
      let t = parted n xs p (omega arith) (λ k d m. low (suc k) d (omega arith)) (λ k d m o. high (suc k) d (omega arith) (omega arith)) in
      record { below = rw e (ap (λ ys. x ∷ ys) t.below); from = rw e t.from }

  -- what a search shows
  hits_at : (n : ℕ) (xs : List X) (p : ℕ) → p < length xs → ((d : X) → f (get_or xs p d) ≡ n) → Ascends f xs → Hits f n xs p
  hits_at n xs p l here up =
      let all = far xs up in
      let h = stands_at n xs p all l here in
      record {
        present = has_here n xs p l h;
        found = λ x q. found_here n xs p x l h ∙ ap (λ y. Some y) (sym q);
        rest = without_here n xs p l h;
        ascends = near _ (ascends_removed xs p l all);
        parts = parted n xs p (omega arith) h.below (λ k d m o.
            ⊎_elim (λ (z : k ≡ p). let q = here d in rw z (omega arith)) (λ ne. let q = h.above k d (omega (arith, ne)) o in omega arith) (cases_eq k p));
      }

  misses_at : (n : ℕ) (xs : List X) (p : ℕ) → p ≤ length xs → Splits f n xs p → Ascends f xs → Misses f n xs p
  misses_at n xs p le h up =
      let la = lacks n xs p h in
      let own : (r : X) → f r ≡ n → Splits f (f r) xs p = λ r e. rw e h in
      record {
        absent = has_none n xs la;
        none = found_none n xs la;
        rest = without_none n xs la;
        more = λ r e. inserted_here r xs p le (own r e);
        ascends = λ r e. near _ (ascends_inserted r xs p le (far xs up) (own r e));
        parts = parted n xs p le h.below (λ k d m o. let q = h.above k d m o in omega arith);
      }

  -- the ranks below n come first
  pub ranks_parted : (n : ℕ) (xs : List X) → Ascends f xs → IsPartitionedBy (λ x. ltb (f x) n) xs
  ranks_parted n xs up i j d l m h =
      ⊎_elim (λ (e : i ≡ j). rw e h)
      (λ ne. let u = far xs up i j d (omega (arith, ne)) m in let v = ltb-true (f (get_or xs j d)) n h in lt-ltb _ n (omega arith))
      (cases_eq i j)

  pub placed_hit : (n : ℕ) (xs : List X) (p : ℕ) → Ascends f xs → p < length xs → ((d : X) → f (get_or xs p d) ≡ n) → IsPlace f n xs (Ok p)
  placed_hit n xs p up l here = (l, hits_at n xs p l here up)

  -- p parts the ranks below n from the others, and the record at p, if there is one, has another rank
  pub placed_miss : (n : ℕ) (xs : List X) (p : ℕ) → Ascends f xs → p ≤ length xs → IsPartitionPoint (λ x. ltb (f x) n ≡ true) (λ x. ltb (f x) n ≡ false) xs p →
      (p < length xs → (d : X) → n ≤ f (get_or xs p d) → n < f (get_or xs p d)) → IsPlace f n xs (Err p)
  placed_miss n xs p up l parts other = (
    l,
    misses_at n xs p l record {
      below = λ k d m. ltb-true _ n (parts.0 k d (omega arith) m);
      above = λ k d m o.
          let here = other (omega arith) d (ltb-false _ n (parts.1 p d (omega arith) (omega arith))) in
          ⊎_elim
          (λ (e : k ≡ p). rw e here)
          (λ ne. let u = far xs up p k d (omega (arith, ne)) o in omega arith)
          (cases_eq k p);
    } up,
  )

  -- p parts xs into records of ranks below n and above it
  pub placed_between : (n : ℕ) (xs : List X) (p : ℕ) → Ascends f xs → p ≤ length xs → LastBelow f n (take p xs) → FirstAbove f n (drop p xs) → IsPlace f n xs (Err p)
  placed_between n xs p up l low high =
      let many = length-take-le p xs l in
      let rest = length-drop p xs in
      let below : (d : X) → 0 < p → f (get_or xs (p - 1) d) < n = λ d m.
      let h = low d (omega (arith, many)) in
      let e : get_or (take p xs) (length (take p xs) - 1) d ≡ get_or xs (p - 1) d = ap (λ k. get_or (take p xs) (k - 1) d) many ∙ get_or-take p xs (p - 1) d (omega arith) in
      rw e at h in
      let above : (d : X) → p < length xs → n < f (get_or xs p d) = λ d m.
      let h = high d (omega (arith, rest)) in
      let e : get_or (drop p xs) 0 d ≡ get_or xs p d = get_or-drop p xs 0 d ∙ ap (λ k. get_or xs k d) (omega arith) in
      rw e at h in
      placed_miss n xs p up l (
        λ k d m o. ranks_parted n xs up k (p - 1) d (omega arith) (omega arith) (lt-ltb _ n (below d (omega arith))),
        λ k d m o. le-ltb _ n (⊎_elim (λ (e : k ≡ p). let h = above d (omega arith) in rw e (omega arith))
            (λ ne. let h = above d (omega (arith, ne)) in let u = far xs up p k d (omega (arith, ne)) (omega arith) in omega arith) (cases_eq k p)),
      )
      (λ m d h. above d m)
