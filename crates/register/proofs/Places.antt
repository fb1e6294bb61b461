-- Places that move, and the records that stand there.
use Rattle.std.proofs.Common.{◌≡◌, ℕ, suc, ◌+◌, ◌-◌, ◌<◌, ◌≤◌, ltb, List, [], ◌∷◌, length, get_or, map, take, drop, set, ◌++◌, sym, refl, ap, ap₂, ◌∙◌, ⊎_elim, arith}
use Rattle.std.proofs.lemmas.Bool.{cases_lt, cond_both, cond-true, cond-false, lt-ltb, le-ltb, ltb-true}
use Rattle.std.specs.List.{AllByRecursion as All}
use Rattle.std.proofs.ByRecursion.{All-take, All-drop}
use Rattle.std.proofs.lemmas.List.{get_or_default, take-map, drop-map, map-append}
use Rattle.std.proofs.lemmas.List.Edits.{length-remove, map_over_more, get_or-insert_below, get_or-insert_at, get_or-insert_above, get_or-remove_below, get_or-remove_above}
use Rattle.std.specs.List.{insert, remove}
use Rattle.register.specs.Places.{moved_up, moved_down, with_place, without_place, listed, unlisted, PlacesWithin, records_at}

-- no place moves for a record that is put in behind all
pub none_moved : (n at : ℕ) (ps : List ℕ) → n ≤ at → PlacesWithin n ps → map (moved_up at) ps ≡ ps
none_moved n at [] l w = refl
none_moved n at (p ∷ ps) l w =
    let small = w.0 in
    ap₂ ◌∷◌ (rw (lt-ltb p at (omega arith)) refl) (none_moved n at ps l w.1)

-- a turn of a loop that writes f of each
pub written_over : (f : ℕ → ℕ) (xs ys : List ℕ) (i n : ℕ) → i < length xs → length ys ≡ length xs → ys ≡ map f (take i xs) ++ drop i xs → n ≡ f (get_or ys i 0) → set ys i n ≡ map f (take (i + 1) xs) ++ drop (i + 1) xs
written_over f xs ys i n l long h e = ap (set ys i) e ∙ map_over_more f xs ys i (get_or ys i 0) l h (get_or_default ys i 0 _ (omega arith))

-- ---- each place stays within the records
joined_within : (n : ℕ) (ps qs : List ℕ) → PlacesWithin n ps → PlacesWithin n qs → PlacesWithin n (ps ++ qs)
joined_within n [] qs w v = v
joined_within n (p ∷ ps) qs w v = (w.0, joined_within n ps qs w.1 v)

up_within : (n at : ℕ) (ps : List ℕ) → PlacesWithin n ps → PlacesWithin (n + 1) (map (moved_up at) ps)
up_within n at [] w = tt
up_within n at (p ∷ ps) w = let small = w.0 in (cond_both (ltb p at) p (p + 1) (λ q. q < n + 1) (λ _. omega arith) (λ _. omega arith), up_within n at ps w.1)

pub with_within : (n rank at : ℕ) (ps : List ℕ) → at ≤ n → PlacesWithin n ps → PlacesWithin (n + 1) (with_place rank at ps)
with_within n rank at ps l w =
    let moved = up_within n at ps w in
    joined_within (n + 1) (take rank (map (moved_up at) ps)) (at ∷ drop rank (map (moved_up at) ps)) (All-take (λ p. p < n + 1) rank _ moved) (omega arith, All-drop (λ p. p < n + 1) rank _ moved)

-- each place is another than one
abbrev pub Elsewhere : ℕ → List ℕ → Type 0
Elsewhere at ps = All (λ p. p ≡ at → ⊥) ps

down_within : (n at : ℕ) (ps : List ℕ) → at < n → PlacesWithin n ps → 0 < n - 1 → PlacesWithin (n - 1) (map (moved_down at) ps)
down_within n at [] l w e = tt
down_within n at (p ∷ ps) l w e =
    let small = w.0 in
    (cond_both (ltb p at) p (p - 1) (λ q. q < n - 1) (λ b. let u = ltb-true p at b in omega arith) (λ b. omega arith), down_within n at ps l w.1 e)

pub without_within : (rank at : ℕ) (ps : List ℕ) → rank < length ps → at < length ps → PlacesWithin (length ps) ps → PlacesWithin (length ps - 1) (without_place rank at ps)
without_within rank at ps r l w = go (remove ps rank) (let e = length-remove ps rank r in omega arith) (joined_within (length ps) (take rank ps) (drop (suc rank) ps) (All-take (λ p. p < length ps) rank ps w) (All-drop (λ p. p < length ps) (suc rank) ps w))
  where
    go : (qs : List ℕ) → length qs ≡ length ps - 1 → PlacesWithin (length ps) qs → PlacesWithin (length ps - 1) (map (moved_down at) qs)
    go [] e v = tt
    go (q ∷ qs) e v = down_within (length ps) at (q ∷ qs) l v (omega arith)

-- ---- with room, and of a rank and a place that there are
pub listed_there : (rank at room : ℕ) (ps : List ℕ) → length ps < room → rank ≤ length ps → at ≤ length ps → listed rank at room ps ≡ with_place rank at ps
listed_there rank at room ps f r l =
    cond-true (ltb (length ps) room) _ _ (lt-ltb _ _ f) ∙ ap₂ (λ m n. with_place m n ps) (omega (arith, r)) (omega (arith, l))

pub unlisted_there : (rank at : ℕ) (ps : List ℕ) → rank < length ps → at < length ps → unlisted rank at ps ≡ without_place rank at ps
unlisted_there rank at ps r l = rw (lt-ltb rank (length ps) r, lt-ltb at (length ps) l) refl

-- ---- the records at places that have moved
module _ {X : Type 0} (d : X) (xs : List X) where
  looked_up : (at : ℕ) (x : X) (ps : List ℕ) → at ≤ length xs → PlacesWithin (length xs) ps → records_at d (insert xs at x) (map (moved_up at) ps) ≡ records_at d xs ps
  looked_up at x [] l w = refl
  looked_up at x (p ∷ ps) l w =
      ap₂ ◌∷◌
      (⊎_elim
      (λ (b : p < at). ap (λ q. get_or (insert xs at x) q d) (cond-true (ltb p at) p (p + 1) (lt-ltb p at b)) ∙ get_or-insert_below xs at x d p b l)
      (λ (b : at ≤ p). ap (λ q. get_or (insert xs at x) q d) (cond-false (ltb p at) p (p + 1) (le-ltb p at b)) ∙ get_or-insert_above xs at x d p b l)
      (cases_lt p at))
      (looked_up at x ps l w.1)

  pub records_with : (rank at : ℕ) (x : X) (ps : List ℕ) → at ≤ length xs → PlacesWithin (length xs) ps → records_at d (insert xs at x) (with_place rank at ps) ≡ insert (records_at d xs ps) rank x
  records_with rank at x ps l w =
      let f = λ (p : ℕ). get_or (insert xs at x) p d in
      let moved = map (moved_up at) ps in
      map-append f (take rank moved) (at ∷ drop rank moved)
      ∙ ap₂ ◌++◌
      (sym (take-map f rank moved) ∙ ap (take rank) (looked_up at x ps l w))
      (ap₂ ◌∷◌ (get_or-insert_at xs at x d l) (sym (drop-map f rank moved) ∙ ap (drop rank) (looked_up at x ps l w)))

  looked_down : (at : ℕ) (ps : List ℕ) → at < length xs → PlacesWithin (length xs) ps → Elsewhere at ps → records_at d (remove xs at) (map (moved_down at) ps) ≡ records_at d xs ps
  looked_down at [] l w e = refl
  looked_down at (p ∷ ps) l w e =
      let other = e.0 in
      ap₂ ◌∷◌
      (⊎_elim
      (λ (b : p < at). ap (λ q. get_or (remove xs at) q d) (cond-true (ltb p at) p (p - 1) (lt-ltb p at b)) ∙ get_or-remove_below xs at d p b l)
      (λ (b : at ≤ p).
      let z : p ≡ (p - 1) + 1 = omega (arith, other) in
      ap (λ q. get_or (remove xs at) q d) (cond-false (ltb p at) p (p - 1) (le-ltb p at b)) ∙ get_or-remove_above xs at d (p - 1) (omega (arith, other)) l ∙ ap (λ q. get_or xs q d) (sym z))
      (cases_lt p at))
      (looked_down at ps l w.1 e.1)

  pub records_left : (rank : ℕ) (ps : List ℕ) → records_at d xs (remove ps rank) ≡ remove (records_at d xs ps) rank
  records_left rank ps =
      let f = λ (p : ℕ). get_or xs p d in
      map-append f (take rank ps) (drop (suc rank) ps) ∙ ap₂ ◌++◌ (sym (take-map f rank ps)) (sym (drop-map f (suc rank) ps))

  pub records_without : (rank at : ℕ) (ps : List ℕ) → at < length xs → PlacesWithin (length xs) ps → Elsewhere at (remove ps rank) → records_at d (remove xs at) (without_place rank at ps) ≡ remove (records_at d xs ps) rank
  records_without rank at ps l w e =
      let rest : PlacesWithin (length xs) (remove ps rank) = joined_within (length xs) (take rank ps) (drop (suc rank) ps) (All-take (λ p. p < length xs) rank ps w) (All-drop (λ p. p < length xs) (suc rank) ps w) in
      looked_down at (remove ps rank) l rest e ∙ records_left rank ps
