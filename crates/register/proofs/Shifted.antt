-- What a shift of a list's elements by one place leaves.
use Rattle.std.proofs.Common.{◌≡◌, ℕ, ◌+◌, ◌-◌, ◌<◌, ◌≤◌, List, ◌++◌, length, get_or, take, drop, set, sym, ap, ◌∙◌, ⊎_elim, arith}
use Rattle.std.proofs.lemmas.List.{length-set, length-append, length-drop, get_or-drop, get_or_append_left, get_or-append_right, length-take-le, get_or-set_same, get_or-set_other, get_or-take, same_lists}
use Rattle.std.proofs.lemmas.Bool.{cases_lt, cases_eq}
use Rattle.std.specs.List.{insert, remove, RotatedRight}
use Rattle.std.proofs.lemmas.List.Edits.{length-insert, get_or-insert_below, get_or-insert_at, get_or-insert_above, length-remove, get_or-remove_below, get_or-remove_above}

module _ {X : Type 0} (xs : List X) (used : ℕ) where
  -- r stands behind the first ones, and has turned to the front of those from at on
  pub turned_in : (at : ℕ) (r : X) (ys : List X) → at ≤ used → used < length xs → let mid = take (used + 1 - at) (drop at (set xs used r)) in
      length ys ≡ length mid → RotatedRight mid ys (length mid) 1 → take at (set xs used r) ++ ys ≡ insert (take used xs) at r
  turned_in at r ys le lt e turned =
      let all = set xs used r in
      let s : length all ≡ length xs = length-set xs used r in
      let m : length (take (used + 1 - at) (drop at all)) ≡ used + 1 - at = length-take-le (used + 1 - at) (drop at all) (omega (arith, length-drop at all)) in
      let t : length (take used xs) ≡ used = length-take-le used xs (omega arith) in
      let f : length (take at all) ≡ at = length-take-le at all (omega arith) in
      let b = length-insert (take used xs) at r (omega arith) in
      let mid : (k : ℕ) (d : X) → k < used + 1 - at → get_or (take (used + 1 - at) (drop at all)) k d ≡ get_or all (at + k) d = λ k d l. get_or-take (used + 1 - at) (drop at all) k d l ∙ get_or-drop at all k d in
      same_lists _ _ (omega (arith, length-append (take at all) ys)) (λ k d l.
      let far : k < used + 1 = omega (arith, length-append (take at all) ys) in
      ⊎_elim
      (λ (c : k < at).
      get_or_append_left (take at all) ys d k (omega arith) ∙ get_or-take at all k d c ∙ get_or-set_other xs used k r d (λ q. absurd (omega arith))
      ∙ sym (get_or-insert_below (take used xs) at r d k c (omega arith) ∙ get_or-take used xs k d (omega arith)))
      (λ (c : at ≤ k). get_or-append_right (take at all) ys at k d f c ∙ ⊎_elim
      (λ (q : k ≡ at).
      let first : k - at ≡ 0 = omega arith in
      let last : at + (length (take (used + 1 - at) (drop at all)) - 1 + 0) ≡ used = omega arith in
      ap (λ j. get_or ys j d) first ∙ turned.0 0 d (omega arith) ∙ mid _ d (omega arith) ∙ ap (λ j. get_or all j d) last ∙ get_or-set_same xs used r d lt
      ∙ sym (ap (λ j. get_or (insert (take used xs) at r) j d) q ∙ get_or-insert_at (take used xs) at r d (omega arith)))
      (λ ne.
      let z : k ≡ (k - 1) + 1 = omega (arith, ne) in
      let before : at + (k - at - 1) ≡ k - 1 = omega (arith, ne) in
      turned.1 (k - at) d (omega (arith, ne)) (omega arith) ∙ mid _ d (omega arith) ∙ ap (λ j. get_or all j d) before ∙ get_or-set_other xs used (k - 1) r d (λ p. absurd (omega (arith, ne)))
      ∙ sym (ap (λ j. get_or (insert (take used xs) at r) j d) z ∙ (get_or-insert_above (take used xs) at r d (k - 1) (omega (arith, ne)) (omega arith) ∙ get_or-take used xs (k - 1) d (omega (arith, ne)))))
      (cases_eq k at))
      (cases_lt k at))

  -- the elements from at + 1 to i have moved one place down
  pub record Closed (at i : ℕ) (ys : List X) : Type 0 where
    pub len : length ys ≡ length xs
    pub low : (k : ℕ) (d : X) → k < at → get_or ys k d ≡ get_or xs k d
    pub mid : (k : ℕ) (d : X) → at ≤ k → k + 1 < i → get_or ys k d ≡ get_or xs (k + 1) d
    pub high : (k : ℕ) (d : X) → i ≤ k + 1 → get_or ys k d ≡ get_or xs k d

  pub closed_all : (at i : ℕ) (ys : List X) → at < used → used ≤ i → i ≤ used → used ≤ length xs → Closed at i ys → take (used - 1) ys ≡ remove (take used xs) at
  closed_all at i ys lt le ge w h =
      let n = h.len in
      let t : length (take used xs) ≡ used = length-take-le used xs w in
      let a : length (take (used - 1) ys) ≡ used - 1 = length-take-le (used - 1) ys (omega arith) in
      let b = length-remove (take used xs) at (omega arith) in
      same_lists _ _ (omega arith) (λ k d l.
      let m : k < used - 1 = omega arith in
      get_or-take (used - 1) ys k d m ∙ ⊎_elim
      (λ (c : k < at). h.low k d c ∙ sym (get_or-remove_below (take used xs) at d k c (omega arith) ∙ get_or-take used xs k d (omega arith)))
      (λ (c : at ≤ k). h.mid k d c (omega arith) ∙ sym (get_or-remove_above (take used xs) at d k c (omega arith) ∙ get_or-take used xs (k + 1) d (omega arith)))
      (cases_lt k at))
