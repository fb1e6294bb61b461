-- What a register answers to an insertion, and what it then holds, is one more record that is put in by its key.
use Rattle.std.proofs.Common.{◌≡◌, ℕ, Bool, true, false, cond, ltb, List, length, Ok, Err, Result, MatchResult, sym, ap}
use Rattle.quantities.specs.declared.refusal.Refusal.{Refusal}
use Rattle.quantities.specs.declared.refusal.Refusal.TheVariants.{KeyPresent, Full}
use Rattle.register.specs.Changes.{insert_answer, insert_after, put}
use Rattle.register.specs.Keys.{has_rank, inserted_by}

-- what is put in is what the answer says, and what is then held
abbrev pub PutsIn : {X : Type 0} → Result (List X) Refusal → List X → Result (Unit {0}) Refusal → List X → Type 0
PutsIn due before answer after = MatchResult answer (λ _. due ≡ Ok after) (λ e. (due ≡ Err e) × (after ≡ before))

module _ {X : Type 0} (more xs ys : List X) where
  -- whether the key is present, then whether a place is free
  by_tests : (present free : Bool) (a : Result (Unit {0}) Refusal) → a ≡ cond present (Err KeyPresent) (cond free (Ok tt) (Err Full)) →
      ys ≡ cond present xs (cond free more xs) → PutsIn (cond present (Err KeyPresent) (cond free (Ok more) (Err Full))) xs a ys
  by_tests true free (Ok u) e l = cc
  by_tests true free (Err r) e l = (cc, l)
  by_tests false true (Ok u) e l = ap Ok (sym l)
  by_tests false true (Err r) e l = cc
  by_tests false false (Ok u) e l = cc
  by_tests false false (Err r) e l = (cc, l)

  never : (present free : Bool) (a : Result (Unit {0}) Refusal) → a ≡ cond present (Err KeyPresent) (cond free (Ok tt) (Err Full)) →
      (a ≡ Err Full → ⊥) → ys ≡ cond present xs (cond free more xs) → PutsIn (cond present (Err KeyPresent) (Ok more)) xs a ys
  never true free a e n l = by_tests true free a e l
  never false true a e n l = by_tests false true a e l
  never false false a e n l = absurd (n e)

module _ {X : Type 0} (f : X → ℕ) (room : ℕ) (x : X) (xs : List X) (a : Result (Unit {0}) Refusal) (ys : List X) where
  pub put_as_inserted : a ≡ insert_answer f room x xs → ys ≡ insert_after f room x xs → PutsIn (put f (ltb (length xs) room) x xs) xs a ys
  put_as_inserted e l = by_tests (inserted_by f x xs) xs ys (has_rank f (f x) xs) (ltb (length xs) room) a e l

  -- the same where a place is always free
  pub put_never_full : a ≡ insert_answer f room x xs → (a ≡ Err Full → ⊥) → ys ≡ insert_after f room x xs → PutsIn (put f true x xs) xs a ys
  put_never_full e n l = never (inserted_by f x xs) xs ys (has_rank f (f x) xs) (ltb (length xs) room) a e n l
