-- What a search for a rank n among records that ascend has shown.
use Rattle.std.specs.Prelude.{◌≡◌, ℕ, if◌then◌else◌, ◌+◌, ◌-◌, ◌<◌, ◌≤◌, List, length, take, drop, Some, None, Ok, Err, Result, slice_index_or, IsTrue}
use Rattle.std.specs.Bool.{IsFalse}
use Rattle.std.specs.List.{insert, remove}
use Rattle.register.specs.Keys.{Ascends, found_by, has_rank, inserted_by, without, below_rank, from_rank}

-- the records before p are those of ranks below n, and the others follow
pub record SplitsAt {X : Type 0} (f : X → ℕ) (n : ℕ) (xs : List X) (p : ℕ) : Type 0 where
  pub below : take p xs ≡ below_rank f n xs
  pub from : drop p xs ≡ from_rank f n xs

-- the one record of rank n stands at p
pub record Hits {X : Type 0} (f : X → ℕ) (n : ℕ) (xs : List X) (p : ℕ) : Type 0 where
  pub present : IsTrue (has_rank f n xs)
  pub found : (x : X) → x ≡ slice_index_or xs p x → found_by f n xs ≡ Some x
  pub rest : without f n xs ≡ remove xs p
  pub ascends : Ascends f (remove xs p)
  pub parts : SplitsAt f n xs p

-- no record has rank n, and p is the place of one that had
pub record Misses {X : Type 0} (f : X → ℕ) (n : ℕ) (xs : List X) (p : ℕ) : Type 0 where
  pub absent : IsFalse (has_rank f n xs)
  pub none : found_by f n xs ≡ None
  pub rest : without f n xs ≡ xs
  pub more : (r : X) → f r ≡ n → inserted_by f r xs ≡ insert xs p r
  pub ascends : (r : X) → f r ≡ n → Ascends f (insert xs p r)
  pub parts : SplitsAt f n xs p

-- the answer is the place of rank n, or the place that it would have
abbrev pub IsPlace : {X : Type 0} → (X → ℕ) → ℕ → List X → Result ℕ ℕ → Type 0
IsPlace f n xs (Ok p) = (p < length xs) × Hits f n xs p
IsPlace f n xs (Err p) = (p ≤ length xs) × Misses f n xs p

-- a guess of a place, after a search for rank n: the place behind the record that is found, and
-- where there is none as it was
abbrev pub guess_after : {X : Type 0} → (X → ℕ) → ℕ → List X → ℕ → ℕ
guess_after f n xs guess = if has_rank f n xs then length (below_rank f n xs) + 1 else guess

-- the last record, if there is one, has a rank below n, and the first one a rank above it
abbrev pub LastBelow : {X : Type 0} → (X → ℕ) → ℕ → List X → Type 0
LastBelow {X} f n xs = (d : X) → 0 < length xs → f (slice_index_or xs (length xs - 1) d) < n

abbrev pub FirstAbove : {X : Type 0} → (X → ℕ) → ℕ → List X → Type 0
FirstAbove {X} f n xs = (d : X) → 0 < length xs → n < f (slice_index_or xs 0 d)
