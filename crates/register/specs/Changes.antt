-- What a register answers to a change, and what it then holds.
use Rattle.std.specs.Prelude.{◌≡◌, ℕ, Bool, if◌then◌else◌, List, length, Some, None, Ok, Err, Option, Result, ◌≢◌, nat_lt}
use Rattle.std.specs.Option.{ok_or}
use Rattle.quantities.specs.declared.refusal.Refusal.{Refusal}
use Rattle.quantities.specs.declared.refusal.Refusal.TheVariants.{KeyPresent, Full, NotStanding}
use Rattle.register.specs.Keys.{Ascends, found_by, has_rank, inserted_by, without}

-- the answer to an insertion of r:
-- a key that is present is refused first, then a record for which there is no room
abbrev pub insert_answer : {X : Type 0} → (X → ℕ) → ℕ → X → List X → Result (Unit {0}) Refusal
insert_answer f room r xs =
    if has_rank f (f r) xs then Err KeyPresent
    else (if nat_lt (length xs) room then Ok tt
    else Err Full)

-- the records after that insertion: unchanged where it is refused
abbrev pub insert_after : {X : Type 0} → (X → ℕ) → ℕ → X → List X → List X
insert_after f room r xs =
    if has_rank f (f r) xs then xs
    else (if nat_lt (length xs) room then inserted_by f r xs
    else xs)

-- after a change, the key of rank k finds x, and every other key finds what it found before
pub record Finds {X : Type 0} (f : X → ℕ) (k : ℕ) (x : Option X) (before after : List X) :
    Type 0 where
  pub this : found_by f k after ≡ x
  pub others : (j : ℕ) → (j ≢ k) → found_by f j after ≡ found_by f j before

-- an insertion of r into records that ascend
pub record Inserts {X : Type 0} (f : X → ℕ) (room : ℕ) (r : X) (before : List X)
    (answer : Result (Unit {0}) Refusal) (after : List X) : Type 0 where
  pub answers : answer ≡ insert_answer f room r before
  pub leaves : after ≡ insert_after f room r before
  pub ascends : Ascends f after
  pub finds : answer ≡ Ok tt → Finds f (f r) (Some r) before after

-- a removal of the key of rank k from records that ascend:
-- it answers the record, or refuses where none stands
pub record Removes {X : Type 0} (f : X → ℕ) (k : ℕ) (before : List X) (answer : Result X Refusal)
    (after : List X) : Type 0 where
  pub answers : answer ≡ ok_or (found_by f k before) NotStanding
  pub leaves : after ≡ without f k before
  pub ascends : Ascends f after
  pub finds : Finds f k None before after

-- a record is put in by its key, where a place is free or not: refused where its key stands, then
-- where no place is free, else it stands in its place
abbrev pub put : {X : Type 0} → (X → ℕ) → Bool → X → List X → Result (List X) Refusal
put f free r xs =
    if has_rank f (f r) xs then Err KeyPresent
    else (if free then Ok (inserted_by f r xs) else Err Full)
