-- What the check of a handed value answers.
use Rattle.std.specs.Prelude.{ℕ, ◌&&◌, if◌then◌else◌, ℤ, Ok, Err, Result, int_le, nat_le}
use Rattle.quantities.specs.declared.refusal.Refusal.TheVariants.{Value}
use Rattle.quantities.specs.declared.refusal.Refusal.{Refusal}
use Rattle.quantities.specs.Refusals.{number}

-- an answer as its reader has it: what it holds, or the number of its refusal
abbrev pub numbers_of : {X Y : Type 0} → (X → Y) → Result X Refusal → Result Y ℕ
numbers_of f (Ok x) = Ok (f x)
numbers_of f (Err e) = Err (number e)

-- n as it is where it lies from low to high, refused elsewhere
abbrev pub range_answer : ℕ → ℕ → ℕ → Result ℕ ℕ
range_answer low high n = if nat_le low n && nat_le n high then Ok n else Err (number Value)

-- the same of a number that may be negative
abbrev pub signed_range_answer : ℤ → ℤ → ℤ → Result ℤ ℕ
signed_range_answer low high n = if int_le low n && int_le n high then Ok n else Err (number Value)
