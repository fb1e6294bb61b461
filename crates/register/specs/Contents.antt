-- What a register holds.
use Rattle.std.specs.Prelude.{◌≡◌, ℕ, ◌≤◌, min, List, length, take}
use Rattle.std.specs.Borrow.{MutBor, GName}
use Rattle.register.specs.Keys.{Ascends}

-- its records, in the order of their keys, and how many it can hold
pub record Table (X : Type 0) : Type 0 where
  pub records : List X
  pub room : ℕ

-- as many records as there are places, and 65,535 at most
abbrev pub room_in : ℕ → ℕ
room_in places = min places 65535

-- memory that is lent: the loan's own name, and how many places there are
pub record Loan : Type 0 where
  pub name : GName
  pub places : ℕ

-- the loan of a slice
abbrev pub loan_of : {X : Type 0} → MutBor (List X) → Loan
loan_of memory = record { name = memory.ghost_name; places = length memory.now }

-- the same in lent memory
pub record LentTable (X : Type 0) : Type 0 where
  pub records : List X
  pub room : ℕ
  pub lent : Loan

-- memory that is given back: it is that of the loan, with the records at its front
pub record GivesBack {X : Type 0} (loan : Loan) (records : List X) (memory : MutBor (List X)) :
    Type 0 where
  pub same : loan_of memory ≡ loan
  pub front : take (length records) memory.now ≡ records

-- the first of the places hold records that ascend by a rank f, as many as there is room for
pub record Holds {X : Type 0} (f : X → ℕ) (used room : ℕ) (places : List X) : Type 0 where
  pub within : used ≤ room
  pub fits : room ≤ room_in (length places)
  pub ascends : Ascends f (take used places)
