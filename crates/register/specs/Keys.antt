-- Keys, and lists of records whose keys have ranks.
use Rattle.std.specs.Prelude.{◌≡◌, ℕ, ◌+◌, ◌<◌, Bool, true, false, if◌then◌else◌, List, [], ◌∷◌, length, Some, None, Option, ◌==◌, nat_lt, slice_index_or}
use Rattle.std.specs.declared.cmp.Ordering.TheVariants.{Less, Equal, Greater}
use Rattle.std.specs.declared.cmp.Ordering.{Ordering}

-- the answer of comparing key a to key b:
-- the lower rank is less, and only one and the same key is equal
abbrev pub Compares : {K : Type 0} → (K → ℕ) → K → K → Ordering → Type 0
Compares rank a b Less = rank a < rank b
Compares rank a b Equal = a ≡ b
Compares rank a b Greater = rank b < rank a

-- the rank of a record's key; below, f is such a rank
abbrev pub key_rank : {X K : Type 0} → (K → ℕ) → (X → K) → X → ℕ
key_rank rank key_of x = rank (key_of x)

-- the ranks rise strictly from record to record, so that no key stands twice
abbrev pub Ascends : {X : Type 0} → (X → ℕ) → List X → Type 0
Ascends {X} f xs =
    (k : ℕ) (d : X) → k + 1 < length xs →
    f (slice_index_or xs k d) < f (slice_index_or xs (k + 1) d)

-- whether a record has rank k
abbrev pub has_rank : {X : Type 0} → (X → ℕ) → ℕ → List X → Bool
has_rank f k [] = false
has_rank f k (x ∷ xs) = if f x == k then true else has_rank f k xs

-- the record of rank k
abbrev pub found_by : {X : Type 0} → (X → ℕ) → ℕ → List X → Option X
found_by f k [] = None
found_by f k (x ∷ xs) = if f x == k then Some x else found_by f k xs

-- the records with r before the first one of a higher rank
abbrev pub inserted_by : {X : Type 0} → (X → ℕ) → X → List X → List X
inserted_by f r [] = r ∷ []
inserted_by f r (x ∷ xs) = if nat_lt (f r) (f x) then r ∷ (x ∷ xs) else x ∷ inserted_by f r xs

-- the records without those of rank k
abbrev pub without : {X : Type 0} → (X → ℕ) → ℕ → List X → List X
without f k [] = []
without f k (x ∷ xs) = if f x == k then without f k xs else x ∷ without f k xs

-- the records of ranks below k, which come first
abbrev pub below_rank : {X : Type 0} → (X → ℕ) → ℕ → List X → List X
below_rank f k [] = []
below_rank f k (x ∷ xs) = if nat_lt (f x) k then x ∷ below_rank f k xs else []

-- the records from the first one whose rank is not below k
abbrev pub from_rank : {X : Type 0} → (X → ℕ) → ℕ → List X → List X
from_rank f k [] = []
from_rank f k (x ∷ xs) = if nat_lt (f x) k then from_rank f k xs else x ∷ xs
