-- Bytes as a number, the first one the most significant, and byte order.
use Rattle.std.specs.Prelude.{◌≡◌, ℕ, ◌+◌, ◌*◌, ◌<◌, Bool, true, false, if◌then◌else◌, List, [], ◌∷◌, length, ◌==◌, nat_lt, slice_index}

-- the number that bytes read on from n spell to base 256
abbrev pub value : ℕ → List ℕ → ℕ
value n [] = n
value n (b ∷ bs) = value (n * 256 + b) bs

-- a list of n bytes
pub record Bytes (n : ℕ) (bs : List ℕ) : Type 0 where
  pub many : length bs ≡ n
  pub small : (i : ℕ) → i < length bs → slice_index bs i < 256

-- byte order: the first byte in which two lists differ decides
abbrev pub is_before : List ℕ → List ℕ → Bool
is_before [] ys = false
is_before (x ∷ xs) [] = false
is_before (x ∷ xs) (y ∷ ys) =
    if nat_lt x y then true
    else (if x == y then is_before xs ys
    else false)

-- for lists of n bytes, the order of their numbers is byte order
abbrev pub ByteOrder : ℕ → Type 0
ByteOrder n =
    (xs ys : List ℕ) → Bytes n xs → Bytes n ys →
    nat_lt (value 0 xs) (value 0 ys) ≡ is_before xs ys
