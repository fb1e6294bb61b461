-- What a cell spells: 48 to 57 are the digits 0 to 9, 45 is the minus.
use Rattle.std.specs.Prelude.{ℕ, ◌+◌, ◌-◌, ◌*◌, ◌&&◌, [], ◌∷◌, Option, Some, None, ℤ, pos, neg_ℤ, ◌==◌, if◌then◌else◌, nat_le, int_le, option_map, option_and_then}
use Rattle.std.specs.Char.{is_ascii_digit}
use Rattle.text.specs.Cells.{Cell}

-- the digit that a byte writes
abbrev pub digit : ℕ → Option ℕ
digit b = if is_ascii_digit b then Some (b - 48) else None

-- the number that digits write behind others that write n; a byte that is no digit writes none
abbrev pub digits_number : ℕ → Cell → Option ℕ
digits_number n [] = Some n
digits_number n (b ∷ bs) = option_and_then (λ d. digits_number (n * 10 + d) bs) (digit b)

-- the whole number that a cell spells: no zero stands in front of other digits
abbrev pub number : Cell → Option ℕ
number [] = None
number (b ∷ []) = digits_number 0 (b ∷ [])
number (b ∷ (c ∷ cs)) = if b == 48 then None else digits_number 0 (b ∷ (c ∷ cs))

-- a number from low to high
abbrev pub within : ℕ → ℕ → ℕ → Option ℕ
within low high n = if nat_le low n && nat_le n high then Some n else None

-- the whole number from low to high that a cell spells
abbrev pub number_in : ℕ → ℕ → Cell → Option ℕ
number_in low high cell = option_and_then (within low high) (number cell)

-- minus a number that is not 0
abbrev pub negative_of : ℕ → Option ℤ
negative_of n = if n == 0 then None else Some (neg_ℤ (pos n))

-- the number that a cell spells, with a minus before a negative one
abbrev pub signed_number : Cell → Option ℤ
signed_number [] = None
signed_number (b ∷ bs) =
    if b == 45 then option_and_then negative_of (number bs)
    else option_map pos (number (b ∷ bs))

abbrev pub within_signed : ℤ → ℤ → ℤ → Option ℤ
within_signed low high n = if int_le low n && int_le n high then Some n else None

-- the number from low to high that a cell spells, which may be negative
abbrev pub signed_number_in : ℤ → ℤ → Cell → Option ℤ
signed_number_in low high cell = option_and_then (within_signed low high) (signed_number cell)
