-- The ISIN of ISO 6166.
-- Cells hold bytes: 48 to 57 are the digits 0 to 9, 65 to 90 the letters A to Z.
use Rattle.std.specs.Prelude.{ℕ, ◌+◌, ◌-◌, ◌*◌, ◌/◌, ◌%◌, Bool, ◌&&◌, ◌||◌, if◌then◌else◌, List, [], ◌∷◌, reverse, length, take, drop, Ok, Err, Result, ◌==◌, nat_le}
use Rattle.std.specs.Char.{encode_utf8}
use Rattle.std.specs.List.{list_all, flat_map}
use Rattle.quantities.specs.declared.refusal.Refusal.TheVariants.{Value}
use Rattle.quantities.specs.Refusals.{number}

abbrev pub is_letter : ℕ → Bool
is_letter b = nat_le 65 b && nat_le b 90

abbrev pub is_digit : ℕ → Bool
is_digit b = nat_le 48 b && nat_le b 57

abbrev pub is_letter_or_digit : ℕ → Bool
is_letter_or_digit b = is_letter b || is_digit b

-- two letters, nine letters or digits, one digit
abbrev pub isin_shaped : List ℕ → Bool
isin_shaped cell =
    (length cell == 12)
    && (list_all is_letter (take 2 cell)
    && (list_all is_letter_or_digit (take 9 (drop 2 cell))
    && list_all is_digit (take 1 (drop 11 cell))))

-- the digits of a cell: a digit stays, and a letter is the two digits of its number, 10 to 35
abbrev pub digits_of : List ℕ → List ℕ
digits_of [] = []
digits_of (b ∷ bs) =
    if is_digit b then (b - 48) ∷ digits_of bs
    else ((b - 55) / 10) ∷ (((b - 55) % 10) ∷ digits_of bs)

-- every second number doubled, beginning with the second
abbrev pub with_seconds_doubled : List ℕ → List ℕ
with_seconds_doubled [] = []
with_seconds_doubled (d ∷ []) = d ∷ []
with_seconds_doubled (d ∷ (e ∷ ds)) = d ∷ ((2 * e) ∷ with_seconds_doubled ds)

-- the sum of the digits of numbers, each of which has two at most
abbrev pub digit_sum : List ℕ → ℕ
digit_sum [] = 0
digit_sum (n ∷ ns) = (n / 10 + n % 10) + digit_sum ns

-- doubled from the right, where the check digit stands first
abbrev pub check_sum : List ℕ → ℕ
check_sum cell = digit_sum (with_seconds_doubled (reverse (digits_of cell)))

abbrev pub is_isin : List ℕ → Bool
is_isin cell = isin_shaped cell && check_sum cell % 10 == 0

-- a cell that holds an ISIN, refused elsewhere
abbrev pub isin_answer : List ℕ → Result (List ℕ) ℕ
isin_answer cell = if is_isin cell then Ok cell else Err (number Value)

-- an ISIN as it is printed: the characters of its bytes
abbrev pub isin_text : List ℕ → List ℕ
isin_text bytes = flat_map encode_utf8 bytes
