-- The laws of texts: they are their lines, lines are their cells, and a number has one spelling.
use Rattle.std.specs.Prelude.{◌≡◌, ◌≢◌, ℕ, ◌^◌, ◌<◌, List, [], ◌∷◌, ◌++◌, length, Some, ℤ, unsigned_abs}
use Rattle.std.specs.Fmt.{decimal, signed_decimal}
use Rattle.std.specs.List.{AllByRecursion, join_with_byte}
use Rattle.text.specs.Cells.{Cell, cells}
use Rattle.text.specs.Lines.{lines, loose}
use Rattle.text.specs.Numbers.{number, signed_number}

-- none of the bytes is the separator
abbrev pub Lacks : ℕ → List ℕ → Type 0
Lacks separator bytes = AllByRecursion (λ b. b ≢ separator) bytes

abbrev pub EachLacks : ℕ → List (List ℕ) → Type 0
EachLacks separator parts = AllByRecursion (Lacks separator) parts

-- lines, each with a line feed behind it, and then what is loose
abbrev pub text_of : List (List ℕ) → List ℕ → List ℕ
text_of [] rest = rest
text_of (l ∷ ls) rest = l ++ (10 ∷ text_of ls rest)

-- a text is its lines and what is loose, and none of them holds a line feed
abbrev pub LinesLaw : Type 0
LinesLaw =
    (text : List ℕ) →
    (text_of (lines text) (loose text) ≡ text) × EachLacks 10 (lines text) × Lacks 10 (loose text)

-- lines that are written are read
abbrev pub LinesReadLaw : Type 0
LinesReadLaw =
    (ls : List (List ℕ)) (rest : List ℕ) → EachLacks 10 ls → Lacks 10 rest →
    (lines (text_of ls rest) ≡ ls) × (loose (text_of ls rest) ≡ rest)

-- a line is its cells with a semicolon between each two;
-- it has at least one cell, and none holds a semicolon
abbrev pub CellsLaw : Type 0
CellsLaw =
    (line : List ℕ) →
    (join_with_byte 59 (cells line) ≡ line) × (0 < length (cells line)) × EachLacks 59 (cells line)

-- cells that are written are read
abbrev pub CellsReadLaw : Type 0
CellsReadLaw =
    (cs : List Cell) → 0 < length cs → EachLacks 59 cs → cells (join_with_byte 59 cs) ≡ cs

-- what is printed of a number is a spelling of it
abbrev pub PrintedLaw : Type 0
PrintedLaw = (n : ℕ) → n < 2 ^ 64 → number (decimal n) ≡ Some n

-- and it is the only one
abbrev pub SpellingLaw : Type 0
SpellingLaw = (cell : Cell) (n : ℕ) → n < 2 ^ 64 → number cell ≡ Some n → cell ≡ decimal n

-- the two, of numbers that may be negative
abbrev pub SignedPrintedLaw : Type 0
SignedPrintedLaw = (z : ℤ) → unsigned_abs z < 2 ^ 63 → signed_number (signed_decimal z) ≡ Some z

abbrev pub SignedSpellingLaw : Type 0
SignedSpellingLaw =
    (cell : Cell) (z : ℤ) → unsigned_abs z < 2 ^ 63 → signed_number cell ≡ Some z →
    cell ≡ signed_decimal z
