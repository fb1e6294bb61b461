-- The number of each refusal.
use Rattle.std.specs.Prelude.{◌≡◌, ℕ, List, codes}
use Rattle.quantities.specs.declared.refusal.Refusal.{Refusal}
use Rattle.quantities.specs.declared.refusal.Refusal.TheVariants.{Mark, Columns, CellCount, Value, Trailer, KeyPresent, Date, TitlesLimit, Full, NoPrice, NoPercentage, NoRate, NotStanding, TooLong}

abbrev pub number : Refusal → ℕ
number Mark = 1
number Columns = 2
number CellCount = 3
number Value = 4
number Trailer = 5
number KeyPresent = 6
number Date = 7
number TitlesLimit = 8
number Full = 9
number NoPrice = 10
number NoPercentage = 11
number NoRate = 12
number NotStanding = 13
number TooLong = 14

-- the number tells refusals apart
abbrev pub TellsApart : Type 0
TellsApart = (a b : Refusal) → number a ≡ number b → a ≡ b

-- what a refusal says to people
abbrev pub words : Refusal → List ℕ
words Mark = codes "the first line lacks the awaited mark or a version that is read"
words Columns = codes "a needed column is missing or named twice, or there are too many columns"
words CellCount = codes "a row has another count of cells than its sheet has columns"
words Value = codes "a value is outside its form or range"
words Trailer = codes "a trailer is missing or wrong"
words KeyPresent = codes "the key is present already"
words Date = codes "a date is outside its days"
words TitlesLimit = codes "the titles of the ISIN and block together pass 2,000,000"
words Full = codes "no place is free"
words NoPrice = codes "the ISIN has no price"
words NoPercentage = codes "the tranche has no percentage"
words NoRate = codes "the curve has no rate for the term"
words NotStanding = codes "no line stands under the reference"
words TooLong = codes "the input or the statement is too long"
