-- What is read and written, where the bytes of a stream are known.
use Rattle.std.specs.Prelude.{ℕ, ◌<◌, ◌≤◌, List, length, take, Option, Result, MatchResult}
use Rattle.std.specs.Io.KnownBytes.{Appends, Consumes, IsAtEnd}

-- the bytes that were read stand at the front of the room: all that were left, unless it is full;
-- where reading fails, no more were taken than there is room for
abbrev pub Fills :
    {E : Type 0} → Option (List ℕ) → Option (List ℕ) → List ℕ → Result ℕ E → Type 0
Fills before after room answer =
    MatchResult answer
    (λ n. (n ≤ length room)
    × (Consumes before after (take n room) × (n < length room → IsAtEnd after)))
    (λ _. (n : ℕ) × ((n ≤ length room) × Consumes before after (take n room)))

-- no more bytes than that are taken from the front of what is left
abbrev pub TakesAtMost : ℕ → Option (List ℕ) → Option (List ℕ) → Type 0
TakesAtMost most before after =
    (bytes : List ℕ) × ((length bytes ≤ most) × Consumes before after bytes)

-- a text is written, and where that fails a beginning of it
abbrev pub Prints :
    {X E : Type 0} → Option (List ℕ) → Option (List ℕ) → List ℕ → Result X E → Type 0
Prints before after text answer =
    MatchResult answer
    (λ _. Appends before after text)
    (λ _. (n : ℕ) × Appends before after (take n text))
