-- The lines of a text, whose bytes are numbers: 10 is the line feed.
use Rattle.std.specs.Prelude.{◌≡◌, ℕ, ◌<◌, List, ◌∷◌, length}
use Rattle.text.specs.Parts.{parts, all_but_last, last}

-- its lines, each ended by a line feed; what is not ended is no line
abbrev pub lines : List ℕ → List (List ℕ)
lines text = all_but_last (parts 10 text)

-- what stands behind the last line feed, or all where there is none
abbrev pub loose : List ℕ → List ℕ
loose text = last (parts 10 text)

-- a text is a line and what follows its line feed
abbrev pub BeginsWithLine : List ℕ → List ℕ → List ℕ → Type 0
BeginsWithLine text line rest =
    (lines text ≡ line ∷ lines rest) × (loose text ≡ loose rest) × (length rest < length text)
