-- Where the cells of a line end.
use Rattle.std.specs.Prelude.{◌≡◌, ℕ, zero, suc, ◌+◌, ◌-◌, ◌<◌, ◌≤◌, List, [], length, take, drop, slice_index, min}
use Rattle.std.specs.List.{slice_index_or}
use Rattle.text.specs.Cells.{cells}

-- where the cell of a number begins: the first at the front, and each other one behind a semicolon
abbrev pub start_of : List ℕ → ℕ → ℕ
start_of ends zero = 0
start_of ends (suc i) = slice_index ends i + 1

-- the cell of a number stands in the line from start up to end
pub record StandsAt (line : List ℕ) (i start end : ℕ) : Type 0 where
  pub ordered : start ≤ end
  pub within : end ≤ length line
  pub is : slice_index_or (cells line) i [] ≡ take (end - start) (drop start line)

-- so many cells of a line, from the first on, end there
abbrev pub EndThere : List ℕ → List ℕ → ℕ → Type 0
EndThere line ends n =
    (i : ℕ) → i < n → StandsAt line i (start_of ends i) (slice_index ends i)

-- the cells of a line end there
pub record Ends (line ends : List ℕ) : Type 0 where
  pub count : length ends ≡ length (cells line)
  pub each : EndThere line ends (length ends)

-- a room into which the ends of a line's cells were put, as many as there is room for;
-- what is behind them stays
pub record TakesEnds (line old new : List ℕ) : Type 0 where
  pub room : length new ≡ length old
  pub front : EndThere line new (min (length (cells line)) (length old))
  pub behind : drop (length (cells line)) new ≡ drop (length (cells line)) old
