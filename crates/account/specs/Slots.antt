-- Calls in slots, each with the place of its answer, and what memory for lines holds after them.
use Rattle.std.specs.Prelude.{◌≡◌, ℕ, List, [], ◌∷◌, ◌++◌, length, map, take, Some, None, Option, ⊤}
use Rattle.account.specs.declared.line.Line.{Line}
use Rattle.account.specs.declared.call.Call.{Call}
use Rattle.account.specs.declared.slot.Slot.{Slot}
use Rattle.account.specs.ByIsin.{lines_by_isin, lines_at}
use Rattle.account.specs.Calls.{CallResult, answer_of_call, Event}

-- the calls of slots
abbrev pub calls_of : List Slot → List Call
calls_of slots = map (λ s. s.call) slots

-- there is an answer
abbrev pub HasAnswer : Option CallResult → Type 0
HasAnswer None = ⊥
HasAnswer (Some a) = ⊤

-- each slot has its answer
abbrev pub EachAnswered : List Slot → Type 0
EachAnswered [] = ⊤
EachAnswered (s ∷ slots) = HasAnswer s.answer × EachAnswered slots

-- what a call and its answer say, and nothing where there is no answer
abbrev pub events_in : Call → Option CallResult → List Event
events_in c None = []
events_in c (Some a) = (c, answer_of_call a) ∷ []

-- the calls of slots with their answers, the oldest call first
abbrev pub events : List Slot → List Event
events [] = []
events (s ∷ slots) = events_in s.call s.answer ++ events slots

-- memory has lines at its front, in their order; the places behind may hold anything
abbrev pub HoldsLines : List Line → List Line → Type 0
HoldsLines lines memory = take (length lines) memory ≡ lines

-- memory has at its front the places of those lines, in the order of their ISINs
abbrev pub HoldsByIsin : List Line → List ℕ → Type 0
HoldsByIsin lines memory = lines_at (take (length lines) memory) lines ≡ lines_by_isin lines
