-- What is promised over any list of calls.
use Rattle.std.specs.Prelude.{◌≡◌, ℕ, ◌+◌, ◌≤◌, min, List, [], ◌∷◌, length, ◌↔◌, ⊤}
use Rattle.netting.specs.Rules.{Netting}
use Rattle.curve.specs.Curves.{Discounting}
use Rattle.account.specs.declared.line.Line.{Line}
use Rattle.account.specs.declared.slot.Slot.{Slot}
use Rattle.account.specs.Settings.{Setting}
use Rattle.account.specs.Calls.{Answer, given, Event, lines_after, lines_standing}
use Rattle.account.specs.Answers.{margin_answer, EachDue}
use Rattle.account.specs.Joint.{IsJointBook, HaveSameLines, MarginHolds}
use Rattle.account.specs.Slots.{calls_of, EachAnswered, events, HoldsLines, HoldsByIsin}
use Rattle.account.specs.Standing.{StandAfter}

-- each margin given along calls keeps to what a margin does, for the lines that stood then
abbrev pub EachMarginHolds : Setting → List Line → List Event → Type 0
EachMarginHolds s ls [] = ⊤
EachMarginHolds s ls (e ∷ es) = MarginHolds s ls e.1 × EachMarginHolds s (lines_after e.0 e.1 ls) es

-- calls that are answered as is due, from a book without lines, and the margin asked after them
pub record HistoryKept (s : Setting) (room : ℕ) (es : List Event) (last : Answer) : Type 0 where
  -- each answer is the one that is due to its call, by the lines that stood before it
  pub each_due : EachDue s room [] es
  -- the lines that stand after all calls are those that were entered and not withdrawn later
  pub standing : StandAfter es (lines_standing es)
  -- the last margin is that of the lines that stand after all calls
  pub last_due : last ≡ margin_answer s (lines_standing es)
  -- every margin given keeps its bounds
  pub each_holds : EachMarginHolds s [] es
  pub last_holds : MarginHolds s (lines_standing es) last

-- calls that are answered as is due keep every bound
abbrev pub HistoryLaw : Type 0
HistoryLaw =
    (s : Setting) (room : ℕ) (es : List Event) →
    Netting s.charged → Discounting s.reach s.rate →
    EachDue s room [] es → HistoryKept s room es (margin_answer s (lines_standing es))

-- how many lines a book can hold in places for lines by reference, and for their order by ISIN:
-- 65,535 at most
abbrev pub book_room : List Line → List ℕ → ℕ
book_room places by_isin = min (min (length places) (length by_isin)) 65535

-- a list of calls, worked through over memory for the lines of a book, and the margin asked after
-- them
pub record WorkedThrough
    (s : Setting) (room : ℕ) (before after : List Slot)
    (places : List Line) (by_isin : List ℕ) (last : Answer) : Type 0 where
  -- the calls are as they were, and each has its answer
  pub calls : calls_of after ≡ calls_of before
  pub answers : EachAnswered after
  -- all is kept that is promised over calls
  pub kept : HistoryKept s room (events after) last
  -- the lines that stand are in the memory that was lent for them
  pub lines : HoldsLines (lines_standing (events after)) places
  pub lines_by_isin : HoldsByIsin (lines_standing (events after)) by_isin

-- the last margins of three lists of calls: where the third book is the joint book of the first
-- two and theirs are given, its margin is given, and at most theirs added
abbrev pub JointKept :
    List Event → List Event → List Event → Answer → Answer → Answer → Type 0
JointKept ea eb ec la lb lc =
    (ma ka mb kb : ℕ) → IsJointBook (lines_standing ea) (lines_standing eb) (lines_standing ec) →
    la ≡ given ma ka → lb ≡ given mb kb →
    (mc : ℕ) × (kc : ℕ) × (lc ≡ given mc kc) × (mc ≤ ma + mb)

-- the last margins of two lists of calls: where the same lines stand after both, whatever their
-- references and order, both are given the same margin, or neither is given one
abbrev pub SameKept : List Event → List Event → Answer → Answer → Type 0
SameKept ea eb la lb =
    (m k : ℕ) → HaveSameLines (lines_standing ea) (lines_standing eb) →
    (la ≡ given m k) ↔ (lb ≡ given m k)
