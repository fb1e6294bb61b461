-- Calls to a book and their answers, and the lines that stand after them.
use Rattle.std.specs.Prelude.{ℕ, List, [], ◌∷◌, Ok, Err, Result}
use Rattle.quantities.specs.declared.refusal.Refusal.{Refusal}
use Rattle.quantities.specs.Refusals.{number}
use Rattle.register.specs.Keys.{inserted_by, without}
use Rattle.account.specs.declared.line.Line.{Line}
use Rattle.account.specs.declared.call.Call.{Call}
use Rattle.account.specs.declared.call.Call.TheVariants.{Enter, Withdraw, AskMargin}
use Rattle.account.specs.declared.margin.Margin.{Margin}
use Rattle.account.specs.declared.line_refusal.LineRefusal.{LineRefusal}
use Rattle.account.specs.declared.reply.Reply.{Reply}
use Rattle.account.specs.declared.reply.Reply.TheVariants.{Accepted, Given}

-- what a book answers
pub data Answer : Type 0 where
  accepted : Answer
  -- the number of the refusal, and the reference of the line that it is about
  refused : ℕ → ℕ → Answer
  -- the margin and its count of rounded amounts
  given : ℕ → ℕ → Answer

-- what the code answers
abbrev pub CallResult : Type 0
CallResult = Result Reply LineRefusal

-- an answer as its reader has it
abbrev pub answer_of_call : CallResult → Answer
answer_of_call (Ok Accepted) = accepted
answer_of_call (Ok (Given m)) = given m.cents m.rounded_amounts
answer_of_call (Err r) = refused (number r.refusal) r.reference

-- what entering a line came to, as an answer
abbrev pub answer_of_enter : Line → Result (Unit {0}) Refusal → Answer
answer_of_enter l (Ok _) = accepted
answer_of_enter l (Err e) = refused (number e) l.reference

-- what withdrawing a reference came to
abbrev pub answer_of_withdraw : ℕ → Result Line Refusal → Answer
answer_of_withdraw r (Ok l) = accepted
answer_of_withdraw r (Err e) = refused (number e) r

-- what asking for the margin came to
abbrev pub answer_of_margin : Result Margin LineRefusal → Answer
answer_of_margin (Ok m) = given m.cents m.rounded_amounts
answer_of_margin (Err r) = refused (number r.refusal) r.reference

-- a call with its answer
abbrev pub Event : Type 0
Event = Call × Answer

-- lines go by their references
abbrev pub line_rank : Line → ℕ
line_rank l = l.reference

-- what an accepted call leaves standing
abbrev pub lines_if_accepted : Call → List Line → List Line
lines_if_accepted (Enter l) ls = inserted_by line_rank l ls
lines_if_accepted (Withdraw r) ls = without line_rank r ls
lines_if_accepted AskMargin ls = ls

-- a refused call changes nothing, nor does a margin
abbrev pub lines_after : Call → Answer → List Line → List Line
lines_after c accepted ls = lines_if_accepted c ls
lines_after c (refused n r) ls = ls
lines_after c (given m k) ls = ls

-- the lines standing after calls, from lines that stood before
abbrev pub lines_standing_from : List Line → List Event → List Line
lines_standing_from ls [] = ls
lines_standing_from ls (e ∷ es) = lines_standing_from (lines_after e.0 e.1 ls) es

-- the lines standing after calls, the oldest call first: before it there are none
abbrev pub lines_standing : List Event → List Line
lines_standing es = lines_standing_from [] es
