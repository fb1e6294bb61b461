-- What a book holds, and what entering and withdrawing does to it.
use Rattle.std.specs.Prelude.{◌≡◌, ℕ, if◌then◌else◌, List, ℤ, None, Result, ◌==◌}
use Rattle.std.specs.Result.{result_ok}
use Rattle.std.specs.Borrow.{MutBor}
use Rattle.quantities.specs.declared.refusal.Refusal.{Refusal}
use Rattle.register.specs.Contents.{Loan, loan_of}
use Rattle.register.specs.Keys.{found_by}
use Rattle.market.specs.Contents.{Quotes}
use Rattle.account.specs.declared.line.Line.{Line}
use Rattle.account.specs.declared.slot.Slot.{Slot}
use Rattle.account.specs.declared.call.Call.{Call}
use Rattle.account.specs.declared.call.Call.TheVariants.{Enter, Withdraw}
use Rattle.account.specs.Settings.{Setting}
use Rattle.account.specs.Calls.{CallResult, answer_of_call, answer_of_enter, answer_of_withdraw, line_rank, lines_after, lines_standing_from}
use Rattle.account.specs.Answers.{enter_answer, withdraw_answer, due_answer, EachDue}
use Rattle.account.specs.Slots.{calls_of, EachAnswered, events, HoldsLines, HoldsByIsin}
use Rattle.valuation.specs.Setups.{setting_with}
use Rattle.book.specs.declared.book.Book.{Book}

-- its lines, by reference
abbrev pub lines_of : Book → List Line
lines_of b = b.lines.records

-- how many lines it can hold
abbrev pub room_for : Book → ℕ
room_for b = b.lines.room

-- its market
abbrev pub market_of : Book → Quotes
market_of b = b.market.now

-- its day
abbrev pub today_of : Book → ℕ
today_of b = (market_of b).today

-- the memory that it was lent, for lines by reference and by ISIN
abbrev pub memory_of : Book → Loan × Loan
memory_of b = b.lines.memory

-- its setting, by what a curve and a netting rule mean
abbrev pub setting_for : {C N : Type 0} → (C → ℕ) → (C → ℕ → ℤ) → (N → ℕ → ℕ → ℕ) →
    C → N → Book → Setting
setting_for reach rate charged curve rule b =
    setting_with (reach curve) (rate curve) (charged rule) (market_of b)

-- a book keeps its market, its room and its memory
pub record KeepsMarketAndMemory (before after : Book) : Type 0 where
  pub market : market_of after ≡ market_of before
  pub room : room_for after ≡ room_for before
  pub memory : memory_of after ≡ memory_of before

-- a line is entered: the answer is the one due, and an accepted line stands with the others
pub record EntersLine (l : Line)
    (before : Book) (answer : Result (Unit {0}) Refusal) (after : Book) : Type 0 where
  pub answers :
      answer_of_enter l answer
      ≡ enter_answer (today_of before) (room_for before) (lines_of before) l
  pub leaves : lines_of after ≡ lines_after (Enter l) (answer_of_enter l answer) (lines_of before)
  pub frame : KeepsMarketAndMemory before after

-- a reference is withdrawn: the answer is the one due, with the line that stood under it
pub record WithdrawsLine (r : ℕ)
    (before : Book) (answer : Result Line Refusal) (after : Book) : Type 0 where
  pub answers : answer_of_withdraw r answer ≡ withdraw_answer (lines_of before) r
  pub line :
      result_ok answer ≡ if r == 0 then None else found_by line_rank r (lines_of before)
  pub leaves :
      lines_of after ≡ lines_after (Withdraw r) (answer_of_withdraw r answer) (lines_of before)
  pub frame : KeepsMarketAndMemory before after

-- a call is answered: the answer is the one due, and what it leaves stands
pub record AnswersCall (s : Setting) (call : Call)
    (before : Book) (answer : CallResult) (after : Book) : Type 0 where
  pub answers : answer_of_call answer ≡ due_answer s (room_for before) (lines_of before) call
  pub leaves : lines_of after ≡ lines_after call (answer_of_call answer) (lines_of before)
  pub frame : KeepsMarketAndMemory before after

-- the calls of slots are answered one after another: they are as they were, each has the answer
-- that is due, and what they leave stands
pub record AnswersEachCall (s : Setting)
    (slots : List Slot) (before : Book) (answered : List Slot) (after : Book) : Type 0 where
  pub calls : calls_of answered ≡ calls_of slots
  pub answers : EachAnswered answered
  pub each : EachDue s (room_for before) (lines_of before) (events answered)
  pub leaves : lines_of after ≡ lines_standing_from (lines_of before) (events answered)
  pub frame : KeepsMarketAndMemory before after

-- memory is given back: it is that which the book was lent, with its lines at the front
pub record GivesMemoryBack
    (b : Book) (places : MutBor (List Line)) (by_isin : MutBor (List ℕ)) : Type 0 where
  pub same : (loan_of places, loan_of by_isin) ≡ memory_of b
  pub lines : HoldsLines (lines_of b) places.now
  pub lines_by_isin : HoldsByIsin (lines_of b) by_isin.now
