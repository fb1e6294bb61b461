-- Calls taken one after another: what stands and what is due, slot by slot.
use Rattle.std.proofs.Common.{◌≡◌, ℕ, ◌+◌, ◌<◌, List, [], ◌∷◌, ◌++◌, length, get_or, take, drop, set, ℤ, Some, sym, refl, ap, ◌∙◌, subst, ap₂, append_assoc, arith}
use Rattle.std.proofs.lemmas.List.{map-append, take_more, take_more_set, drop-set-lt, drop-drop, get_or-drop}
use Rattle.account.specs.declared.line.Line.{Line}
use Rattle.account.specs.declared.slot.Slot.{Slot}
use Rattle.account.specs.declared.call.Call.{Call}
use Rattle.account.specs.Settings.{Setting}
use Rattle.account.specs.Calls.{CallResult, answer_of_call, Event, lines_after, lines_standing_from}
use Rattle.account.specs.Answers.{due_answer, EachDue}
use Rattle.account.specs.Slots.{EachAnswered, events_in, events}
use Rattle.valuation.specs.Setups.{setting_with}
use Rattle.book.specs.declared.book.Book.{Book}
use Rattle.book.specs.Books.{lines_of, room_for, market_of, AnswersCall, AnswersEachCall}

-- ---- one more call at the end
standing_push : (ls : List Line) (es : List Event) (e : Event) → lines_standing_from ls (es ++ e ∷ []) ≡ lines_after e.0 e.1 (lines_standing_from ls es)
standing_push ls [] e = refl
standing_push ls (x ∷ es) e = standing_push (lines_after x.0 x.1 ls) es e

due_push : (s : Setting) (room : ℕ) (ls : List Line) (es : List Event) (e : Event) → EachDue s room ls es → e.1 ≡ due_answer s room (lines_standing_from ls es) e.0 → EachDue s room ls (es ++ e ∷ [])
due_push s room ls [] e d h = (h, tt)
due_push s room ls (x ∷ es) e d h = (d.0, due_push s room (lines_after x.0 x.1 ls) es e d.1 h)

-- a call that is answered
abbrev answered_slot : Call → CallResult → Slot
answered_slot c a = record { call = c; answer = Some a }

events_push : (slots : List Slot) (c : Call) (a : CallResult) → events (slots ++ answered_slot c a ∷ []) ≡ events slots ++ (c, answer_of_call a) ∷ []
events_push [] c a = refl
events_push (s ∷ slots) c a = ap (λ es. events_in s.call s.answer ++ es) (events_push slots c a) ∙ sym (append_assoc (events_in s.call s.answer) (events slots) ((c, answer_of_call a) ∷ []))

answered_push : (slots : List Slot) (c : Call) (a : CallResult) → EachAnswered slots → EachAnswered (slots ++ answered_slot c a ∷ [])
answered_push [] c a h = (tt, tt)
answered_push (s ∷ slots) c a h = (h.0, answered_push slots c a h.1)

-- ---- a book that takes one more call
module _ {reach : ℕ} {rate : ℕ → ℤ} {charged : ℕ → ℕ → ℕ} {start book after : Book} {slots answered : List Slot} {call : Call} {answer : CallResult} (t : AnswersEachCall (setting_with reach rate charged (market_of start)) slots start answered book) (one : AnswersCall (setting_with reach rate charged (market_of book)) call book answer after) where
  taken_more : (x : Slot) → x.call ≡ call → AnswersEachCall (setting_with reach rate charged (market_of start)) (slots ++ x ∷ []) start (answered ++ answered_slot call answer ∷ []) after
  taken_more x same =
      let s : Setting = setting_with reach rate charged (market_of start) in
      let es = events answered in
      let e : Event = (call, answer_of_call answer) in
      let due : e.1 ≡ due_answer s (room_for start) (lines_standing_from (lines_of start) es) call =
      one.answers
      ∙ ap₂ (λ market n. due_answer (setting_with reach rate charged market) n (lines_of book) call) t.frame.market t.frame.room
      ∙ ap (λ ls. due_answer s (room_for start) ls call) t.leaves in
      record {
        calls = map-append (λ y. y.call) answered (answered_slot call answer ∷ []) ∙ ap₂ (λ cs c. cs ++ c ∷ []) t.calls (sym same) ∙ sym (map-append (λ y. y.call) slots (x ∷ []));
        answers = answered_push answered call answer t.answers;
        each = subst (EachDue s (room_for start) (lines_of start)) (sym (events_push answered call answer)) (due_push s (room_for start) (lines_of start) es e t.each due);
        leaves = one.leaves ∙ ap (lines_after call e.1) t.leaves ∙ sym (standing_push (lines_of start) es e) ∙ ap (lines_standing_from (lines_of start)) (sym (events_push answered call answer));
        frame = record { market = one.frame.market ∙ t.frame.market; room = one.frame.room ∙ t.frame.room; memory = one.frame.memory ∙ t.frame.memory };
      }

-- ---- the turn of a loop over slots
-- what has come of the slots before the i-th: they are answered, and the others are as they were
pub record AnsweredUpTo (s : Setting) (start : Book) (slots : List Slot) (i : ℕ) (book : Book) (now : List Slot) : Type 0 where
  pub taken : AnswersEachCall s (take i slots) start (take i now) book
  pub ahead : drop i now ≡ drop i slots

module _ {reach : ℕ} {rate : ℕ → ℤ} {charged : ℕ → ℕ → ℕ} {start book after : Book} {slots now : List Slot} {i : ℕ} {answer : CallResult} (come : AnsweredUpTo (setting_with reach rate charged (market_of start)) start slots i book now) where
  pub turn : (d : Slot) → i < length now → length now ≡ length slots →
      AnswersCall (setting_with reach rate charged (market_of book)) (get_or now i d).call book answer after →
      AnsweredUpTo (setting_with reach rate charged (market_of start)) start slots (i + 1) after (set now i (answered_slot (get_or now i d).call answer))
  turn d l many one =
      let call = (get_or now i d).call in
      let x : Slot = answered_slot call answer in
      let same : (get_or slots i d).call ≡ call =
      ap (λ (y : Slot). y.call) (ap (λ k. get_or slots k d) (omega arith) ∙ sym (get_or-drop i slots 0 d) ∙ ap (λ ys. get_or ys 0 d) (sym come.ahead) ∙ get_or-drop i now 0 d ∙ ap (λ k. get_or now k d) (omega arith)) in
      record {
        taken = rw (take_more slots i d (omega arith), take_more_set now i x l) (taken_more come.taken one (get_or slots i d) same);
        ahead = drop-set-lt (i + 1) now i x (omega arith) ∙ sym (drop-drop 1 i now) ∙ ap (drop 1) come.ahead ∙ drop-drop 1 i slots;
      }
