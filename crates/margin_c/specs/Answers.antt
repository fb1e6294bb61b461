-- What C is answered by a run, and what the memory that it lent then holds.
use Rattle.std.specs.Prelude.{ℕ, ℤ, pos, neg_ℤ, List, ◌++◌, length, drop, Ok, Err}
use Rattle.run.specs.Refusals.{Outcome}
use Rattle.margin_c.specs.declared.refusal.MarginRefusal.{MarginRefusal}
use Rattle.margin_c.specs.Refusals.{no_refusal, refusal_for_c}

-- the length of the statement, or minus the number of the refusal
abbrev pub answer_of : Outcome (List ℕ) → ℤ
answer_of (Ok text) = pos (length text)
answer_of (Err r) = neg_ℤ (pos r.number)

-- the buffer with the statement at its front, and behind it what stood there;
-- a refusal leaves the buffer as it was
abbrev pub buffer_after : Outcome (List ℕ) → List ℕ → List ℕ
buffer_after (Ok text) before = text ++ drop (length text) before
buffer_after (Err r) before = before

-- what is reported of a refusal
abbrev pub refusal_of : Outcome (List ℕ) → MarginRefusal
refusal_of (Ok text) = no_refusal
refusal_of (Err r) = refusal_for_c r
