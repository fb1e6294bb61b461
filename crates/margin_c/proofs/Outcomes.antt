-- What a run comes to, by its answer.
use Rattle.std.proofs.Common.{◌≡◌, ℕ, ◌≤◌, List, ◌++◌, length, drop, Ok, Err, refl, sym, ap, arith}
use Rattle.std.proofs.lemmas.List.{length-append}
use Rattle.run.specs.declared.refusal.RunRefusal.{RunRefusal}
use Rattle.run.specs.Refusals.{Outcome, placed_refusal}
use Rattle.run.specs.Answers.{WritesText}

pub refused_is : (o : Outcome (List ℕ)) (e : RunRefusal) (before after : List ℕ) → WritesText o (Err e) before after → o ≡ Err (placed_refusal e)
refused_is (Ok text) e before after h = absurd h
refused_is (Err r) e before after h = ap Err (sym h.0)

pub refused_keeps : (o : Outcome (List ℕ)) (e : RunRefusal) (before after : List ℕ) → WritesText o (Err e) before after → after ≡ before
refused_keeps (Ok text) e before after h = absurd h
refused_keeps (Err r) e before after h = h.1

-- a statement of that length at the front of the buffer
pub record Given (o : Outcome (List ℕ)) (n : ℕ) (before after : List ℕ) : Type 0 where
  pub text : List ℕ
  pub text_is : o ≡ Ok text
  pub count : n ≡ length text
  pub buffer : after ≡ text ++ drop (length text) before

pub given_is : (o : Outcome (List ℕ)) (n : ℕ) (before after : List ℕ) → WritesText o (Ok n) before after → Given o n before after
given_is (Ok text) n before after h = record { text = text; text_is = refl; count = h.0; buffer = h.1 }
given_is (Err r) n before after h = absurd h

pub given_within : {o : Outcome (List ℕ)} {n : ℕ} {before after : List ℕ} → Given o n before after → n ≤ length after
given_within {before = before} g = omega (arith, g.count, ap length g.buffer, length-append g.text (drop (length g.text) before))
