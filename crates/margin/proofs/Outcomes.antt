-- What the bytes of an input come to.
use Rattle.std.proofs.Common.{◌≡◌, ℕ, ◌+◌, Bool, true, false, cond, nat_lt, List, [], ◌∷◌, ◌++◌, length, take, None, Some, Ok, Err, IfSome, IfOk, Result, Option, refl, ap, subst, ◌∙◌, arith, take_all, length-take-le}
use lib.Seq.{take-append_seam}
use Rattle.std.proofs.lemmas.Bool.{lt-ltb, ltb-true, ltb-false}
use Rattle.run.specs.declared.refusal.RunRefusal.{RunRefusal}
use Rattle.run.specs.Refusals.{Outcome, placed_refusal, refusal_text}
use Rattle.run.specs.Runs.{most_bytes, sheets_outcome, run}
use Rattle.run.specs.Answers.{WritesText}
use Rattle.margin.specs.Program.{outcome_text, told_of, input_outcome, printed, told}
use Rattle.run.specs.declared.run.TheConstants.{MOST_STATEMENT}
use Rattle.margin.specs.declared.request.Request.TheVariants.{Run}

-- of an input that is too long, one byte more than the most is as good as the whole
capped : {X : Type 0} (most : ℕ) (bytes : List ℕ) (long : X) (else_of : List ℕ → X) →
    cond (nat_lt most (length (take (most + 1) bytes))) long (else_of (take (most + 1) bytes))
    ≡ cond (nat_lt most (length bytes)) long (else_of bytes)
capped {X} most bytes long else_of = go (nat_lt most (length bytes)) refl
  where
    go : (b : Bool) → nat_lt most (length bytes) ≡ b →
        cond (nat_lt most (length (take (most + 1) bytes))) long (else_of (take (most + 1) bytes))
        ≡ cond (nat_lt most (length bytes)) long (else_of bytes)
    go true over =
        let cut = length-take-le (most + 1) bytes (omega (arith, ltb-true _ _ over)) in
        rw (cut, lt-ltb most (most + 1) (omega arith), over) refl
    go false few = rw (take_all (most + 1) bytes (omega (arith, ltb-false _ _ few))) refl

pub outcome_of_front : (bytes : List ℕ) →
    input_outcome (take (most_bytes + 1) bytes) ≡ input_outcome bytes
unfolding input_outcome
outcome_of_front bytes = capped most_bytes bytes _ (λ sheets. sheets_outcome sheets MOST_STATEMENT)

outcome_of : (bytes sheets : List ℕ) → sheets ≡ take (most_bytes + 1) bytes →
    input_outcome sheets ≡ input_outcome bytes
outcome_of bytes sheets front = ap input_outcome front ∙ outcome_of_front bytes

-- so what is printed and told of the front is what is due for the whole
pub printed_of_front : {X E : Type 0} (out : X → List ℕ) (input : Option (List ℕ))
    (sheets : List ℕ) (answer : Result X E) →
    IfSome input (λ bytes. sheets ≡ take (most_bytes + 1) bytes) →
    IfOk answer (λ x. out x ≡ outcome_text (input_outcome sheets)) →
    IfOk answer (λ x. IfSome (printed Run input) (λ text. out x ≡ text))
unfolding printed
printed_of_front out None sheets (Ok x) front is = tt
printed_of_front out (Some bytes) sheets (Ok x) front is =
    is ∙ ap outcome_text (outcome_of bytes sheets front)
printed_of_front out input sheets (Err e) front is = tt

pub told_of_front : {X E : Type 0} (err : X → List ℕ) (input : Option (List ℕ))
    (sheets : List ℕ) (answer : Result X E) →
    IfSome input (λ bytes. sheets ≡ take (most_bytes + 1) bytes) →
    IfOk answer (λ x. IfSome (told_of (input_outcome sheets)) (λ text. err x ≡ text)) →
    IfOk answer (λ x. IfSome (told Run input) (λ text. err x ≡ text))
unfolding told
told_of_front err None sheets (Ok x) front is = tt
told_of_front err (Some bytes) sheets (Ok x) front is =
    subst (λ outcome. IfSome (told_of outcome) (λ text. err x ≡ text))
    (outcome_of bytes sheets front) is
told_of_front err input sheets (Err e) front is = tt

-- a statement is what stands at the front of the buffer, and nothing is told of it
pub stated : (sheets : List ℕ) (len : ℕ) (before after : List ℕ) →
    length before ≡ MOST_STATEMENT →
    WritesText (run sheets (length before)) (Ok len) before after →
    (take len after ≡ outcome_text (input_outcome sheets))
    × (told_of (input_outcome sheets) ≡ Some [])
unfolding input_outcome outcome_text told_of
stated sheets len before after room written =
    go (run sheets MOST_STATEMENT)
    (subst (λ n. WritesText (run sheets n) (Ok len) before after) room written)
  where
    go : (due : Outcome (List ℕ)) → WritesText due (Ok len) before after →
        (take len after ≡ outcome_text due) × (told_of due ≡ Some [])
    go (Ok text) is = (rw (is.0, is.1) (take-append_seam text _), refl)
    go (Err r) is = absurd is

-- a refusal is a line
pub refused : (sheets : List ℕ) (e : RunRefusal) (before after : List ℕ)
    (P : List ℕ → Type 0) → length before ≡ MOST_STATEMENT →
    WritesText (run sheets (length before)) (Err e) before after →
    (refusal_text (placed_refusal e) ++ (10 ∷ []) ≡ outcome_text (input_outcome sheets))
    × IfSome (told_of (input_outcome sheets)) P
unfolding input_outcome outcome_text told_of
refused sheets e before after P room written =
    go (run sheets MOST_STATEMENT)
    (subst (λ n. WritesText (run sheets n) (Err e) before after) room written)
  where
    go : (due : Outcome (List ℕ)) → WritesText due (Err e) before after →
        (refusal_text (placed_refusal e) ++ (10 ∷ []) ≡ outcome_text due)
        × IfSome (told_of due) P
    go (Ok text) is = absurd is
    go (Err r) is = (ap (λ r. refusal_text r ++ (10 ∷ [])) is.0, tt)
