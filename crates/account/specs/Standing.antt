-- Which lines stand after calls, said by the calls and their answers alone.
use Rattle.std.specs.Prelude.{◌≡◌, ℕ, ◌⊎◌, ◌↔◌, List, [], ◌∷◌, ⊤}
use Rattle.register.specs.Keys.{Ascends}
use Rattle.account.specs.declared.line.Line.{Line}
use Rattle.account.specs.declared.call.Call.TheVariants.{Enter, Withdraw}
use Rattle.account.specs.Calls.{accepted, Event, line_rank}

-- a line is among lines
abbrev pub IsAmong : Line → List Line → Type 0
IsAmong x [] = ⊥
IsAmong x (l ∷ ls) = (l ≡ x) ⊎ IsAmong x ls

-- a line stands under a reference
abbrev pub StandsUnder : ℕ → List Line → Type 0
StandsUnder r [] = ⊥
StandsUnder r (l ∷ ls) = (l.reference ≡ r) ⊎ StandsUnder r ls

-- a line is entered, and accepted
abbrev pub Enters : Line → Event → Type 0
Enters l e = (e.0 ≡ Enter l) × (e.1 ≡ accepted)

-- a reference is withdrawn, and accepted
abbrev pub Withdraws : ℕ → Event → Type 0
Withdraws r e = (e.0 ≡ Withdraw r) × (e.1 ≡ accepted)

-- a reference is not withdrawn in any of the calls
abbrev pub IsNotWithdrawn : ℕ → List Event → Type 0
IsNotWithdrawn r [] = ⊤
IsNotWithdrawn r (e ∷ es) = ¬ Withdraws r e × IsNotWithdrawn r es

-- a line is entered in one of the calls, and its reference is not withdrawn in a later one
abbrev pub IsEnteredToStay : Line → List Event → Type 0
IsEnteredToStay l [] = ⊥
IsEnteredToStay l (e ∷ es) =
    (Enters l e × IsNotWithdrawn l.reference es) ⊎ IsEnteredToStay l es

-- the lines that stand after calls: those that were entered to stay, by reference, under each of
-- which one stands at most
pub record StandAfter (es : List Event) (lines : List Line) : Type 0 where
  pub each : (l : Line) → IsAmong l lines ↔ IsEnteredToStay l es
  pub ascend : Ascends line_rank lines
