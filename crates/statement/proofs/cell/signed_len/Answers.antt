use Rattle.std.proofs.Common.{◌≡◌, ℕ, ◌≤◌, Bool, true, false, arith}
use Rattle.std.proofs.lemmas.Fmt.{length-decimal-le}
use Rattle.statement.proofs.cell.signed_len.Goals as goal
use mir.Val.{bool_byte}

one_at_most : (b : Bool) (n : ℕ) → n ≡ bool_byte b → n ≤ 1
one_at_most true n e = omega (arith, e)
one_at_most false n e = omega (arith, e)

-- a number of 63 bits has 19 digits at most
pub returns-clause-bound : goal.returns-clause-bound
returns-clause-bound c =
    let below = c.unsigned_abs.ensures.bound in
    let digits = length-decimal-le 19 c.unsigned_abs.result (omega arith) (omega (arith, below)) (omega (arith, below)) in
    omega (arith, c.digits.ensures.size, digits, one_at_most _ c.from.result c.from.ensures)
