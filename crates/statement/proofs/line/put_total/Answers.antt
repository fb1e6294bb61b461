use Rattle.std.proofs.Common.{arith, length-append}
use Rattle.statement.proofs.Placed.{then_puts}
use Rattle.statement.proofs.line.put_total.Goals as goal

pub returns : goal.returns
returns c =
    let room = simp length-append at c.requires in
    let rounded = then_puts _ _ _ _ _ _ _ _ (omega arith) (rw c.into.ensures at c.put_number-at-2.ensures) c.put.ensures in
    let rest = then_puts _ _ _ _ _ _ _ _ (omega arith) c.put-at-2.ensures rounded in
    let amount = then_puts _ _ _ _ _ _ _ _ (omega arith) c.put_number-at.ensures rest in
    then_puts _ _ _ _ _ _ _ _ (omega arith) c.put-at.ensures amount
