use Rattle.std.proofs.Common.{arith}
use Rattle.statement.proofs.Placed.{then_puts}
use Rattle.statement.proofs.line.put_end.Goals as goal

pub returns : goal.returns
returns c =
    let amount = then_puts _ _ _ _ _ _ _ _ (omega arith) c.put_number-at.ensures c.put.ensures in
    then_puts _ _ _ _ _ _ _ _ (omega arith) c.put-at.ensures amount
