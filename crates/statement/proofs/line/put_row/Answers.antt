use Rattle.std.proofs.Common.{◌≡◌, arith, ap, length, to_z, of_z, w64, rules, length-append, append_assoc}
use Rattle.statement.proofs.Placed.{then_puts}
use Rattle.statement.proofs.line.put_row.Goals as goal

pub returns : goal.returns
returns c =
    let v = c.args.row.now.variation_margin in
    let back : to_z w64 (of_z w64 v) ≡ v = search rules in
    let room = simp length-append at c.requires in
    let cells = simp length-append at (ap length c.scope_cells.ensures.cells) in
    let variation = then_puts _ _ _ _ _ _ _ _ (omega arith) (rw back at c.put_signed-at.ensures) c.put.ensures in
    let rest = then_puts _ _ _ _ _ _ _ _ (omega arith) c.put-at-3.ensures variation in
    let initial = then_puts _ _ _ _ _ _ _ _ (omega arith) c.put_number-at.ensures rest in
    let scope = then_puts _ _ _ _ _ _ _ _ (omega arith) c.put-at-2.ensures initial in
    let whole = then_puts _ _ _ _ _ _ _ _ (omega arith) c.put-at.ensures scope in
    simp append_assoc at (rw c.scope_cells.ensures.cells at whole)
