use Rattle.std.proofs.Common.{◌≡◌, arith, length-append, ap, length, to_z, of_z, w64, rules}
use Rattle.statement.proofs.line.row_len.Goals as goal

pub returns : goal.returns
returns c =
    let v = c.args.row.now.variation_margin in
    let back : to_z w64 (of_z w64 v) ≡ v = search rules in
    let signed = rw back at c.signed_len.ensures.size in
    let cells = simp length-append at (ap length c.scope_cells.ensures.cells) in
    simp length-append (omega arith)
