use Rattle.std.proofs.Common.{sym}
use Rattle.rows.proofs.Quantities.{price_read}
use Rattle.rows.proofs.price.parse_price.Goals as goal

pub returns : goal.returns
returns c =
    let found = rw (c.from.ensures, c.from-2.ensures) at c.in_ok-millionths.ensures.is in
    sym (price_read c.args.cell.now _ (sym found))
