use Rattle.std.proofs.Common.{sym, ap, ◌∙◌}
use Rattle.sheet.specs.Kinds.{cell_at}
use Rattle.rows.specs.Forms.{isin_in, date_in}
use Rattle.rows.specs.Prices.{price_in}
use Rattle.rows.proofs.Records.{price_is}
use Rattle.rows.proofs.price.PriceRowsRowKind.read.Goals as goal

pub returns : goal.returns
returns c =
    let isin = sym (c.in_ok-parse_isin.ensures.is ∙ ap isin_in c.cell.ensures) in
    let price = sym (c.in_ok-parse_price.ensures ∙ ap price_in c.cell-2.ensures) in
    let date = sym (c.in_ok-parse_date.ensures ∙ ap date_in c.cell-3.ensures) in
    price_is (cell_at c.args.cells.now) _ isin price date
