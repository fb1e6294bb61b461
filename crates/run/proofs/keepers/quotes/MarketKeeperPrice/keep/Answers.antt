use Rattle.std.proofs.Common.{refl}
use Rattle.register.specs.Changes.{insert_after}
use Rattle.market.specs.Records.{price_rank}
use Rattle.market.proofs.Put.{put_as_inserted}
use Rattle.run.proofs.Put.{table_keeps}
use Rattle.run.proofs.keepers.quotes.MarketKeeperPrice.keep.Goals as goal

pub returns-clause-answer : goal.returns-clause-answer
returns-clause-answer c =
    let q = c.args.self.now in
    let p = c.args.row in
    let after = insert_after price_rank q.room p q.prices in
    let puts = put_as_inserted price_rank q.room p q.prices c.add_price.result after c.add_price.ensures.answer refl in
    rw (c.answer_with_reference.ensures, c.add_price.ensures.after) (table_keeps (λ ps. record q { prices = ps }) _ q.prices c.add_price.result after puts)
