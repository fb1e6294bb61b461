use Rattle.std.proofs.Common.{refl}
use Rattle.register.specs.Changes.{insert_after}
use Rattle.market.specs.Records.{percentage_rank}
use Rattle.market.proofs.Put.{put_never_full}
use Rattle.run.proofs.Put.{table_keeps}
use Rattle.run.proofs.keepers.quotes.MarketKeeperPercentage.keep.Goals as goal

pub returns-clause-answer : goal.returns-clause-answer
returns-clause-answer c =
    let q = c.args.self.now in
    let p = c.args.row in
    let h = c.add_percentage.ensures in
    let after = insert_after percentage_rank 6 p q.percentages in
    let puts = put_never_full percentage_rank 6 p q.percentages c.add_percentage.result after h.answer h.never_full refl in
    rw (c.answer_with_reference.ensures, h.after) (table_keeps (λ ps. record q { percentages = ps }) _ q.percentages c.add_percentage.result after puts)
