use Rattle.std.proofs.Common.{refl}
use Rattle.register.specs.Changes.{insert_after}
use Rattle.curve.specs.Points.{point_rank}
use Rattle.market.proofs.Put.{put_as_inserted}
use Rattle.run.proofs.Put.{table_keeps}
use Rattle.run.proofs.keepers.points.PointsKeeperPoint.keep.Goals as goal

pub returns-clause-answer : goal.returns-clause-answer
returns-clause-answer c =
    let h = c.args.self.now in
    let p = c.args.row in
    let after = insert_after point_rank h.room p h.records in
    let puts = put_as_inserted point_rank h.room p h.records c.add.result after c.add.ensures.answer refl in
    rw (c.answer_with_reference.ensures, c.add.ensures.after) (table_keeps (λ ps. record h { records = ps }) _ h.records c.add.result after puts)
