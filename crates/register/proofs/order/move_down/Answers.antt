use Rattle.register.specs.Places.{moved_down}
use Rattle.register.proofs.Places.{written_over}
use Rattle.register.proofs.order.move_down.Goals as goal

pub loop-place-preserved : goal.loop-place-preserved
loop-place-preserved c = written_over (moved_down c.args.at) c.args.places.now c.loop-place.places c.loop-place.place-index _ c.loop-place-test.true c.loop-place.auto.places c.loop-place.invariant c.moved_down.ensures
