use Rattle.std.proofs.Common.{arith}
use Rattle.book.proofs.Working.{turn}
use Rattle.book.proofs.book.Book.take_all.Goals as goal

pub loop-slot-preserved : goal.loop-slot-preserved
loop-slot-preserved g c = turn c.loop-slot.invariant _ (omega arith) c.loop-slot.auto.slots c.take.ensures
