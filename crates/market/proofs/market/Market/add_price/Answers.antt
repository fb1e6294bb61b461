use Rattle.std.proofs.Common.{refl}
use Rattle.market.proofs.market.Market.add_price.Goals as goal

pub returns-clause-answer : goal.returns-clause-answer
returns-clause-answer c = rw (← c.self.view_is) c.insert.ensures.change.answers

pub returns-clause-after : goal.returns-clause-after
returns-clause-after c = rw (← c.self.view_is, c.insert.ensures.change.leaves, c.insert.ensures.room) refl
