use Rattle.market.proofs.Room.{not_full}
use Rattle.market.proofs.market.Market.add_percentage.Goals as goal

pub returns-clause-never_full : goal.returns-clause-never_full
returns-clause-never_full c = not_full _ c.args.percentage _ _ c.self.invariant c.insert.ensures.ascends c.insert.ensures.change.answers
