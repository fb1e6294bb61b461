use Rattle.std.proofs.Common.{◌∙◌}
use Rattle.market.proofs.market.Market.price_of.Goals as goal

pub returns : goal.returns
returns c = rw (← c.self.view_is) (c.copied.ensures ∙ c.find.ensures.found)
