use Rattle.std.proofs.Common.{◌∙◌}
use Rattle.market.proofs.market.Market.price_near.Goals as goal

pub returns : goal.returns
returns c = rw (← c.self.view_is) record { found = c.copied.ensures ∙ c.find_near.ensures.found; moved = c.find_near.ensures.moved }
