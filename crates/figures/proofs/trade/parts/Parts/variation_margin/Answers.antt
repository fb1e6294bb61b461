use Rattle.std.proofs.Common.{arith}
use Rattle.std.proofs.lemmas.Int.{ints}
use Rattle.figures.proofs.trade.parts.Parts.variation_margin.Goals as goal

pub returns-in-Bought : goal.returns-in-Bought
returns-in-Bought c = record { is = rw c.in-Bought.is (omega (arith, ints)); low = omega (arith, ints); high = omega (arith, ints) }
