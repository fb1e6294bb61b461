use Rattle.std.proofs.Common.{◌-◌}
use Rattle.account.specs.ByIsin.{isin_line_rank}
use Rattle.account.proofs.Ranked.{Searched}
use Rattle.account.proofs.by_isin.ByIsin.rank_of.Given as goal

abbrev pub invariant-loop-low : goal.invariant-loop-low
invariant-loop-low l = Searched isin_line_rank (isin_line_rank l.fn.line) l.self l.low l.high

abbrev pub decreases-loop-low : goal.decreases-loop-low
decreases-loop-low l = l.high - l.low
