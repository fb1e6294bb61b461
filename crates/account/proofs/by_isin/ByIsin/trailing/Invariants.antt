use Rattle.std.proofs.Common.{◌≡◌, ◌≤◌, true, drop, length}
use Rattle.std.specs.List.{list_all}
use Rattle.account.specs.Lines.{same_isin}
use Rattle.account.proofs.by_isin.ByIsin.trailing.Given as goal

abbrev pub invariant-loop-rank : goal.invariant-loop-rank
invariant-loop-rank l = record { within : l.rank ≤ length l.self; all : list_all (λ k. same_isin k.isin l.isin) (drop l.rank l.self) ≡ true }

abbrev pub decreases-loop-rank : goal.decreases-loop-rank
decreases-loop-rank l = l.rank
