use Rattle.account.specs.declared.scope.Scope.{Scope}
use Rattle.valuation.specs.IsinSums.{scope_sums}
use Rattle.valuation.proofs.IsinSums.{SumsBefore}
use Rattle.valuation.proofs.LineLoops.{AreAmong}
use Rattle.valuation.proofs.isin_lines.IsinLines.sums.Given as goal

abbrev pub invariant-loop-line : goal.invariant-loop-line
invariant-loop-line g l = record { among : AreAmong l.self.lines l.line-iterator; sums : (scope : Scope) → SumsBefore (g.B.Basis.setting l.self.basis.now) l.self.isin scope l.self.lines l.line-iterator (scope_sums l.sums scope) }
