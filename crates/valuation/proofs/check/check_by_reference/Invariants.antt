use Rattle.valuation.specs.Checks.{IsFound}
use Rattle.valuation.proofs.Faults.{Clear}
use Rattle.valuation.proofs.check.check_by_reference.Given as goal

abbrev pub invariant-loop-line : goal.invariant-loop-line
invariant-loop-line g l = record { known : IsFound (g.B.Basis.setting l.basis) l.lookups; clear : Clear (g.B.Basis.setting l.basis) l.lines l.line-index }
