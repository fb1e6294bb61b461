use Rattle.valuation.specs.Checks.{IsFound, Faultless}
use Rattle.valuation.proofs.check.are_faultless.Given as goal

abbrev pub invariant-loop-line : goal.invariant-loop-line
invariant-loop-line g l = record { known : IsFound (g.B.Basis.setting l.basis) l.lookups; clear : Faultless (g.B.Basis.setting l.basis) l.line-iterator → Faultless (g.B.Basis.setting l.basis) l.lines }
