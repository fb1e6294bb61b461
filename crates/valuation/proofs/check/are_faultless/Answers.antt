use Rattle.std.proofs.Common.{sym, subst}
use Rattle.valuation.specs.Checks.{Faultless}
use Rattle.valuation.proofs.Faults.{clear_more, no_fault}
use Rattle.valuation.proofs.check.are_faultless.Goals as goal

pub loop-line-preserved : goal.loop-line-preserved
loop-line-preserved g c =
    record {
      known = c.fault_of.ensures.known;
      clear = λ f. c.loop-line.invariant.clear (clear_more (g.B.Basis.setting c.args.basis.now) c.in-Some.ensures.steps (no_fault c.fault_of.result c.if-is_err.ensures.value c.fault_of.ensures.answer) f);
    }

pub returns : goal.returns
returns g c = λ _. c.loop-line.invariant.clear (subst (Faultless (g.B.Basis.setting c.args.basis.now)) (sym c.in-None.ensures.steps.0) tt)
