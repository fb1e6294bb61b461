use Rattle.std.proofs.Common.{refl, subst}
use Rattle.valuation.specs.Checks.{Faultless}
use Rattle.valuation.proofs.SameByIsin.{faultless_before}
use Rattle.valuation.proofs.check.check_lines.Goals as goal

pub returns-then-are_faultless : goal.returns-then-are_faultless
returns-then-are_faultless g c =
    let s = g.B.Basis.setting c.args.basis.now in
    faultless_before s c.args.lines.now (subst (Faultless s) c.requires (c.if-are_faultless.ensures refl))
