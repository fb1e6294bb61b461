use Rattle.std.proofs.Common.{◌≡◌, None, sym, ◌∙◌, arith, rules, tests}
use Rattle.std.proofs.lemmas.Int.{ints}
use Rattle.text.specs.Numbers.{within_signed}
use Rattle.text.proofs.Numbers.{short}
use Rattle.text.proofs.number.signed_number.Goals as goal

pub returns-in_err-signed-clause-is : goal.returns-in_err-signed-clause-is
returns-in_err-signed-clause-is c =
    let r = short c.in_ok-short_signed_number.field-0 c.args.cell.now c.in_ok-short_signed_number.ensures in
    let n : within_signed c.args.low c.args.high c.in_ok-short_signed_number.field-0 ≡ None = grind (arith, ints) in
    rw r (c.from_residual-in_err-signed.ensures ∙ sym n)

pub returns-clause-is : goal.returns-clause-is
returns-clause-is c =
    let r = short c.in_ok-short_signed_number.field-0 c.args.cell.now c.in_ok-short_signed_number.ensures in
    let e : c.in_ok-signed.signed ≡ c.in_ok-short_signed_number.field-0 = grind (arith, ints) in
    rw (r, ← e) (search (rules, tests))
