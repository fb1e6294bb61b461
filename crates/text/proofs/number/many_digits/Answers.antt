-- A number past 2^64 is past the highest.
use Rattle.std.proofs.Common.{sym, ◌∙◌, ◌-◌, ◌^◌, arith}
use Rattle.text.proofs.Numbers.{more, past}
use Rattle.text.proofs.number.many_digits.Goals as goal

pub returns-in_err-checked_mul : goal.returns-in_err-checked_mul
returns-in_err-checked_mul c =
    let read = more c.args.digits.now _ _ c.loop-byte.invariant.0 _ c.loop-byte-test.true c.in_ok-digit.ensures.is in
    c.from_residual-in_err-checked_mul.ensures ∙ sym (past (2 ^ 64 - 1) c.args.digits.now _ _ read (omega arith))

pub returns-in_err-number : goal.returns-in_err-number
returns-in_err-number c =
    let read = more c.args.digits.now _ _ c.loop-byte.invariant.0 _ c.loop-byte-test.true c.in_ok-digit.ensures.is in
    c.from_residual-in_err-number.ensures ∙ sym (past (2 ^ 64 - 1) c.args.digits.now _ _ read (omega arith))
