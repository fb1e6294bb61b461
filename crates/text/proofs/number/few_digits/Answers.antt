use Rattle.std.proofs.Common.{arith}
use Rattle.text.proofs.Numbers.{fits}
use Rattle.text.proofs.number.few_digits.Goals as goal

pub overflow_mul-number : goal.overflow_mul-number
overflow_mul-number c = record { fits = omega (arith, fits c.loop-byte.number 0 c.loop-byte.byte-index c.loop-byte.invariant.1 (omega arith) (omega (arith, c.requires))) }

pub overflow_add-number : goal.overflow_add-number
overflow_add-number c = record { fits = fits c.loop-byte.number c.in_ok-number.field-0 c.loop-byte.byte-index c.loop-byte.invariant.1 c.in_ok-number.ensures.small (omega (arith, c.requires)) }
