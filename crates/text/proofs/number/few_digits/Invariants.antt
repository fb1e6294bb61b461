use Rattle.std.proofs.Common.{◌<◌, ◌^◌}
use Rattle.text.proofs.Numbers.{Read}
use Rattle.text.proofs.number.few_digits.Given as goal

abbrev pub invariant-loop-byte : goal.invariant-loop-byte
invariant-loop-byte l = Read l.digits l.byte-index l.number × (l.number < 10 ^ l.byte-index)
