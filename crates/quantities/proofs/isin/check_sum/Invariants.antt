use Rattle.std.proofs.Common.{◌≡◌, ◌+◌, ◌*◌, ◌≤◌, length, drop, reverse}
use Rattle.quantities.specs.Isins.{check_sum}
use Rattle.quantities.proofs.Weights.{weights, from_right}
use Rattle.quantities.proofs.isin.check_sum.Given as goal

abbrev pub invariant-loop-byte : goal.invariant-loop-byte
invariant-loop-byte l =
    (l.sum + weights l.doubled (from_right (drop (length l.yielded) (reverse l.bytes))) ≡ check_sum l.bytes) × (l.sum ≤ 255 * length l.yielded)
