use Rattle.std.proofs.Common.{w64}
use Rattle.std.proofs.lemmas.Nat.Bits.{bit_at_clear_same, bit_at_clear_other}
use Rattle.text.proofs.window.without.Goals as goal

pub returns : goal.returns
returns c =
    record { cleared = bit_at_clear_same w64 c.args.marks c.args.bit c.requires; kept = bit_at_clear_other w64 c.args.marks c.args.bit c.requires }
