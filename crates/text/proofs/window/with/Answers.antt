use Rattle.std.proofs.Common.{w64}
use Rattle.std.proofs.lemmas.Nat.Bits.{bit_at_set_same, bit_at_set_other}
use Rattle.text.proofs.window.with.Goals as goal

pub returns : goal.returns
returns c =
    record { set = bit_at_set_same w64 c.args.marks c.args.bit c.requires; kept = bit_at_set_other w64 c.args.marks c.args.bit c.requires }
