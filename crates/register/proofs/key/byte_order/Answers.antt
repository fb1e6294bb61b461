use Rattle.std.proofs.Common.{rules}
use Rattle.register.specs.Bytes.{Bytes}
use Rattle.register.proofs.Bytes.{twelve_compared, byte_order}
use Rattle.register.proofs.key.byte_order.Goals as goal

pub returns : goal.returns
returns c =
    let left : Bytes 12 c.args.left.now = record { many = c.told-left; small = λ i _. c.fits-left i } in
    let right : Bytes 12 c.args.right.now = record { many = c.told-right; small = λ i _. c.fits-right i } in
    record {
      order = rw (c.then.ensures, c.cmp.ensures, c.cmp-2.ensures) (twelve_compared _ _ _ _ _ _ left right c.big_endian_words-first.ensures c.big_endian_words-other_first.ensures (search rules) (search rules));
      bytes = (left, right);
      agrees = byte_order 12;
    }
