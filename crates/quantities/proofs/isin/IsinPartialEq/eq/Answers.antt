use Rattle.std.proofs.Common.{◌∙◌}
use Rattle.quantities.proofs.Words.{Words, same_words}
use Rattle.quantities.proofs.isin.IsinPartialEq.eq.Goals as goal

pub returns : goal.returns
returns c =
    let h = c.little_endian_words.ensures in
    let k = c.little_endian_words-2.ensures in
    let left : Words c.args.self.now.bytes c.little_endian_words.result.0 c.little_endian_words.result.1 = record { count = h.count; small = h.small; first = h.first; last = h.last } in
    let right : Words c.args.other.now.bytes c.little_endian_words-2.result.0 c.little_endian_words-2.result.1 = record { count = k.count; small = k.small; first = k.first; last = k.last } in
    c.eq.ensures ∙ same_words _ _ _ _ _ _ left right
