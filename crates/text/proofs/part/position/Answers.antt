use Rattle.std.proofs.Common.{sym, ◌∙◌, eqb, arith}
use Rattle.text.proofs.Marks.{is_set, is_clear, first_at}
use Rattle.text.proofs.part.position.Goals as goal

pub returns-then-marks-ne0 : goal.returns-then-marks-ne0
returns-then-marks-ne0 c =
    let marked = c.marks-marks.ensures in
    let low = c.lowest.ensures in
    sym (first_at (λ b. eqb b c.args.separator) c.args.bytes.now c.lowest.result (omega (arith, low.bound, c.if-bytes-ge-WINDOW.true))
    (λ k l. is_clear _ (sym (marked k (omega (arith, low.bound))) ∙ low.below k l))
    (is_set _ (sym (marked _ low.bound) ∙ low.set)))
