use Rattle.std.proofs.Common.{◌≡◌, ◌-◌, ◌<◌, length, take, length-take, sym, ◌∙◌, arith}
use Rattle.text.specs.Ends.{start_of}
use Rattle.text.proofs.CellEnds.{step, last, full, next_start}
use Rattle.text.proofs.Marks.{ahead, no_more, next, later}
use Rattle.text.proofs.ends.near_ends.Goals as goal

pub returns-then-at-end : goal.returns-then-at-end
returns-then-at-end c =
    let line = take c.args.end c.args.text.now in
    let room = c.loop-place.room in
    let n = c.loop-place.place in
    let at = c.lowest-at.result in
    let l : n < length room = omega (arith, c.loop-place-test.true, c.loop-place.auto.room) in
    let whole : at ≡ length line = omega (arith, c.if-at-end.true, length-take c.args.end c.args.text.now, c.requires.near, c.requires.seen) in
    let low = c.lowest-at.ensures in
    let upto = c.loop-place.invariant.0 in
    let none = no_more line (start_of room n) c.loop-place.marks at c.loop-place.invariant.1 low.set low.below whole in
    let ended = last line _ room n at l upto none whole in
    record { count = (omega (arith, ended.0, l, upto.size), sym ended.0); room = ended.1 }

pub loop-place-preserved : goal.loop-place-preserved
loop-place-preserved c =
    let line = take c.args.end c.args.text.now in
    let room = c.loop-place.room in
    let n = c.loop-place.place in
    let at = c.lowest-at.result in
    let start = start_of room n in
    let l : n < length room = omega (arith, c.loop-place-test.true, c.loop-place.auto.room) in
    let long : length line ≡ c.args.end = omega (arith, length-take c.args.end c.args.text.now, c.requires.near, c.requires.seen) in
    let low = c.lowest-at.ensures in
    let left = c.without-marks.ensures in
    let upto = c.loop-place.invariant.0 in
    let marked = c.loop-place.invariant.1 in
    let from = ahead line start c.loop-place.marks at marked low.set low.below in
    let inside = λ (e : at ≡ length line). c.if-at-end.false (e ∙ long) in
    let found = next line start c.loop-place.marks at marked low.set low.below inside in (
      step line _ room n at l upto (at - start) found (omega (arith, from)),
      rw (next_start line _ room n at l upto) (later line start c.loop-place.marks at c.without-marks.result marked low.below from inside (omega (arith, long, c.requires.near)) left.cleared left.kept low.bound),
    )

pub returns : goal.returns
returns c =
    let upto = c.loop-place.invariant.0 in
    let left = full _ _ _ c.loop-place.place (omega (arith, c.loop-place-test.false, c.loop-place.auto.room)) upto in
    record { count = λ l. absurd (omega (arith, l, left.0, upto.size)); room = left.1 }
