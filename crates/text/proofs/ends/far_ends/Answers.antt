use Rattle.std.proofs.Common.{◌+◌, ◌<◌, length, refl, sym, ap, ◌∙◌, arith}
use Rattle.std.proofs.lemmas.List.{take_rest}
use Rattle.text.proofs.CellEnds.{step, last, full, next_start}
use Rattle.text.proofs.ends.far_ends.Goals as goal

pub returns-in-None : goal.returns-in-None
returns-in-None c =
    let line = c.args.line.now in
    let room = c.loop-place.room in
    let l : c.loop-place.place < length room = omega (arith, c.loop-place-test.true, c.loop-place.auto.room) in
    let upto = c.loop-place.invariant.0 in
    let start = c.loop-place.invariant.1 in
    let found = sym c.position.ensures ∙ c.in-None.is in
    let ended = last line _ room c.loop-place.place (length line) l upto (rw (← start) (rw take_rest at found)) refl in
    record { count = (omega (arith, ended.0, l, upto.size), sym ended.0); room = ended.1 }

pub loop-place-preserved : goal.loop-place-preserved
loop-place-preserved c =
    let line = c.args.line.now in
    let room = c.loop-place.room in
    let l : c.loop-place.place < length room = omega (arith, c.loop-place-test.true, c.loop-place.auto.room) in
    let upto = c.loop-place.invariant.0 in
    let start = c.loop-place.invariant.1 in
    let found = sym c.position.ensures ∙ c.in-Some.is in
    let p = c.loop-place.start + c.in-Some.len in (
      step line _ room c.loop-place.place p l upto c.in-Some.len (rw (← start) (rw take_rest at found)) (ap (λ s. s + c.in-Some.len) start),
      omega (arith, next_start line _ room c.loop-place.place p l upto),
    )

pub returns : goal.returns
returns c =
    let upto = c.loop-place.invariant.0 in
    let left = full _ _ _ c.loop-place.place (omega (arith, c.loop-place-test.false, c.loop-place.auto.room)) upto in
    record { count = λ l. absurd (omega (arith, l, left.0, upto.size)); room = left.1 }
