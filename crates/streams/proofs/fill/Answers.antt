use Rattle.std.proofs.Common.{arith, ◌-◌, length, ◌≡◌}
use borrow.Rule.Slice.PartMut.{put_mid, same_len_mid}
use Rattle.std.proofs.KnownBytes.{Consumes-trans, Consumes-kept}
use Rattle.std.proofs.lemmas.Slice.{take-put_mid_below}
use Rattle.streams.proofs.Filled.{front_with_part}
use Rattle.streams.proofs.fill.Goals as goal
use Rattle.streams.proofs.fill.Goals.{in-Ok, in-Err+else-ne}

pub reads-preserved : goal.reads-preserved
reads-preserved g c =
    let before = c.reads.invariant in
    let room = c.reads.room in
    let filled = c.reads.filled in
    let part = c.read.new.buf in
    let whole : length (put_mid filled (length room - filled) room part) ≡ length room = same_len_mid filled _ room part c.read.auto.buf in
    elim c.match-read.branch [
      | in-Ok w ↦
          let read = w.in-Ok.ensures.bound.0 in
          rw (w.filled-is, whole, front_with_part filled (length room - filled) w.in-Ok.n room part before.0 read)
          (omega (arith, read, before.0, c.read.auto.buf), Consumes-trans _ _ _ _ _ before.1 w.in-Ok.ensures.bytes.0)
      | in-Err+else-ne w ↦
          rw (w.filled-is, whole, take-put_mid_below filled (length room - filled) room part filled (omega arith) before.0)
          (before.0, Consumes-kept _ _ _ _ before.1 w.in-Err.ensures.bytes)
    ]
