use Rattle.std.proofs.Common.{arith, length-drop, take-add}
use Rattle.std.proofs.KnownBytes.{Appends-trans, Appends-kept}
use Rattle.streams.proofs.Filled.{rest_is}
use Rattle.streams.proofs.print.Goals as goal
use Rattle.streams.proofs.print.Goals.{in-Ok, in-Err+else-ne}

pub writes-preserved : goal.writes-preserved
writes-preserved g c =
    let before = c.writes.invariant in
    let text = c.args.text.now in
    let printed = c.writes.printed in
    elim c.match-write.branch [
      | in-Ok w ↦
          let more = rw (rest_is printed text) at w.in-Ok.ensures.bytes in
          let bound = rw (rest_is printed text) at w.in-Ok.ensures.bound in
          rw (w.printed-is, take-add printed w.in-Ok.n text)
          (omega (arith, before.0, bound, length-drop printed text), Appends-trans _ _ _ _ _ before.1 more)
      | in-Err+else-ne w ↦ rw w.printed-is (before.0, Appends-kept _ _ _ _ before.1 w.in-Err.ensures.bytes)
    ]
