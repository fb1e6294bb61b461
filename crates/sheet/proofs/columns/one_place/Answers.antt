use Rattle.sheet.proofs.Named.{passed, noted, twice}
use Rattle.sheet.proofs.columns.one_place.Goals as goal
use Rattle.sheet.proofs.columns.one_place.Goals.{then-ne, else-ne+in-None}

pub returns-in-Some-clause-is : goal.returns-in-Some-clause-is
returns-in-Some-clause-is c =
    twice c.args.name.now c.args.names.now c.loop-place.place _ _ c.loop-place-test.true c.in-Some.field-0 (rw c.in-Some.is at c.loop-place.invariant.0) c.if-ne.ensures

pub loop-place-preserved : goal.loop-place-preserved
loop-place-preserved c =
    elim c.if-ne.branch [
      | then-ne w ↦ rw w.found-is (passed c.args.name.now c.args.names.now c.loop-place.place _ _ c.loop-place-test.true _ c.loop-place.invariant.0 w.if-ne.ensures, c.loop-place.invariant.1)
      | else-ne+in-None w ↦ rw w.found-is (noted c.args.name.now c.args.names.now c.loop-place.place _ _ c.loop-place-test.true (rw w.in-None.is at c.loop-place.invariant.0) w.if-ne.ensures, c.loop-place-test.true)
    ]
