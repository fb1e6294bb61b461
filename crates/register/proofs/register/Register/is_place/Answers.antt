use Rattle.std.proofs.Common.{take, drop, Err, subst, arith}
use Rattle.register.specs.Keys.{key_rank, Ascends}
use Rattle.register.specs.Search.{IsPlace, LastBelow, FirstAbove}
use Rattle.register.proofs.Ascending.{placed_between}
use Rattle.register.proofs.register.Register.is_place.Goals as goal

pub returns-then-is_last_below : goal.returns-then-is_last_below
returns-then-is_last_below g c = λ e.
    let f = key_rank g.R.Key.Key.rank g.R.Record.key_of in
    let n = g.R.Key.Key.rank c.args.key in
    let p = c.args.place in
    let xs = c.records-records.result.now in
    let up : Ascends f xs = rw c.records-records.ensures.all c.records-records.ensures.ascends in
    let low : LastBelow f n (take p xs) = subst (LastBelow f n) c.split_at.ensures.front (c.is_last_below.ensures c.if-is_last_below.true) in
    let high : FirstAbove f n (drop p xs) = subst (FirstAbove f n) c.split_at.ensures.back (c.is_first_above.ensures e) in
    subst (λ ys. IsPlace f n ys (Err p)) c.records-records.ensures.all (placed_between f n xs p up (omega (arith, c.if-place-records.false)) low high)
