use Rattle.std.proofs.Common.{◌≡◌, ◌<◌, length, take, ap, ◌∙◌, subst, arith}
use Rattle.std.proofs.lemmas.List.{length-take-le}
use Rattle.std.specs.List.{insert}
use Rattle.register.specs.Keys.{key_rank}
use Rattle.register.specs.Search.{Misses}
use Rattle.register.proofs.Changes.{inserts}
use Rattle.register.proofs.register.Register.insert_near.Goals as goal

pub returns-clause-change : goal.returns-clause-change
returns-clause-change g c =
    let f = key_rank g.R.Key.Key.rank g.R.Record.key_of in
    let held = c.args.self.now in
    let used = c.self.inside.used in
    let places = c.self.inside.places.now in
    let at = c.in-Err.at in
    let all : take used places ≡ held.records = ap (λ h. h.records) c.self.view_is in
    let free : length held.records < held.room = omega (arith, ap length all, length-take-le used places (omega arith), c.room.ensures) in
    let misses = subst (λ n. Misses f n held.records at) (ap g.R.Key.Key.rank c.key.ensures) c.in-Err.ensures.1 in
    inserts f held.records held.room c.args.record at _ free misses (c.insert_at.ensures ∙ ap (λ xs. insert xs at c.args.record) all)
