use Rattle.std.proofs.Common.{Ok, rules, arith}
use Rattle.register.specs.Keys.{key_rank}
use Rattle.register.specs.Search.{IsPlace}
use Rattle.register.proofs.register.Register.find_near.Goals as goal

pub overflow_add-guess : goal.overflow_add-guess
overflow_add-guess g c =
    let f = key_rank g.R.Key.Key.rank g.R.Record.key_of in
    let place : IsPlace f (g.R.Key.Key.rank c.args.key) c.args.self.now.records (Ok c.in_ok-at.at) = search rules in
    omega (arith, place.0, c.records-records.ensures.within, c.records-records.ensures.few)
