use Rattle.std.proofs.Common.{Ok, Err, ◌<◌, ◌≤◌, length, get_or, ltb, ltb-false, subst, rules, sym, ap, ◌∙◌, arith}
use Rattle.std.specs.Option.{is_some}
use Rattle.std.proofs.lemmas.Fn.{always_returns_same}
use Rattle.register.specs.Keys.{key_rank, Ascends}
use Rattle.register.specs.Search.{IsPlace}
use Rattle.register.proofs.Ascending.{ranks_parted, placed_hit, placed_miss}
use Rattle.register.proofs.Compared.{lower, same, higher}
use Rattle.register.proofs.register.Register.place_of.Goals as goal

pub returns-in-Some-clause-place : goal.returns-in-Some-clause-place
returns-in-Some-clause-place g c =
    let rank = g.R.Key.Key.rank in
    let f = key_rank rank g.R.Record.key_of in
    let found = c.in-Some.ensures.lookup.3 in
    let one = same rank _ _ _ c.order.ensures (sym c.is_eq.ensures ∙ c.if-is_eq.true) in
    let up : Ascends f c.records-records.result.now = rw c.records-records.ensures.all c.records-records.ensures.ascends in
    subst (λ xs. IsPlace f (rank c.args.key) xs (Ok c.partition_point-at.result)) c.records-records.ensures.all
    (placed_hit f _ _ _ up found.0 (λ d. ap f (sym (found.1 d)) ∙ ap rank (sym c.key.ensures ∙ one)))

pub returns-in_default-clause-place : goal.returns-in_default-clause-place
returns-in_default-clause-place g c =
    let rank = g.R.Key.Key.rank in
    let f = key_rank rank g.R.Record.key_of in
    let n = rank c.args.key in
    let xs = c.records-records.result.now in
    let at = c.partition_point-at.result in
    let up : Ascends f xs = rw c.records-records.ensures.all c.records-records.ensures.ascends in
    let parts = c.partition_point-at.ensures.partitioned (λ x. ltb (f x) n) (always_returns_same _ _ _ (λ a r s called. search (rules, lower))) (ranks_parted f n xs up) in
    let other : at < length xs → (d : g.row.R.Denot) → n ≤ f (get_or xs at d) → n < f (get_or xs at d) = λ l d m.
    let here = ap f (sym (c.in-Some.ensures.lookup.3.1 d)) ∙ ap rank (sym c.key.ensures) in
    let more = higher rank _ _ _ c.order.ensures (sym c.is_eq.ensures ∙ c.if-is_eq.false) (omega (arith, here)) in
    omega (arith, here, more)
    in
    subst (λ ys. IsPlace f n ys (Err at)) c.records-records.ensures.all (placed_miss f n xs at up c.partition_point-at.ensures.bound parts other)

pub returns-in_default-2-clause-place : goal.returns-in_default-2-clause-place
returns-in_default-2-clause-place g c =
    let rank = g.R.Key.Key.rank in
    let f = key_rank rank g.R.Record.key_of in
    let n = rank c.args.key in
    let xs = c.records-records.result.now in
    let at = c.partition_point-at.result in
    let up : Ascends f xs = rw c.records-records.ensures.all c.records-records.ensures.ascends in
    let parts = c.partition_point-at.ensures.partitioned (λ x. ltb (f x) n) (always_returns_same _ _ _ (λ a r s called. search (rules, lower))) (ranks_parted f n xs up) in
    let past : length xs ≤ at = ltb-false _ _ (sym c.get.ensures.lookup.0 ∙ ap is_some c.in_default.is) in
    subst (λ ys. IsPlace f n ys (Err at)) c.records-records.ensures.all (placed_miss f n xs at up c.partition_point-at.ensures.bound parts (λ l d m. absurd (omega (arith, past))))
