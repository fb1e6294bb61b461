use Rattle.std.proofs.Common.{Ok, subst, sym, ap, ◌∙◌}
use Rattle.register.specs.Keys.{key_rank, Ascends}
use Rattle.register.specs.Search.{IsPlace}
use Rattle.register.proofs.Ascending.{placed_hit}
use Rattle.register.proofs.Compared.{same}
use Rattle.register.proofs.register.Register.stands_at.Goals as goal

pub returns-in-Some : goal.returns-in-Some
returns-in-Some g c = λ e.
    let rank = g.R.Key.Key.rank in
    let f = key_rank rank g.R.Record.key_of in
    let found = c.in-Some.ensures.lookup.3 in
    let one = same rank _ _ _ c.order.ensures (sym c.is_eq.ensures ∙ e) in
    let up : Ascends f c.records.result.now = rw c.records.ensures.all c.records.ensures.ascends in
    subst (λ xs. IsPlace f (rank c.args.key) xs (Ok c.args.place)) c.records.ensures.all
    (placed_hit f _ _ _ up found.0 (λ d. ap f (sym (found.1 d)) ∙ ap rank (sym c.key.ensures ∙ one)))
