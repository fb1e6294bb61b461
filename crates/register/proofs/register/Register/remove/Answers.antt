use Rattle.std.proofs.Common.{◌≡◌, ◌<◌, take, get_or, Ok, sym, ap, ◌∙◌, rules, arith}
use Rattle.std.proofs.lemmas.List.{get_or_default, get_or-take}
use Rattle.std.specs.List.{remove}
use Rattle.register.specs.Keys.{key_rank}
use Rattle.register.specs.Search.{IsPlace}
use Rattle.register.proofs.Changes.{removes}
use Rattle.register.proofs.register.Register.remove.Goals as goal

pub returns-clause-change : goal.returns-clause-change
returns-clause-change g c =
    let f = key_rank g.R.Key.Key.rank g.R.Record.key_of in
    let n = g.R.Key.Key.rank c.args.key in
    let records = c.args.self.now.records in
    let used = c.self.inside.used in
    let places = c.self.inside.places.now in
    let at = c.in_ok-at.at in
    let x = get_or places at c.index-self-at.result in
    let all : take used places ≡ records = ap (λ h. h.records) c.self.view_is in
    let place : IsPlace f n records (Ok at) = search rules in
    let l : at < used = search rules in
    removes f records n at x _ place.1
    (get_or_default places at c.index-self-at.result x (omega arith) ∙ (sym (get_or-take used places at x l) ∙ ap (λ xs. get_or xs at x) all))
    (c.remove_at.ensures ∙ ap (λ xs. remove xs at) all)
