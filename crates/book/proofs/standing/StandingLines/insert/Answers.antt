use Rattle.std.proofs.Common.{◌<◌, length, Ok, sym, ◌∙◌, subst, arith}
use Rattle.register.specs.Changes.{Inserts}
use Rattle.register.proofs.Places.{listed_there}
use Rattle.account.specs.Calls.{line_rank}
use Rattle.account.specs.ByIsin.{SmallReferences}
use Rattle.account.proofs.ByIsin.{by_isin_long}
use Rattle.book.specs.Standing.{HasPlaces}
use Rattle.book.proofs.BothOrders.{accepted_fits, accepted_inserted, as_long, both_inserted}
use Rattle.book.proofs.standing.StandingLines.insert.Goals as goal
use Rattle.book.proofs.standing.StandingLines.insert.Goals.{In_ok-insert_near}

module _ (c : In_ok-insert_near) where
  has : HasPlaces c.args.line c.self.inside.by_reference.records c.args.places
  has = subst (λ t. HasPlaces c.args.line t.records c.args.places) (sym c.self.view_is) c.requires.places

  fits : length c.self.inside.by_reference.records < c.self.inside.by_reference.room
  fits = accepted_fits line_rank c.self.inside.by_reference.room c.args.line c.self.inside.by_reference.records _ has.by_reference.1.absent c.in_ok-insert_near.ensures.change

pub invariant_of-self-2 : goal.invariant_of-self-2
invariant_of-self-2 c =
    let i = (goal.at.invariant_of-self-2 c).In_ok-insert_near in
    let h = has i in
    let t = c.self.inside.by_reference in
    let order = c.self.inside.by_isin in
    let long = as_long t order c.self.invariant in
    let listed =
    c.insert.ensures.places
    ∙ listed_there c.args.places.by_isin c.args.places.by_reference order.room order.records (omega (arith, fits i, long, c.self.invariant.same_room)) (omega (arith, h.by_isin.0, long, by_isin_long t.records)) (omega (arith, h.by_reference.0, long)) in
    both_inserted t order c.self.invariant c.args.line c.args.places _ _ h (subst (λ u. SmallReferences u.records) (sym c.self.view_is) c.requires.small) c.requires.own
    (accepted_inserted line_rank t.room c.args.line t.records _ h.by_reference.1.absent c.in_ok-insert_near.ensures.change) listed (c.insert.ensures.room ∙ c.self.invariant.same_room ∙ sym c.in_ok-insert_near.ensures.room)

pub returns-clause-change : goal.returns-clause-change
returns-clause-change c = subst (λ t. Inserts line_rank t.room c.args.line t.records (Ok tt) c.insert_near.new.self.records) c.self.view_is c.in_ok-insert_near.ensures.change
