use Rattle.std.proofs.Common.{◌≡◌, ◌≤◌, length, get_or, sym, ap, ◌∙◌, subst, arith}
use Rattle.register.specs.Changes.{Removes}
use Rattle.register.specs.Keys.{Ascends}
use Rattle.register.specs.Search.{SplitsAt}
use Rattle.account.specs.Calls.{line_rank}
use Rattle.account.specs.ByIsin.{isin_line_rank, lines_by_isin, no_line, SmallReferences}
use Rattle.account.proofs.ByIsin.{by_isin_law}
use Rattle.register.proofs.Places.{unlisted_there}
use Rattle.book.proofs.BothOrders.{as_long, rank_within, both_removed}
use Rattle.book.proofs.standing.StandingLines.remove.Goals as goal
use Rattle.book.proofs.standing.StandingLines.remove.Goals.{After-rank_of-rank}

module _ (c : After-rank_of-rank) where
  small : SmallReferences c.self.inside.by_reference.records
  small = subst (λ t. SmallReferences t.records) (sym c.self.view_is) c.requires

  listed : c.by_isin.result ≡ lines_by_isin c.self.inside.by_reference.records
  listed = c.by_isin.ensures.lines ∙ ap (λ t. lines_by_isin t.records) (sym c.self.view_is)

  rises : Ascends isin_line_rank c.by_isin.result
  rises = subst (Ascends isin_line_rank) (sym c.by_isin.ensures.lines) (by_isin_law c.args.self.now.records c.by_isin.ensures.ascends c.requires).rises

  parts : SplitsAt isin_line_rank (isin_line_rank (get_or c.self.inside.by_reference.records c.in-Ok.place no_line)) (lines_by_isin c.self.inside.by_reference.records) c.rank_of-rank.result
  parts =
      subst (λ ks. SplitsAt isin_line_rank (isin_line_rank (get_or ks c.in-Ok.place no_line)) (lines_by_isin c.self.inside.by_reference.records) c.rank_of-rank.result)
      (c.records.ensures.all ∙ ap (λ t. t.records) (sym c.self.view_is))
      (subst (λ xs. SplitsAt isin_line_rank (isin_line_rank (get_or c.records.result.now c.in-Ok.place no_line)) xs c.rank_of-rank.result) listed (c.rank_of-rank.ensures.parts rises))

  within : c.rank_of-rank.result ≤ length (lines_by_isin c.self.inside.by_reference.records)
  within = omega (arith, c.rank_of-rank.ensures.within, ap length listed)

pub invariant_of-self : goal.invariant_of-self
invariant_of-self c =
    let s = (goal.at.invariant_of-self c).After-rank_of-rank in
    let t = c.self.inside.by_reference in
    let order = c.self.inside.by_isin in
    let r = rank_within t order c.self.invariant c.args.reference c.in-Ok.place c.rank_of-rank.result (small s) c.place_of.ensures.ascends c.in-Ok.ensures.place (parts s) (within s) in
    let unlisted = c.remove.ensures.places ∙ unlisted_there c.rank_of-rank.result c.in-Ok.place order.records r (omega (arith, c.in-Ok.ensures.place.0, as_long t order c.self.invariant)) in
    both_removed t order c.self.invariant c.args.reference c.in-Ok.place c.rank_of-rank.result (small s) c.place_of.ensures.ascends c.in-Ok.ensures.place (parts s) (within s)
    _ _ c.remove-2.ensures.change.leaves unlisted (c.remove.ensures.room ∙ c.self.invariant.same_room ∙ sym c.remove-2.ensures.room)

pub returns-clause-change : goal.returns-clause-change
returns-clause-change c = subst (λ t. Removes line_rank c.args.reference t.records c.remove-2.result c.remove-2.new.self.records) c.self.view_is c.remove-2.ensures.change
