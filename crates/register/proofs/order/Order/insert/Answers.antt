use Rattle.std.proofs.Common.{◌+◌, ◌≤◌, take, sym, subst, arith}
use Rattle.register.specs.Contents.{room_in}
use Rattle.register.specs.Places.{PlacesWithin}
use Rattle.register.proofs.Places.{with_within}
use Rattle.register.proofs.order.Order.insert.Goals as goal

pub invariant_of-self : goal.invariant_of-self
invariant_of-self c =
    let o = c.self.inside in
    record {
      fits = omega (arith, c.if-self.false);
      lent = subst (λ n. o.room ≤ room_in n) (sym c.list_at.auto.memory) c.self.invariant.lent;
      within =
          subst (PlacesWithin (o.used + 1)) (sym c.list_at.ensures)
          (with_within o.used c.min-rank.result c.min-place.result (take o.used o.memory.now) (omega (arith, c.min-place.ensures)) c.self.invariant.within);
    }
