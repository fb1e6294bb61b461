use Rattle.std.proofs.Common.{◌≡◌, ◌-◌, ◌≤◌, ◌++◌, length, map, take, drop, sym, ap, ◌∙◌, subst, arith}
use Rattle.std.proofs.lemmas.List.{length-take-le, length-append, length-drop, length-map}
use Rattle.std.proofs.Math.Seq.{take-append_seam}
use Rattle.register.specs.Contents.{room_in}
use Rattle.register.specs.Places.{moved_down, without_place, PlacesWithin}
use Rattle.register.proofs.Places.{without_within}
use Rattle.register.proofs.order.Order.remove.Goals as goal

pub invariant_of-self : goal.invariant_of-self
invariant_of-self c =
    let o = c.self.inside in
    let ps = take o.used o.memory.now in
    let left = c.move_down.new.places in
    let behind = drop (o.used - 1) c.remove_at.new.places in
    let fits : o.used ≤ length o.memory.now = omega (arith, c.self.invariant.fits, c.self.invariant.lent) in
    let long : length ps ≡ o.used = length-take-le o.used o.memory.now fits in
    let so_many : length left ≡ o.used - 1 =
    ap length c.move_down.ensures ∙ length-map _ _ ∙ length-take-le (o.used - 1) c.remove_at.new.places (omega (arith, c.remove_at.auto.places)) in
    let places : left ≡ without_place c.args.rank c.args.place ps = c.move_down.ensures ∙ ap (map (moved_down c.args.place)) c.remove_at.ensures in
    let front : take (o.used - 1) (left ++ behind) ≡ left = ap (λ n. take n (left ++ behind)) (sym so_many) ∙ take-append_seam left behind in
    record {
      fits = omega (arith, c.self.invariant.fits);
      lent = subst (λ n. o.room ≤ room_in n) (omega (arith, length-append left behind, length-drop (o.used - 1) c.remove_at.new.places, c.remove_at.auto.places)) c.self.invariant.lent;
      within =
          subst (PlacesWithin (o.used - 1)) (sym (front ∙ places))
          (subst (λ n. PlacesWithin (n - 1) (without_place c.args.rank c.args.place ps)) long
          (without_within c.args.rank c.args.place ps (omega (arith, long, c.if-rank-self.false)) (omega (arith, long, c.if-place-self.false)) (subst (λ n. PlacesWithin n ps) (sym long) c.self.invariant.within)));
    }
