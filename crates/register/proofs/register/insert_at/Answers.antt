use Rattle.std.proofs.Common.{◌≡◌, ◌+◌, ◌-◌, length, set, drop, ◌∙◌, arith}
use Rattle.std.proofs.lemmas.List.{length-set, length-drop, length-take-le}
use Rattle.std.proofs.lemmas.Slice.{take-put_mid}
use Rattle.register.proofs.Shifted.{turned_in}
use Rattle.register.proofs.register.insert_at.Goals as goal

pub returns : goal.returns
returns g c =
    let xs = c.args.places.now in
    let used = c.args.used in
    let at = c.args.at in
    let r = c.args.record in
    let ys = c.rotate_right.new.self in
    let all = set xs used r in
    let long : length all ≡ length xs = length-set xs used r in
    let many : length ys ≡ used + 1 - at = c.rotate_right.ensures.len ∙ length-take-le (used + 1 - at) (drop at all) (omega (arith, length-drop at all)) in
    take-put_mid at (used + 1 - at) all ys (used + 1) (omega arith) (omega arith) ∙ turned_in xs used at r ys (omega arith) (omega arith) c.rotate_right.ensures.len c.rotate_right.ensures.by_index
