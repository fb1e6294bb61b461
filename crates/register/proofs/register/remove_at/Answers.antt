use Rattle.std.proofs.Common.{◌≡◌, ◌+◌, ◌-◌, get_or, ap, ◌∙◌, arith}
use Rattle.register.proofs.Shifted.{closed_all}
use Rattle.register.proofs.register.remove_at.Goals as goal

pub returns : goal.returns
returns g c =
    let xs = c.args.places.now in
    let at = c.args.at in
    let h = c.copy_within.ensures.by_index in
    closed_all xs c.args.used at c.args.used c.copy_within.new.self (omega arith) (omega arith) (omega arith) (omega arith) record {
      len = c.copy_within.ensures.len;
      low = λ k d l. h.1 k d l;
      mid = λ k d l m. h.0 k d l (omega arith) ∙ ap (λ j. get_or xs j d) (let e : (at + 1) + (k - at) ≡ k + 1 = omega arith in e);
      high = λ k d l. h.2 k d (omega arith);
    }
