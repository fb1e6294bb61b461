use Rattle.std.proofs.Common.{Ok, Err, sym, ap, ◌∙◌}
use Rattle.std.proofs.lemmas.Result.{err_from_is_err_and}
use Rattle.std.proofs.lemmas.Bool.{and_from, and_right, cond-true, cond-false}
use Rattle.quantities.proofs.Decided.{accepted, refused}
use Rattle.market.proofs.price.Price.new.Goals as goal

pub returns-in_err-price : goal.returns-in_err-price
returns-in_err-price c =
    let p = err_from_is_err_and c.from_residual.result c.from_residual.ensures.1 in
    let n = refused _ _ _ _ c.in_err-price.ensures in
    rw (p.1, p.2) (ap Err n.1 ∙ sym (cond-false _ _ _ (and_right _ _ n.0)))

pub returns : goal.returns
returns c =
    let y = accepted _ _ _ _ c.in_ok-price.ensures in
    let v = sym c.is_valid.ensures ∙ c.if-not-is_valid.false in
    ap (λ n. Ok (c.args.isin, n, c.args.maturity)) y.1 ∙ sym (cond-true _ _ _ (and_from _ _ v y.0))
