use Rattle.std.proofs.Common.{◌≡◌, Some, None, arith}
use Rattle.std.proofs.lemmas.Result.{err_from_is_err_and}
use Rattle.quantities.specs.declared.refusal.Refusal.TheVariants.{NoPrice, NoPercentage}
use Rattle.valuation.specs.Setups.{setting_of}
use Rattle.valuation.proofs.Quotes.{unpriced, unranked, quoted}
use Rattle.valuation.proofs.setup.SetupBasis.quote_of.Goals as goal

pub returns-in_err-price : goal.returns-in_err-price
returns-in_err-price g c =
    let p = err_from_is_err_and c.from_residual.result c.from_residual.ensures.1 in
    let n : c.price_near.result ≡ None = grind arith in
    let e : c.in_err-price.field-0.0 ≡ NoPrice = grind arith in
    rw (p.1, p.2, e) (unpriced (setting_of g.C.Curve.reach g.C.Curve.rate g.N.NettingRule.charged c.args.self.now) c.args.isin (rw n at c.price_near.ensures.found))

pub returns-in_err-percentage : goal.returns-in_err-percentage
returns-in_err-percentage g c =
    let s = setting_of g.C.Curve.reach g.C.Curve.rate g.N.NettingRule.charged c.args.self.now in
    let r = err_from_is_err_and c.from_residual-in_err-percentage.result c.from_residual-in_err-percentage.ensures.1 in
    let p = c.in_ok-price.price in
    let f : c.price_near.result ≡ Some p = grind arith in
    let n : c.percentage_for.result ≡ None = grind arith in
    let e : c.in_err-percentage.field-0.0 ≡ NoPercentage = grind arith in
    rw (r.1, r.2, e)
    (unranked s c.args.isin p (rw f at c.price_near.ensures.found) c.today.result c.residual_life-life.result c.today.ensures c.residual_life-life.ensures (rw n at c.percentage_for.ensures))

pub returns : goal.returns
returns g c =
    let s = setting_of g.C.Curve.reach g.C.Curve.rate g.N.NettingRule.charged c.args.self.now in
    let p = c.in_ok-price.price in
    let q = c.in_ok-percentage.percentage in
    let f : c.price_near.result ≡ Some p = grind arith in
    let n : c.percentage_for.result ≡ Some q = grind arith in
    quoted s c.args.isin p (rw f at c.price_near.ensures.found) c.today.result c.residual_life-life.result c.today.ensures c.residual_life-life.ensures q (rw n at c.percentage_for.ensures)
