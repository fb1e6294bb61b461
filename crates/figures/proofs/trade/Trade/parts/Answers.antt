use Rattle.std.proofs.Common.{ap, ◌∙◌, arith}
use Rattle.std.proofs.lemmas.Result.{err_from_is_err_and}
use Rattle.std.proofs.lemmas.Int.{ints}
use Rattle.std.proofs.lemmas.Bool.Decides.{nat_tests}
use Rattle.quantities.proofs.Decided.{accepted, refused}
use Rattle.account.specs.Lines.{if_bought, if_sold}
use Rattle.figures.proofs.trade.Trade.parts.Goals as goal

pub returns-in_err-titles : goal.returns-in_err-titles
returns-in_err-titles c =
    let p = err_from_is_err_and c.from_residual.result c.from_residual.ensures.1 in
    rw (p.1, p.2) (let d = refused _ _ _ _ c.in_err-titles.ensures in (grind (arith, nat_tests), d.1))

pub returns-in_err-cash : goal.returns-in_err-cash
returns-in_err-cash c =
    let p = err_from_is_err_and c.from_residual-in_err-cash.result c.from_residual-in_err-cash.ensures.1 in
    rw (p.1, p.2) (let d = refused _ _ _ _ c.in_err-cash.ensures in (grind (arith, nat_tests), d.1))

pub returns-in_err-price : goal.returns-in_err-price
returns-in_err-price c =
    let p = err_from_is_err_and c.from_residual-in_err-price.result c.from_residual-in_err-price.ensures.1 in
    rw (p.1, p.2) (let d = refused _ _ _ _ c.in_err-price.ensures in (grind (arith, nat_tests), d.1))

pub returns-in_err-percentage : goal.returns-in_err-percentage
returns-in_err-percentage c =
    let p = err_from_is_err_and c.from_residual-in_err-percentage.result c.from_residual-in_err-percentage.ensures.1 in
    rw (p.1, p.2) (let d = refused _ _ _ _ c.in_err-percentage.ensures in (grind (arith, nat_tests), d.1))

pub returns-in_err-rate : goal.returns-in_err-rate
returns-in_err-rate c =
    let p = err_from_is_err_and c.from_residual-in_err-rate.result c.from_residual-in_err-rate.ensures.1 in
    rw (p.1, p.2) (let d = refused _ _ _ _ c.in_err-rate.ensures in (grind (arith, nat_tests), d.1))

pub returns : goal.returns
returns c =
    let t = accepted _ _ _ _ c.in_ok-titles.ensures in
    let m = accepted _ _ _ _ c.in_ok-cash.ensures in
    let p = accepted _ _ _ _ c.in_ok-price.ensures in
    let f = accepted _ _ _ _ c.in_ok-percentage.ensures in
    let r = accepted _ _ _ _ c.in_ok-rate.ensures in
    (grind (arith, nat_tests), record { bought_titles = c.position-position.ensures.bought ∙ ap (if_bought c.args.self.now.side) t.1; sold_titles = c.position-position.ensures.sold ∙ ap (if_sold c.args.self.now.side) t.1; cash = m.1; price = p.1; percentage = f.1; rate = omega (arith, ints) })
