use Rattle.std.proofs.Common.{length, arith}
use Rattle.std.proofs.lemmas.Int.{ints}
use Rattle.valuation.specs.RowCharges.{scope_rule}
use Rattle.valuation.specs.Scopes.{row_lines}
use Rattle.valuation.proofs.Scopes.{lines_few, lines_fewer}
use Rattle.valuation.proofs.Charges.{variation_is, row_is, row_within}
use Rattle.valuation.proofs.summed_lines.SummedLines.scope_row.Goals as goal

pub overflow_cast-result : goal.overflow_cast-result
overflow_cast-result g c =
    let r = c.args.self.now.lines.now in
    omega (arith, ints, c.scope_cash-cash.ensures.within.bought, lines_few (g.B.Basis.setting r.basis.now) r.lines r.few r.isin c.args.scope)

pub overflow_sub-result : goal.overflow_sub-result
overflow_sub-result g c =
    let r = c.args.self.now.lines.now in
    let v = c.market_value-value.ensures in
    omega (arith, ints, c.scope_cash-cash.ensures.within.bought, lines_few (g.B.Basis.setting r.basis.now) r.lines r.few r.isin c.args.scope, v.low, v.high)

pub overflow_cast-result-2 : goal.overflow_cast-result-2
overflow_cast-result-2 g c =
    let r = c.args.self.now.lines.now in
    omega (arith, ints, c.scope_cash-cash.ensures.within.sold, lines_few (g.B.Basis.setting r.basis.now) r.lines r.few r.isin c.args.scope)

pub overflow_add-result : goal.overflow_add-result
overflow_add-result g c =
    let r = c.args.self.now.lines.now in
    let v = c.market_value-value.ensures in
    let e = c.scope_cash-cash.ensures in
    omega (arith, ints, e.within.bought, e.within.sold, lines_few (g.B.Basis.setting r.basis.now) r.lines r.few r.isin c.args.scope, v.low, v.high)

pub returns : goal.returns
returns g c =
    let r = c.args.self.now.lines.now in
    let s = g.B.Basis.setting r.basis.now in
    let scope = c.args.scope in
    let ls = r.lines in
    let t = c.scope_titles-position in
    let m = c.scope_cash-cash in
    let v = c.market_value-value in
    let few = lines_few s ls r.few r.isin scope in
    let e = variation_is v.result m.result.bought m.result.sold v.ensures.low v.ensures.high (omega (arith, m.ensures.within.bought, few)) (omega (arith, m.ensures.within.sold, few)) in
    record {
      is =
          row_is r.isin scope c.scope_quote-quote.result c.initial_margin.result m.result.bought m.result.sold v.result _ e s (scope_rule scope s.charged) (row_lines s r.isin scope ls)
          c.charged_titles-charged.result.count t.result.bought.count t.result.sold.count c.scope_quote-quote.ensures c.charged_titles-charged.ensures t.ensures.bought t.ensures.sold
          m.ensures.bought m.ensures.sold c.initial_margin.ensures.is v.ensures.is;
      within =
          row_within r.isin scope c.scope_quote-quote.result c.initial_margin.result m.result.bought m.result.sold v.result _ e (length (row_lines s r.isin scope ls)) _ c.initial_margin.ensures.high v.ensures.low v.ensures.high
          m.ensures.within.bought m.ensures.within.sold (lines_fewer s r.isin scope ls) c.requires.some;
    }
