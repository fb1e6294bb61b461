use Rattle.std.proofs.Common.{◌≡◌, refl, ap, ◌∙◌, arith, w64, to_z, of_z}
use Rattle.std.proofs.lemmas.Result.{err_from_is_err_and}
use Rattle.std.proofs.lemmas.Int.{ints}
use Rattle.quantities.specs.Tranches.{tranche}
use Rattle.quantities.proofs.Decided.{accepted, refused}
use Rattle.figures.specs.Trades.{variation_margin_of_trade, initial_margin_of_trade}
use Rattle.figures.proofs.TradeParts.{same_up, same_down, same_initial, same_value, same_variation}
use Rattle.figures.proofs.trade.Trade.value.Goals as goal

pub returns-in_err-term : goal.returns-in_err-term
returns-in_err-term g c =
    let p = err_from_is_err_and c.from_residual-in_err-term.result c.from_residual-in_err-term.ensures.1 in
    rw (p.1, p.2) (
    let w = c.in_ok-parts.ensures.0 in
    let d = refused _ _ _ _ c.in_err-term.ensures in
    (rw w d.0, rw w d.1))

pub overflow_sub-result : goal.overflow_sub-result
overflow_sub-result g c = omega (arith, ints)

pub returns : goal.returns
returns g c =
    let t = c.args.self.now in
    let p = c.in_ok-parts.parts in
    let days = c.in_ok-term.term.days in
    let w = c.in_ok-parts.ensures in
    let d = accepted _ _ _ _ c.in_ok-term.ensures in
    let rule = g.N.NettingRule.charged c.args.rule.now in
    let m : to_z w64 (of_z w64 c.market_value.result) ≡ c.market_value.result = omega (arith, ints) in
    let v : to_z w64 (of_z w64 c.variation_margin-variation.result) ≡ c.variation_margin-variation.result = omega (arith, ints) in
    let vm : c.variation_margin-variation.result ≡ variation_margin_of_trade t = c.variation_margin-variation.ensures.is ∙ same_variation t p days w.1 d.1 in
    let im : c.initial_margin-initial.result ≡ initial_margin_of_trade rule t = c.initial_margin-initial.ensures.is ∙ same_initial rule t p _ w.1 c.charge-charged.ensures.answer in (
      w.0,
      d.0,
      record {
        term = d.1;
        tranche = c.of_life.ensures ∙ ap tranche c.residual_life.ensures;
        up = c.present_value_up.ensures.is ∙ same_up t p days w.1 d.1;
        down = c.present_value_down.ensures.is ∙ same_down t p days w.1 d.1;
        charged_titles = c.charge-charged.ensures.answer ∙ rw (w.1.bought_titles, w.1.sold_titles) refl;
        initial = im;
        market = m ∙ (c.market_value.ensures.is ∙ same_value t p w.1);
        variation = v ∙ vm;
        charge = omega (arith, ints);
      },
    )
