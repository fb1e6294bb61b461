-- The amounts of a trade's parts are the trade's.
use Rattle.std.proofs.Common.{◌≡◌, ℕ, refl}
use Rattle.quantities.specs.Amounts.{present_up, present_down, initial_margin, market_value}
use Rattle.figures.specs.declared.trade.parts.Parts.{Parts}
use Rattle.figures.specs.declared.trade.Trade.{Trade}
use Rattle.figures.specs.Trades.{PartsOfTrade, variation_margin_of_parts, trade_value, variation_margin_of_trade, initial_margin_of_trade, present_value_up_of_trade, present_value_down_of_trade, term_of_trade}

pub same_up : (t : Trade) (p : Parts) (days : ℕ) → PartsOfTrade t p → days ≡ term_of_trade t
    → present_up p.cash.cents p.rate.basis_points days ≡ present_value_up_of_trade t
same_up t p days q e = rw (e, q.cash, q.rate) refl

pub same_down : (t : Trade) (p : Parts) (days : ℕ) → PartsOfTrade t p → days ≡ term_of_trade t
    → present_down p.cash.cents p.rate.basis_points days ≡ present_value_down_of_trade t
same_down t p days q e = rw (e, q.cash, q.rate) refl

pub same_initial : (charged : ℕ → ℕ → ℕ) (t : Trade) (p : Parts) (titles : ℕ) → PartsOfTrade t p
    → titles ≡ charged p.position.bought.count p.position.sold.count
    → initial_margin titles p.price.millionths p.percentage.basis_points ≡ initial_margin_of_trade charged t
same_initial charged t p titles q e = rw (e, q.bought_titles, q.sold_titles, q.price, q.percentage) refl

pub same_value : (t : Trade) (p : Parts) → PartsOfTrade t p
    → market_value p.price.millionths p.position.bought.count p.position.sold.count ≡ trade_value t
same_value t p q = rw (q.bought_titles, q.sold_titles, q.price) refl

pub same_variation : (t : Trade) (p : Parts) (days : ℕ) → PartsOfTrade t p → days ≡ term_of_trade t
    → variation_margin_of_parts t.side days p ≡ variation_margin_of_trade t
same_variation t p days q e = rw (e, q.bought_titles, q.sold_titles, q.cash, q.price, q.rate) refl
