-- One trade by itself: when it is refused, and what each step of its charge comes to.
use Rattle.std.specs.Prelude.{◌≡◌, ℕ, Bool, if◌then◌else◌, ◌&&◌, ℤ, pos, ◌+ℤ◌, ◌-ℤ◌, Ok, Err, Result, int_le, nat_le, IsTrue, IsFalse}
use Rattle.quantities.specs.declared.refusal.Refusal.TheVariants.{Value, Date}
use Rattle.quantities.specs.declared.refusal.Refusal.{Refusal}
use Rattle.quantities.specs.Refusals.{number}
use Rattle.quantities.specs.Ranges.{most_cash, most_titles, lowest_price, highest_price, lowest_rate, highest_rate, highest_percentage}
use Rattle.quantities.specs.Amounts.{present_up, present_down, initial_margin, market_value}
use Rattle.quantities.specs.Dates.{term, settles_in_time, residual_life}
use Rattle.quantities.specs.Isins.{is_isin}
use Rattle.quantities.specs.Tranches.{tranche, tranche_number}
use Rattle.account.specs.declared.side.Side.{Side}
use Rattle.account.specs.declared.side.Side.TheVariants.{Bought, Sold}
use Rattle.account.specs.Lines.{if_bought, if_sold}
use Rattle.figures.specs.declared.trade.Trade.{Trade}
use Rattle.figures.specs.declared.trade.parts.Parts.{Parts}
use Rattle.figures.specs.declared.trade.charge_steps.ChargeSteps.{ChargeSteps}

-- each part has its form and range
abbrev pub is_well_formed_trade : Trade → Bool
is_well_formed_trade t =
    is_isin t.isin.bytes
    && ((nat_le 1 t.titles && nat_le t.titles most_titles)
    && (nat_le t.cash most_cash
    && ((nat_le lowest_price t.price && nat_le t.price highest_price)
    && (nat_le t.percentage highest_percentage
    && (int_le lowest_rate t.rate && int_le t.rate highest_rate)))))

abbrev pub trade_titles_bought : Trade → ℕ
trade_titles_bought t = if_bought t.side t.titles

abbrev pub trade_titles_sold : Trade → ℕ
trade_titles_sold t = if_sold t.side t.titles

-- in days
abbrev pub term_of_trade : Trade → ℕ
term_of_trade t = term t.today t.settlement

abbrev pub trade_value : Trade → ℤ
trade_value t = market_value t.price (trade_titles_bought t) (trade_titles_sold t)

-- a bought trade pays its cash rounded up, a sold one brings it rounded down
abbrev pub value_less_cash : Side → ℤ → ℕ → ℕ → ℤ
value_less_cash Bought value up down = value -ℤ pos up
value_less_cash Sold value up down = value +ℤ pos down

abbrev pub present_value_up_of_trade : Trade → ℕ
present_value_up_of_trade t = present_up t.cash t.rate (term_of_trade t)

abbrev pub present_value_down_of_trade : Trade → ℕ
present_value_down_of_trade t = present_down t.cash t.rate (term_of_trade t)

abbrev pub variation_margin_of_trade : Trade → ℤ
variation_margin_of_trade t =
    value_less_cash t.side (trade_value t)
    (present_value_up_of_trade t) (present_value_down_of_trade t)

-- the titles that a netting rule charges for the trade alone
abbrev pub charged_titles_of_trade : (ℕ → ℕ → ℕ) → Trade → ℕ
charged_titles_of_trade charged t = charged (trade_titles_bought t) (trade_titles_sold t)

abbrev pub initial_margin_of_trade : (ℕ → ℕ → ℕ) → Trade → ℕ
initial_margin_of_trade charged t =
    initial_margin (charged_titles_of_trade charged t) t.price t.percentage

-- the parts as quantities are those of the trade
pub record PartsOfTrade (t : Trade) (p : Parts) : Type 0 where
  pub bought_titles : p.position.bought.count ≡ trade_titles_bought t
  pub sold_titles : p.position.sold.count ≡ trade_titles_sold t
  pub cash : p.cash.cents ≡ t.cash
  pub price : p.price.millionths ≡ t.price
  pub percentage : p.percentage.basis_points ≡ t.percentage
  pub rate : p.rate.basis_points ≡ t.rate

-- the variation margin by the parts, for a side and a term in days
abbrev pub variation_margin_of_parts : Side → ℕ → Parts → ℤ
variation_margin_of_parts side days p =
    value_less_cash side
    (market_value p.price.millionths p.position.bought.count p.position.sold.count)
    (present_up p.cash.cents p.rate.basis_points days)
    (present_down p.cash.cents p.rate.basis_points days)

-- refused 4 where a part is outside its form or range
abbrev pub ChecksTrade : Trade → Result Parts Refusal → Type 0
ChecksTrade t (Ok p) = IsTrue (is_well_formed_trade t) × PartsOfTrade t p
ChecksTrade t (Err e) = IsFalse (is_well_formed_trade t) × (number e ≡ number Value)

-- the steps of a trade's charge, by a netting rule
pub record StepsOfTrade (charged : ℕ → ℕ → ℕ) (t : Trade) (v : ChargeSteps) : Type 0 where
  pub term : v.term.days ≡ term_of_trade t
  pub tranche : tranche_number v.tranche ≡ tranche (residual_life t.today t.maturity)
  pub up : v.present_value_up ≡ present_value_up_of_trade t
  pub down : v.present_value_down ≡ present_value_down_of_trade t
  pub charged_titles : v.charged.count ≡ charged_titles_of_trade charged t
  pub initial : v.initial_margin ≡ initial_margin_of_trade charged t
  pub market : v.market_value ≡ trade_value t
  pub variation : v.variation_margin ≡ variation_margin_of_trade t
  pub charge : v.charge ≡ pos (initial_margin_of_trade charged t) -ℤ variation_margin_of_trade t

-- refused 4 for a part outside its form or range, then 7 for a date outside a trade's days
abbrev pub ValuesTrade : (ℕ → ℕ → ℕ) → Trade → Result ChargeSteps Refusal → Type 0
ValuesTrade charged t (Ok v) =
    IsTrue (is_well_formed_trade t)
    × IsTrue (settles_in_time t.today t.settlement)
    × StepsOfTrade charged t v
ValuesTrade charged t (Err e) =
    IsFalse (is_well_formed_trade t && settles_in_time t.today t.settlement)
    × (number e ≡ if is_well_formed_trade t then number Date else number Value)
