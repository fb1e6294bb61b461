-- The records of a market are determined by their parts, since the facts beside them are propositions.
use Rattle.std.proofs.Common.{◌≡◌, ◌≤◌, ap}
use Rattle.std.specs.Prelude.{ℕ, List, IsTrue}
use Rattle.std.specs.Coded.{le_prop}
use Rattle.std.proofs.Props.{props}
use mathlib.Core.HLevel.{is_prop→PathP}
use Rattle.quantities.specs.Isins.{is_isin}
use Rattle.quantities.specs.Ranges.{lowest_price, highest_price, highest_percentage}
use Rattle.quantities.specs.declared.range.UnitPrice.{UnitPrice}
use Rattle.quantities.specs.declared.range.MarginPercentage.{MarginPercentage}
use Rattle.market.specs.Records.{price_parts}
use Rattle.market.specs.declared.price.Price.{Price}

pub unit_price_of_parts : (p q : UnitPrice) → p.millionths ≡ q.millionths → p ≡ q
unit_price_of_parts p q e =
    λ i. record {
      millionths = e i;
      above = is_prop→PathP (λ j. lowest_price ≤ e j) (λ j. le_prop) p.above q.above i;
      within = is_prop→PathP (λ j. e j ≤ highest_price) (λ j. le_prop) p.within q.within i;
    }

valid_prop : (bytes : List ℕ) → IsProp (IsTrue (is_isin bytes))
valid_prop bytes = hlevel props

pub price_of_parts : (p q : Price) → price_parts p ≡ price_parts q → p ≡ q
price_of_parts p q e =
    let price = unit_price_of_parts p.price q.price (ap (λ y. y.1) e) in
    λ i. record {
      isin = (e i).0;
      price = price i;
      maturity = (e i).2;
      valid = is_prop→PathP (λ j. IsTrue (is_isin (e j).0.bytes)) (λ j. valid_prop (e j).0.bytes) p.valid q.valid i;
    }

pub margin_percentage_of_parts : (p q : MarginPercentage) → p.basis_points ≡ q.basis_points → p ≡ q
margin_percentage_of_parts p q e = λ i. record { basis_points = e i; within = is_prop→PathP (λ j. e j ≤ highest_percentage) (λ j. le_prop) p.within q.within i }
