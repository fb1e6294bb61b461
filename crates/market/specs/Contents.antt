-- What a market holds.
use Rattle.std.specs.Prelude.{ℕ, List, Option}
use Rattle.std.specs.Option.{option_map}
use Rattle.quantities.specs.declared.range.MarginPercentage.{MarginPercentage}
use Rattle.quantities.specs.Tranches.{tranche}
use Rattle.register.specs.Keys.{found_by}
use Rattle.market.specs.declared.price.Price.{Price}
use Rattle.market.specs.declared.percentage.Percentage.{Percentage}
use Rattle.market.specs.Records.{percentage_rank}

-- today and the business day after it, its prices by ISIN and its percentages by tranche, and how
-- many prices it can hold
pub record Quotes : Type 0 where
  pub today : ℕ
  pub next : ℕ
  pub prices : List Price
  pub percentages : List Percentage
  pub room : ℕ

-- the percentage for a residual life in days: that of its tranche
abbrev pub percentage_for : ℕ → List Percentage → Option MarginPercentage
percentage_for life percentages =
    option_map (λ p. p.percentage) (found_by percentage_rank (tranche life) percentages)
