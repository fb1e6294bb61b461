-- What a margin is worked on, beside the lines.
use Rattle.std.specs.Prelude.{ℕ, Bool, List, ℤ, Option, Some, None, nat_lt}
use Rattle.quantities.specs.declared.isin.Isin.{Isin}
use Rattle.quantities.specs.Dates.{term, residual_life}
use Rattle.quantities.specs.Tranches.{tranche}
use Rattle.register.specs.Keys.{has_rank, found_by}
use Rattle.market.specs.declared.price.Price.{Price}
use Rattle.market.specs.declared.percentage.Percentage.{Percentage}
use Rattle.market.specs.Records.{isin_rank, price_rank, percentage_rank}
use Rattle.account.specs.declared.line.Line.{Line}
use Rattle.account.specs.Lines.{date}

-- a day, its prices, percentages and curve, and the netting rule of an account
pub record Setting : Type 0 where
  pub today : ℕ
  -- the business day after today
  pub next : ℕ
  pub prices : List Price
  pub percentages : List Percentage
  -- the curve: a rate for each term below its reach
  pub reach : ℕ
  pub rate : ℕ → ℤ
  -- the account's netting rule: the titles charged for titles bought and sold
  pub charged : ℕ → ℕ → ℕ

-- whether an ISIN has a price
abbrev pub has_price : Setting → Isin → Bool
has_price s i = has_rank price_rank (isin_rank i) s.prices

-- the record of an ISIN's price and maturity, if it has one
abbrev pub price_record : Setting → Isin → Option Price
price_record s i = found_by price_rank (isin_rank i) s.prices

-- the price of a record, in millionths of nominal, or 0 where there is none
abbrev pub millionths_or_zero : Option Price → ℕ
millionths_or_zero (Some p) = p.price.millionths
millionths_or_zero None = 0

-- the maturity of a record, or 0 where there is none
abbrev pub maturity_or_zero : Option Price → ℕ
maturity_or_zero (Some p) = p.maturity
maturity_or_zero None = 0

-- the price of an ISIN, in millionths of nominal
abbrev pub unit_price : Setting → Isin → ℕ
unit_price s i = millionths_or_zero (price_record s i)

-- the maturity of an ISIN
abbrev pub maturity : Setting → Isin → ℕ
maturity s i = maturity_or_zero (price_record s i)

-- the tranche of an ISIN's residual life
abbrev pub tranche_of : Setting → Isin → ℕ
tranche_of s i = tranche (residual_life s.today (maturity s i))

-- whether the tranche of an ISIN has a percentage
abbrev pub has_percentage : Setting → Isin → Bool
has_percentage s i = has_rank percentage_rank (tranche_of s i) s.percentages

-- the record of the percentage of an ISIN's tranche, if that has one
abbrev pub percentage_record : Setting → Isin → Option Percentage
percentage_record s i = found_by percentage_rank (tranche_of s i) s.percentages

-- the percentage of a record, in basis points, or 0 where there is none
abbrev pub basis_points_or_zero : Option Percentage → ℕ
basis_points_or_zero (Some p) = p.percentage.basis_points
basis_points_or_zero None = 0

-- the percentage of the tranche of an ISIN, in basis points
abbrev pub percentage_of : Setting → Isin → ℕ
percentage_of s i = basis_points_or_zero (percentage_record s i)

-- the term of a line
abbrev pub line_term : Setting → Line → ℕ
line_term s l = term s.today (date l.block)

-- whether the curve has a rate for the term of a line
abbrev pub has_rate : Setting → Line → Bool
has_rate s l = nat_lt (line_term s l) s.reach

-- the rate for the term of a line
abbrev pub line_rate : Setting → Line → ℤ
line_rate s l = s.rate (line_term s l)
