-- The records of a market: what they hold, and the order in which they stand.
use Rattle.std.specs.Prelude.{ℕ, Bool, ◌&&◌, Ok, Err, Result, if◌then◌else◌, nat_le}
use Rattle.quantities.specs.declared.isin.Isin.{Isin}
use Rattle.quantities.specs.declared.refusal.Refusal.TheVariants.{Value}
use Rattle.quantities.specs.Refusals.{number}
use Rattle.quantities.specs.Isins.{is_isin}
use Rattle.quantities.specs.Ranges.{lowest_price, highest_price, highest_percentage}
use Rattle.quantities.specs.Tranches.{tranche_number}
use Rattle.register.specs.Bytes.{value}
use Rattle.market.specs.declared.price.Price.{Price}
use Rattle.market.specs.declared.percentage.Percentage.{Percentage}

-- byte order is the order of the numbers that the bytes spell
abbrev pub isin_rank : Isin → ℕ
isin_rank i = value 0 i.bytes

-- prices go by their ISIN
abbrev pub price_rank : Price → ℕ
price_rank p = isin_rank p.isin

-- percentages go by their tranche
abbrev pub percentage_rank : Percentage → ℕ
percentage_rank p = tranche_number p.tranche

-- an ISIN, and a price in its range
abbrev pub price_fits : Isin → ℕ → Bool
price_fits isin price =
    is_isin isin.bytes && (nat_le lowest_price price && nat_le price highest_price)

-- the number of a tranche, and a percentage in its range
abbrev pub percentage_fits : ℕ → ℕ → Bool
percentage_fits tranche percentage =
    (nat_le 1 tranche && nat_le tranche 6) && nat_le percentage highest_percentage

-- what a price holds: ISIN, price, maturity
abbrev pub price_parts : Price → Isin × ℕ × ℕ
price_parts p = (p.isin, p.price.millionths, p.maturity)

-- what a percentage holds: the number of its tranche, percentage
abbrev pub percentage_parts : Percentage → ℕ × ℕ
percentage_parts p = (percentage_rank p, p.percentage.basis_points)

-- a price of those parts where they fit, refused elsewhere
abbrev pub price_answer : Isin → ℕ → ℕ → Result (Isin × ℕ × ℕ) ℕ
price_answer isin price maturity =
    if price_fits isin price then Ok (isin, price, maturity) else Err (number Value)

-- a percentage of those parts where they fit, refused elsewhere
abbrev pub percentage_answer : ℕ → ℕ → Result (ℕ × ℕ) ℕ
percentage_answer tranche percentage =
    if percentage_fits tranche percentage then Ok (tranche, percentage) else Err (number Value)
