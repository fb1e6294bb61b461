-- The price and the percentage by which lines of an ISIN are margined.
use Rattle.std.specs.Prelude.{ℕ, if◌then◌else◌, not, Ok, Err, Result}
use Rattle.quantities.specs.declared.isin.Isin.{Isin}
use Rattle.quantities.specs.declared.refusal.Refusal.TheVariants.{NoPrice, NoPercentage}
use Rattle.quantities.specs.Refusals.{number}
use Rattle.account.specs.Settings.{Setting, has_price, has_percentage, unit_price, percentage_of}
use Rattle.valuation.specs.declared.quote.Quote.{Quote}

-- a quote in numbers: millionths of nominal, and basis points
abbrev pub quote_parts : Quote → ℕ × ℕ
quote_parts q = (q.price.millionths, q.percentage.basis_points)

-- the quote of an ISIN, refused where it has no price, or its tranche no percentage
abbrev pub quote_answer : Setting → Isin → Result (ℕ × ℕ) ℕ
quote_answer s i =
    if not (has_price s i) then Err (number NoPrice)
    else (if not (has_percentage s i) then Err (number NoPercentage)
    else Ok (unit_price s i, percentage_of s i))
