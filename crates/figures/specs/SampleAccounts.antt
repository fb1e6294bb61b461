-- Accounts of a few lines in two ISINs.
use Rattle.std.specs.Prelude.{◌≡◌, ℕ, if◌then◌else◌, List, [], ◌∷◌, ℤ, pos, negsuc, ◌*ℤ◌, codes, ◌==◌, refl}
use Rattle.std.proofs.Common.{lit≤}
use Rattle.std.specs.Int.Signed.{le_z_yes}
use Rattle.curve.specs.declared.point.Point.{Point}
use Rattle.curve.specs.Points.{reach_of, step_rate}
use Rattle.quantities.specs.declared.isin.Isin.{Isin}
use Rattle.quantities.specs.declared.range.Rate.{Rate}
use Rattle.quantities.specs.declared.tranche.Tranche.TheVariants.{UpToOneYear, UpToTenYears}
use Rattle.account.specs.declared.line.Line.{Line}
use Rattle.account.specs.declared.side.Side.{Side}
use Rattle.account.specs.declared.side.Side.TheVariants.{Bought, Sold}
use Rattle.account.specs.declared.block.Block.{Block}
use Rattle.account.specs.declared.block.Block.TheVariants.{Trade, Failed, Held, CashOnly}
use Rattle.account.specs.declared.scenario.Scenario.{Scenario}
use Rattle.account.specs.declared.scope.Scope.{Scope}
use Rattle.account.specs.declared.scope.Scope.TheVariants.{Trades, FailedLines, CashOnlyLines}
use Rattle.account.specs.declared.row.Row.{Row}
use Rattle.account.specs.declared.call.Call.TheVariants.{Enter, Withdraw, AskMargin}
use Rattle.account.specs.Settings.{Setting}
use Rattle.account.specs.Exact.{Fraction}
use Rattle.account.specs.Calls.{Event, accepted, refused, given}
use Rattle.market.specs.declared.price.Price.{Price}
use Rattle.market.specs.declared.percentage.Percentage.{Percentage}

abbrev pub first_isin : Isin
first_isin = record { bytes = codes "ES0000001018" }

abbrev pub second_isin : Isin
second_isin = record { bytes = codes "ES0000002024" }

abbrev pub first_price : Price
first_price = record {
  isin = first_isin;
  price = record { millionths = 1010000; above = lit≤ tt; within = lit≤ tt };
  maturity = 11000;
  valid = refl;
}

abbrev pub second_price : Price
second_price = record {
  isin = second_isin;
  price = record { millionths = 999999; above = lit≤ tt; within = lit≤ tt };
  maturity = 9100;
  valid = refl;
}

abbrev pub both_prices : List Price
both_prices = first_price ∷ (second_price ∷ [])

-- the percentage of the tranche of the second ISIN
abbrev pub short_percentage : Percentage
short_percentage = record {
  tranche = UpToOneYear;
  percentage = record { basis_points = 50; within = lit≤ tt };
}

-- the percentage of the tranche of the first ISIN
abbrev pub long_percentage : Percentage
long_percentage = record {
  tranche = UpToTenYears;
  percentage = record { basis_points = 200; within = lit≤ tt };
}

abbrev pub both_percentages : List Percentage
both_percentages = short_percentage ∷ (long_percentage ∷ [])

abbrev rate_of_360 : Rate
rate_of_360 = record { basis_points = pos 360; above = le_z_yes tt; within = le_z_yes tt }

-- one point: a rate of 360 up to 364 days
abbrev one_point : List Point
one_point = record { term = 364; rate = rate_of_360; within = lit≤ tt } ∷ []

-- the step curve of that point
abbrev pub flat_rate : ℕ → ℤ
flat_rate term = step_rate one_point term

-- a rate of 360 for a term of 100 days, and 0 for every other
abbrev pub peak_rate : ℕ → ℤ
peak_rate term = if term == 100 then pos 360 else pos 0

-- day 9,000
abbrev pub sample_setting : List Price → List Percentage → ℕ → (ℕ → ℤ) → (ℕ → ℕ → ℕ) → Setting
sample_setting prices percentages reach rate charged = record {
  today = 9000;
  next = 9001;
  prices = prices;
  percentages = percentages;
  reach = reach;
  rate = rate;
  charged = charged;
}

-- with all prices and percentages, and the step curve of one point
abbrev pub account_setting : (ℕ → ℕ → ℕ) → Setting
account_setting charged =
    sample_setting both_prices both_percentages (reach_of one_point) flat_rate charged

abbrev pub sample_line : ℕ → Isin → Side → ℕ → ℕ → Block → Line
sample_line r i side titles cash block = record {
  reference = r;
  isin = i;
  side = side;
  titles = titles;
  cash = cash;
  block = block;
}

-- four lines, of three blocks
abbrev pub account_lines : List Line
account_lines =
    sample_line 1 first_isin Bought 1000 101000000 (Trade 9101)
    ∷ (sample_line 2 first_isin Sold 400 40400000 (Trade 9001)
    ∷ (sample_line 3 second_isin Bought 3 300000 (Failed 8998)
    ∷ (sample_line 4 first_isin Bought 0 2500 (CashOnly 9000) ∷ [])))

abbrev pub sample_row : Isin → Scope → ℕ → ℤ → Row
sample_row i scope initial variation = record {
  isin = i;
  scope = scope;
  initial_margin = initial;
  variation_margin = variation;
}

-- the statement of those lines, by the scenario of its trade row
abbrev pub sample_statement : Scenario → List Row
sample_statement scenario =
    sample_row first_isin (Trades scenario) 2020000 (pos 1000000)
    ∷ (sample_row first_isin CashOnlyLines 2500 (pos 0)
    ∷ (sample_row second_isin FailedLines 1500 (negsuc 0) ∷ []))

-- two fractions, compared by cross-multiplying
abbrev pub EqualFractions : Fraction → Fraction → Type 0
EqualFractions a b = a.numerator *ℤ pos b.denominator ≡ b.numerator *ℤ pos a.denominator

-- ten titles bought, with a term of 100 days
abbrev pub ten_titles_bought : Line
ten_titles_bought = sample_line 1 first_isin Bought 10 1010000 (Trade 9101)

-- ten titles sold, by their cash and date
abbrev pub ten_titles_sold : ℕ → ℕ → Line
ten_titles_sold cash day = sample_line 2 first_isin Sold 10 cash (Trade day)

-- one title each way, for one cent each
abbrev pub cents_both_ways : List Line
cents_both_ways =
    sample_line 1 first_isin Bought 1 1 (Trade 9101)
    ∷ (sample_line 2 first_isin Sold 1 1 (Trade 9101) ∷ [])

-- three titles each way, failed and held
abbrev pub three_titles_both_ways : List Line
three_titles_both_ways =
    sample_line 1 second_isin Bought 3 300000 (Failed 8998)
    ∷ (sample_line 2 second_isin Sold 3 300000 (Failed 8998)
    ∷ (sample_line 3 second_isin Bought 3 300000 (Held 8998)
    ∷ (sample_line 4 second_isin Sold 3 300000 (Held 8998) ∷ [])))

-- three failed titles that are paid already
abbrev pub three_titles_paid : Line
three_titles_paid = sample_line 2 second_isin Bought 3 0 (Failed 8998)

-- cash to be paid for one ISIN, and more to be received for the other
abbrev pub cash_both_ways : List Line
cash_both_ways =
    sample_line 1 first_isin Bought 0 100 (CashOnly 9000)
    ∷ (sample_line 2 second_isin Sold 0 160 (CashOnly 9000) ∷ [])

-- bought titles of one ISIN that settle today
abbrev pub titles_bought_today : ℕ → ℕ → Line
titles_bought_today r titles = sample_line r first_isin Bought titles 100 (Trade 9000)

-- four lines are entered, the last of them refused; then line 2 is withdrawn, and a margin is given
abbrev pub account_calls : List Event
account_calls =
    (Enter (ten_titles_sold 900000 9000), accepted)
    ∷ ((Enter ten_titles_bought, accepted)
    ∷ ((Enter (sample_line 3 first_isin Bought 0 100 (CashOnly 9000)), accepted)
    ∷ ((Enter (sample_line 4 first_isin Bought 1 100 (Trade 9500)), refused 7 4)
    ∷ ((Withdraw 2, accepted)
    ∷ ((Withdraw 9, refused 13 9)
    ∷ ((AskMargin, given 10300 3) ∷ []))))))

-- each refusal of an enter and of a withdrawal, where there is room for two lines
abbrev pub refused_calls : List Event
refused_calls =
    (Enter (titles_bought_today 0 1), refused 4 0)
    ∷ ((Enter (titles_bought_today 7 2000000), accepted)
    ∷ ((Enter (sample_line 8 first_isin Bought 0 100 (Held 9000)), refused 4 8)
    ∷ ((Enter (sample_line 8 first_isin Bought 1 100 (CashOnly 9000)), refused 4 8)
    ∷ ((Enter (sample_line 8 first_isin Bought 1 1000000000001 (Held 9000)), refused 4 8)
    ∷ ((Enter (sample_line 7 first_isin Bought 1 100 (Held 9001)), refused 6 7)
    ∷ ((Enter (sample_line 8 first_isin Bought 1 100 (Held 9001)), refused 7 8)
    ∷ ((Enter (titles_bought_today 8 1), refused 8 8)
    ∷ ((Enter (sample_line 8 first_isin Sold 2000000 100 (Held 9000)), accepted)
    ∷ ((Enter (sample_line 9 second_isin Sold 1 100 (Held 9000)), refused 9 9)
    ∷ ((Withdraw 0, refused 4 0)
    ∷ ((Withdraw 9, refused 13 9)
    ∷ ((Withdraw 7, accepted) ∷ []))))))))))))
