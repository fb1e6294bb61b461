-- The amounts of a margin, in cents: the fraction of each, and which way it is rounded.
use Rattle.std.specs.Prelude.{ℕ, suc, ◌+◌, ◌-◌, ◌*◌, ℤ, pos, negsuc, ◌-ℤ◌, ◌*ℤ◌}
use Rattle.quantities.specs.Rounding.{round_up, round_down, round_down_signed}

-- a present value is cash × 3,600,000 / (3,600,000 + rate × term), with the rate in basis points
abbrev pub present_numerator : ℕ → ℕ
present_numerator cash = cash * 3600000

abbrev pub present_denominator : ℤ → ℕ → ℕ
present_denominator (pos rate) term = 3600000 + rate * term
present_denominator (negsuc rate) term = 3600000 - suc rate * term

abbrev pub present_up : ℕ → ℤ → ℕ → ℕ
present_up cash rate term = round_up (present_numerator cash) (present_denominator rate term)

abbrev pub present_down : ℕ → ℤ → ℕ → ℕ
present_down cash rate term = round_down (present_numerator cash) (present_denominator rate term)

-- an initial margin is titles × price × percentage / 100,000, rounded up
abbrev pub initial_numerator : ℕ → ℕ → ℕ → ℕ
initial_numerator titles price percentage = titles * price * percentage

abbrev pub initial_margin : ℕ → ℕ → ℕ → ℕ
initial_margin titles price percentage = round_up (initial_numerator titles price percentage) 100000

-- a market value is price × (bought − sold) / 10, rounded down
abbrev pub value_numerator : ℕ → ℕ → ℕ → ℤ
value_numerator price bought sold = pos price *ℤ (pos bought -ℤ pos sold)

abbrev pub market_value : ℕ → ℕ → ℕ → ℤ
market_value price bought sold = round_down_signed (value_numerator price bought sold) 10
