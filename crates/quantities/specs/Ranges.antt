-- The ranges of the quantities; each bound is inside its range.
use Rattle.std.specs.Prelude.{ℕ, ℤ, pos, negsuc}

-- cents of cash
abbrev pub most_cash : ℕ
most_cash = 1000000000000

-- titles, each 1,000 euros of nominal
abbrev pub most_titles : ℕ
most_titles = 2000000

-- a price, in millionths of nominal
abbrev pub lowest_price : ℕ
lowest_price = 1

abbrev pub highest_price : ℕ
highest_price = 2000000

-- a rate of a curve, in basis points: −500 to 3,000
abbrev pub lowest_rate : ℤ
lowest_rate = negsuc 499

abbrev pub highest_rate : ℤ
highest_rate = pos 3000

-- a margin percentage, in basis points
abbrev pub highest_percentage : ℕ
highest_percentage = 10000

-- the reference of a line, which is 1 at least
abbrev pub highest_reference : ℕ
highest_reference = 4294967295

-- the term of a trade, in days
abbrev pub longest_term : ℕ
longest_term = 364

-- the term of a point of a curve, in days
abbrev pub longest_curve_term : ℕ
longest_curve_term = 65535
