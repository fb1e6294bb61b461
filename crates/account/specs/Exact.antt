-- The exact margin: the same rules over fractions, with nothing rounded.
use Rattle.std.specs.Prelude.{ℕ, ◌*◌, Bool, List, [], ◌∷◌, ℤ, pos, ◌+ℤ◌, ◌-ℤ◌, ◌*ℤ◌, neg_ℤ, ◌≤ℤ◌, int_lt, if◌then◌else◌}
use Rattle.quantities.specs.declared.isin.Isin.{Isin}
use Rattle.quantities.specs.Amounts.{present_numerator, present_denominator, initial_numerator, value_numerator}
use Rattle.netting.specs.Rules.{both_sides}
use Rattle.account.specs.declared.line.Line.{Line}
use Rattle.account.specs.declared.side.Side.{Side}
use Rattle.account.specs.declared.side.Side.TheVariants.{Bought, Sold}
use Rattle.account.specs.Lines.{is_trade, is_in_block, keep, isins}
use Rattle.account.specs.declared.block_name.BlockName.{BlockName}
use Rattle.account.specs.declared.block_name.BlockName.TheVariants.{Trade as trade, Failed as failed, Held as held, CashOnly as cash_only}
use Rattle.account.specs.Settings.{Setting, unit_price, percentage_of, line_term, line_rate}
use Rattle.account.specs.Charges.{titles_bought, titles_sold, is_not_today, is_after_next, cash_charge}

-- a fraction of two whole numbers, of which the denominator is above zero
pub record Fraction : Type 0 where
  pub numerator : ℤ
  pub denominator : ℕ

-- the fraction of two numbers
abbrev pub fraction_of : ℤ → ℕ → Fraction
fraction_of n d = record { numerator = n; denominator = d }

-- a whole number
abbrev pub whole_number : ℤ → Fraction
whole_number z = fraction_of z 1

-- sums go over a common denominator
abbrev pub fraction_sum : Fraction → Fraction → Fraction
fraction_sum a b =
    fraction_of ((a.numerator *ℤ pos b.denominator) +ℤ (b.numerator *ℤ pos a.denominator))
    (a.denominator * b.denominator)

-- and so do differences
abbrev pub fraction_difference : Fraction → Fraction → Fraction
fraction_difference a b =
    fraction_of ((a.numerator *ℤ pos b.denominator) -ℤ (b.numerator *ℤ pos a.denominator))
    (a.denominator * b.denominator)

-- the fraction with the other sign
abbrev pub opposite : Fraction → Fraction
opposite a = fraction_of (neg_ℤ a.numerator) a.denominator

-- two are compared by cross-multiplying
abbrev pub IsAtMost : Fraction → Fraction → Type 0
IsAtMost a b = (a.numerator *ℤ pos b.denominator) ≤ℤ (b.numerator *ℤ pos a.denominator)

-- whether one is below another
abbrev pub is_below : Fraction → Fraction → Bool
is_below a b = int_lt (a.numerator *ℤ pos b.denominator) (b.numerator *ℤ pos a.denominator)

-- the greater of two
abbrev pub greater_of : Fraction → Fraction → Fraction
greater_of a b = if is_below a b then b else a

-- a fraction, or 0 where it is negative
abbrev pub at_least_zero : Fraction → Fraction
at_least_zero a = greater_of (whole_number (pos 0)) a

-- a fraction of each, all added
abbrev pub sum_of_fractions : {X : Type 0} → (X → Fraction) → List X → Fraction
sum_of_fractions f [] = whole_number (pos 0)
sum_of_fractions f (x ∷ xs) = fraction_sum (f x) (sum_of_fractions f xs)

-- the present value of a trade, and the cash of any other line as it is
abbrev pub exact_cash : Setting → Line → Fraction
exact_cash s l =
    if is_trade l
    then fraction_of (pos (present_numerator l.cash))
    (present_denominator (line_rate s l) (line_term s l))
    else whole_number (pos l.cash)

-- an amount as it is paid: a sold line is paid it, so there it has the other sign
abbrev pub payment : Side → Fraction → Fraction
payment Bought a = a
payment Sold a = opposite a

-- what a line takes from the variation margin: a sold line adds to it
abbrev pub exact_payment : Setting → Line → Fraction
exact_payment s l = payment l.side (exact_cash s l)

-- the initial margin of lines of an ISIN, by a netting rule
abbrev pub exact_initial : Setting → (ℕ → ℕ → ℕ) → Isin → List Line → Fraction
exact_initial s rule i ls =
    let titles = rule (titles_bought ls) (titles_sold ls) in
    fraction_of (pos (initial_numerator titles (unit_price s i) (percentage_of s i))) 100000

-- their market value
abbrev pub exact_value : Setting → Isin → List Line → Fraction
exact_value s i ls =
    fraction_of (value_numerator (unit_price s i) (titles_bought ls) (titles_sold ls)) 10

-- their variation margin
abbrev pub exact_variation : Setting → Isin → List Line → Fraction
exact_variation s i ls =
    fraction_difference (exact_value s i ls) (sum_of_fractions (exact_payment s) ls)

-- their charge
abbrev pub exact_charge : Setting → (ℕ → ℕ → ℕ) → Isin → List Line → Fraction
exact_charge s rule i ls =
    fraction_difference (exact_initial s rule i ls) (exact_variation s i ls)

-- the largest exact charge of the three scenarios
abbrev pub exact_worst : Setting → Isin → List Line → Fraction
exact_worst s i trades =
    let of_all = exact_charge s s.charged i trades in
    let of_not_today = exact_charge s s.charged i (keep (is_not_today s) trades) in
    let of_after_next = exact_charge s s.charged i (keep (is_after_next s) trades) in
    greater_of (greater_of of_all of_not_today) of_after_next

-- the charge of the lines of an ISIN and block; that of cash-only lines is whole already
abbrev pub exact_block : Setting → Isin → BlockName → List Line → Fraction
exact_block s i trade ls = exact_worst s i ls
exact_block s i failed ls = exact_charge s both_sides i ls
exact_block s i held ls = exact_charge s both_sides i ls
exact_block s i cash_only ls = whole_number (pos (cash_charge ls))

-- the charges of a block, added; as a whole never below zero
abbrev pub exact_block_sum : Setting → List Line → BlockName → Fraction
exact_block_sum s ls k =
    at_least_zero (sum_of_fractions (λ i. exact_block s i k (keep (is_in_block i k) ls)) (isins ls))

-- the four sums, added
abbrev pub exact_margin : Setting → List Line → Fraction
exact_margin s ls =
    fraction_sum (exact_block_sum s ls trade)
    (fraction_sum (exact_block_sum s ls failed)
    (fraction_sum (exact_block_sum s ls held)
    (exact_block_sum s ls cash_only)))
