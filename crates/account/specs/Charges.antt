-- What lines of one ISIN and block are charged, in cents.
use Rattle.std.specs.Prelude.{ℕ, ◌-◌, Bool, not, List, ℤ, pos, ◌+ℤ◌, ◌-ℤ◌, ◌==◌, nat_le, if◌then◌else◌}
use Rattle.quantities.specs.declared.isin.Isin.{Isin}
use Rattle.quantities.specs.Amounts.{present_up, present_down, initial_margin, market_value}
use Rattle.account.specs.declared.line.Line.{Line}
use Rattle.account.specs.Lines.{date, if_bought, if_sold, is_trade, sum_of}
use Rattle.account.specs.Settings.{Setting, unit_price, percentage_of, line_term, line_rate}

-- the titles bought
abbrev pub titles_bought : List Line → ℕ
titles_bought ls = sum_of (λ l. if_bought l.side l.titles) ls

-- the titles sold
abbrev pub titles_sold : List Line → ℕ
titles_sold ls = sum_of (λ l. if_sold l.side l.titles) ls

-- the cash of a line where it is charged: the present value of a trade, rounded up, and the cash
-- of any other line as it is
abbrev pub cash_rounded_up : Setting → Line → ℕ
cash_rounded_up s l =
    if is_trade l then present_up l.cash (line_rate s l) (line_term s l) else l.cash

-- the cash of a line where it is credited: a present value is rounded down
abbrev pub cash_rounded_down : Setting → Line → ℕ
cash_rounded_down s l =
    if is_trade l then present_down l.cash (line_rate s l) (line_term s l) else l.cash

-- the cash of bought lines is charged
abbrev pub cash_charged : Setting → List Line → ℕ
cash_charged s ls = sum_of (λ l. if_bought l.side (cash_rounded_up s l)) ls

-- the cash of sold lines is credited
abbrev pub cash_credited : Setting → List Line → ℕ
cash_credited s ls = sum_of (λ l. if_sold l.side (cash_rounded_down s l)) ls

-- the initial margin of lines of an ISIN, by a netting rule
abbrev pub initial_margin_of : Setting → (ℕ → ℕ → ℕ) → Isin → List Line → ℕ
initial_margin_of s rule i ls =
    initial_margin (rule (titles_bought ls) (titles_sold ls)) (unit_price s i) (percentage_of s i)

-- the market value of lines of an ISIN
abbrev pub market_value_of : Setting → Isin → List Line → ℤ
market_value_of s i ls = market_value (unit_price s i) (titles_bought ls) (titles_sold ls)

-- their variation margin: the market value less the cash charged, plus the cash credited
abbrev pub variation_margin_of : Setting → Isin → List Line → ℤ
variation_margin_of s i ls =
    (market_value_of s i ls -ℤ pos (cash_charged s ls)) +ℤ pos (cash_credited s ls)

-- scenario 2 leaves out the trades dated today
abbrev pub is_not_today : Setting → Line → Bool
is_not_today s l = not (date l.block == s.today)

-- scenario 3 leaves out the trades dated up to the next business day
abbrev pub is_after_next : Setting → Line → Bool
is_after_next s l = not (nat_le (date l.block) s.next)

-- the charge of cash-only lines: cash paid less cash received, or 0
abbrev pub cash_charge : List Line → ℕ
cash_charge ls = sum_of (λ l. if_bought l.side l.cash) ls - sum_of (λ l. if_sold l.side l.cash) ls
