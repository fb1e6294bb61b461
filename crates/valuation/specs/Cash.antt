-- The cash of a line.
use Rattle.std.specs.Prelude.{◌≡◌, ℕ, ◌≤◌, IsTrue}
use Rattle.quantities.specs.Ranges.{most_cash, longest_term}
use Rattle.account.specs.declared.line.Line.{Line}
use Rattle.account.specs.declared.side.Side.{Side}
use Rattle.account.specs.declared.side.Side.TheVariants.{Bought, Sold}
use Rattle.account.specs.Lines.{is_trade}
use Rattle.account.specs.Settings.{Setting, line_term}
use Rattle.account.specs.Answers.{fault}
use Rattle.account.specs.Charges.{cash_rounded_up, cash_rounded_down}

-- of two amounts, the one charged where a line is bought, or the one credited where it is sold
abbrev pub side_cash : Side → ℕ → ℕ → ℕ
side_cash Bought up down = up
side_cash Sold up down = down

-- the cash of a line: charged where it is bought, credited where it is sold
abbrev pub cash_of : Setting → Line → ℕ
cash_of s l = side_cash l.side (cash_rounded_up s l) (cash_rounded_down s l)

-- a line whose cash, term, price, percentage and rate are there
pub record IsWorkable (s : Setting) (l : Line) : Type 0 where
  pub cash : l.cash ≤ most_cash
  pub term : IsTrue (is_trade l) → line_term s l ≤ longest_term
  pub faultless : fault s l ≡ 0
