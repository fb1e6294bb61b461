-- Sums over the lines bought and over those sold.
use Rattle.std.specs.Prelude.{◌≡◌, ℕ, ◌*◌, ◌≤◌, List}
use Rattle.account.specs.declared.line.Line.{Line}
use Rattle.account.specs.Lines.{if_bought, if_sold, sum_of}
use Rattle.valuation.specs.declared.per_side.PerSide.{PerSide}

-- the sums of a number of each line, over the lines bought and over those sold
pub record IsSumPerSide (f : Line → ℕ) (ls : List Line) (p : PerSide) : Type 0 where
  pub bought : p.bought ≡ sum_of (λ l. if_bought l.side (f l)) ls
  pub sold : p.sold ≡ sum_of (λ l. if_sold l.side (f l)) ls

-- the sums of n numbers, each at most 2,000,000,000,000
pub record PerSideWithin (n : ℕ) (p : PerSide) : Type 0 where
  pub bought : p.bought ≤ 2000000000000 * n
  pub sold : p.sold ≤ 2000000000000 * n
