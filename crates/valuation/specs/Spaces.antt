-- How large rows, and a tally of them, come to be: at most 3,000,000,000,000 cents in each block
-- for each line.
use Rattle.std.specs.Prelude.{ℕ, ◌+◌, ◌*◌, ◌≤◌, List, length, ℤ, pos, neg_ℤ, ◌≤ℤ◌}
use Rattle.account.specs.declared.row.Row.{Row}
use Rattle.account.specs.Lines.{sum_of}
use Rattle.account.specs.declared.block_name.BlockName.{BlockName}
use Rattle.valuation.specs.declared.tally.Tally.{Tally}
use Rattle.valuation.specs.Tallies.{block_charges, rounded_count}

-- the charges of n lines, of either sign
pub record ChargesWithin (n : ℕ) (z : ℤ) : Type 0 where
  pub low : neg_ℤ (pos (3000000000000 * n)) ≤ℤ z
  pub high : z ≤ℤ pos (3000000000000 * n)

-- rows of n lines
pub record RowsWithin (n : ℕ) (rows : List Row) : Type 0 where
  pub few : length rows ≤ n
  pub charged : (k : BlockName) → ChargesWithin n (block_charges k rows)
  pub rounded : sum_of rounded_count rows ≤ 2 * n

-- a tally of the rows of n lines
pub record TallyWithin (n : ℕ) (t : Tally) : Type 0 where
  pub count : t.count ≤ n
  pub trades : ChargesWithin n t.trades
  pub failed_lines : ChargesWithin n t.failed
  pub held_lines : ChargesWithin n t.held
  pub cash_only_lines : ChargesWithin n t.cash_only
  pub rounded : t.rounded_amounts ≤ 2 * n

-- a tally that can take the rows of n more lines
pub record HasSpaceFor (n : ℕ) (t : Tally) : Type 0 where
  pub so_far : ℕ
  pub within : TallyWithin so_far t
  pub few : so_far + n ≤ 65535
