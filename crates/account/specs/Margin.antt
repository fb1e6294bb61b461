-- The margin of lines, in cents, and the count of its rounded amounts.
use Rattle.std.specs.Prelude.{ℕ, ◌+◌, List, [], ◌∷◌, length, ℤ, pos, negsuc}
use Rattle.quantities.specs.declared.isin.Isin.{Isin}
use Rattle.account.specs.declared.line.Line.{Line}
use Rattle.account.specs.Lines.{is_same_block, is_trade, is_in_block, keep, sum_of, sum_ℤ, isins}
use Rattle.account.specs.declared.block_name.BlockName.{BlockName}
use Rattle.account.specs.declared.block_name.BlockName.TheVariants.{Trade as trade, Failed as failed, Held as held, CashOnly as cash_only}
use Rattle.account.specs.Settings.{Setting}
use Rattle.account.specs.declared.row.Row.{Row}
use Rattle.account.specs.Rows.{block_of, charge, statement_rows}

-- a number, or 0 where it is negative
abbrev pub not_below_zero : ℤ → ℕ
not_below_zero (pos n) = n
not_below_zero (negsuc n) = 0

-- the charges of the rows of a block, added; as a whole never below zero
abbrev pub block_sum : BlockName → List Row → ℕ
block_sum k rows =
    not_below_zero (sum_ℤ charge (keep (λ r. is_same_block (block_of r.scope) k) rows))

-- the sums of the four blocks, added
abbrev pub total : List Row → ℕ
total rows =
    block_sum trade rows
    + (block_sum failed rows
    + (block_sum held rows
    + block_sum cash_only rows))

-- the margin of lines is worked from the rows of their statement
abbrev pub margin : Setting → List Line → ℕ
margin s ls = total (statement_rows s ls)

-- two where there are lines
abbrev pub two_if_any : List Line → ℕ
two_if_any [] = 0
two_if_any (l ∷ ls) = 2

-- an initial margin and a market value each for the trades, the failed and the held lines of an
-- ISIN, where there are any
abbrev pub rounded_amounts_at : List Line → Isin → ℕ
rounded_amounts_at ls i =
    two_if_any (keep (is_in_block i trade) ls)
    + (two_if_any (keep (is_in_block i failed) ls)
    + two_if_any (keep (is_in_block i held) ls))

-- those of every ISIN, and a present value for each trade
abbrev pub rounded_amounts : List Line → ℕ
rounded_amounts ls = sum_of (rounded_amounts_at ls) (isins ls) + length (keep is_trade ls)
