-- Rows as they are counted, added up and written.
use Rattle.std.specs.Prelude.{◌≡◌, ℕ, ◌+◌, if◌then◌else◌, List, [], ◌∷◌, length, ℤ, pos, ◌+ℤ◌, slice_set}
use Rattle.account.specs.declared.row.Row.{Row}
use Rattle.account.specs.Lines.{is_same_block, keep, sum_of, sum_ℤ}
use Rattle.account.specs.declared.block_name.BlockName.{BlockName}
use Rattle.account.specs.declared.block_name.BlockName.TheVariants.{Trade as trade, Failed as failed, Held as held, CashOnly as cash_only}
use Rattle.account.specs.Margin.{not_below_zero}
use Rattle.account.specs.Rows.{block_of, charge}
use Rattle.valuation.specs.declared.tally.Tally.{Tally}

-- rows written one after another from a place on; those that have no place are not written
abbrev pub places_with_rows : ℕ → List Row → List Row → List Row
places_with_rows n [] places = places
places_with_rows n (r ∷ rs) places = places_with_rows (n + 1) rs (slice_set places n r)

-- the charges of the rows of a block, added
abbrev pub block_charges : BlockName → List Row → ℤ
block_charges k rows = sum_ℤ charge (keep (λ r. is_same_block (block_of r.scope) k) rows)

-- the initial margin and the market value of a row are rounded; cash is not
abbrev pub rounded_count : Row → ℕ
rounded_count r = if is_same_block (block_of r.scope) cash_only then 0 else 2

-- a tally of no rows, over places
pub record IsEmpty (rows : List Row) (t : Tally) : Type 0 where
  pub places : t.rows.now ≡ rows
  pub count : t.count ≡ 0
  pub trades : t.trades ≡ pos 0
  pub failed_lines : t.failed ≡ pos 0
  pub held_lines : t.held ≡ pos 0
  pub cash_only_lines : t.cash_only ≡ pos 0
  pub rounded : t.rounded_amounts ≡ 0

-- what a tally comes to with more rows
pub record AddsRows (rows : List Row) (before after : Tally) : Type 0 where
  pub lent : after.rows.ghost_name ≡ before.rows.ghost_name
  pub places : after.rows.now ≡ places_with_rows before.count rows before.rows.now
  pub count : after.count ≡ before.count + length rows
  pub trades : after.trades ≡ before.trades +ℤ block_charges trade rows
  pub failed_lines : after.failed ≡ before.failed +ℤ block_charges failed rows
  pub held_lines : after.held ≡ before.held +ℤ block_charges held rows
  pub cash_only_lines : after.cash_only ≡ before.cash_only +ℤ block_charges cash_only rows
  pub rounded : after.rounded_amounts ≡ before.rounded_amounts + sum_of rounded_count rows

-- the charges of a tally's blocks, each not below zero, added
abbrev pub tally_cents : Tally → ℕ
tally_cents t =
    not_below_zero t.trades
    + (not_below_zero t.failed + (not_below_zero t.held + not_below_zero t.cash_only))
