-- The margin of lines and its rounded amounts, from a tally of all their rows.
use Rattle.std.proofs.Common.{◌≡◌, ℕ, ◌+◌, cond, List, [], ◌∷◌, length, ℤ, pos, ◌+ℤ◌, refl, ap, ◌∙◌, ap₂, arith}
use Rattle.std.proofs.lemmas.Int.{ints}
use Rattle.quantities.specs.declared.isin.Isin.{Isin}
use Rattle.account.specs.declared.line.Line.{Line}
use Rattle.account.specs.declared.row.Row.{Row}
use Rattle.account.specs.Lines.{is_same_block, is_in_block, keep, sum_of, isins}
use Rattle.account.specs.declared.block_name.BlockName.{BlockName}
use Rattle.account.specs.declared.block_name.BlockName.TheVariants.{Trade as trade, Failed as failed, Held as held, CashOnly as cash_only}
use Rattle.account.specs.Settings.{Setting}
use Rattle.account.specs.Rows.{block_of, block_row, if_any, block_rows, isin_rows, rows_of_isins, statement_rows}
use Rattle.account.specs.Margin.{not_below_zero, total, two_if_any, rounded_amounts_at}
use Rattle.account.proofs.Sums.{sum_joined}
use Rattle.account.proofs.Blocks.{block_is}
use Rattle.valuation.specs.declared.tally.Tally.{Tally}
use Rattle.valuation.specs.Tallies.{places_with_rows, rounded_count, IsEmpty, AddsRows}

-- ---- the cents
from_zero : (z x y : ℤ) → z ≡ pos 0 → x ≡ z +ℤ y → not_below_zero x ≡ not_below_zero y
from_zero z x y e d = let same : x ≡ y = omega (arith, ints) in ap not_below_zero same

pub cents_are : {places rows : List Row} {t u : Tally} → IsEmpty places t → AddsRows rows t u → not_below_zero u.trades + (not_below_zero u.failed + (not_below_zero u.held + not_below_zero u.cash_only)) ≡ total rows
cents_are e a =
    ap₂ ◌+◌ (from_zero _ _ _ e.trades a.trades) (ap₂ ◌+◌ (from_zero _ _ _ e.failed_lines a.failed_lines) (ap₂ ◌+◌ (from_zero _ _ _ e.held_lines a.held_lines) (from_zero _ _ _ e.cash_only_lines a.cash_only_lines)))

-- ---- the rounded amounts
amounts_if_any : (k : BlockName) (ks : List Line) (r : Row) → block_of r.scope ≡ k → sum_of rounded_count (if_any ks r) ≡ cond (is_same_block k cash_only) 0 (two_if_any ks)
amounts_if_any trade [] r e = refl
amounts_if_any failed [] r e = refl
amounts_if_any held [] r e = refl
amounts_if_any cash_only [] r e = refl
amounts_if_any k (l ∷ ks) r e = omega (arith, ap {B = ℕ} (λ b. cond (is_same_block b cash_only) 0 2) e)

module _ (s : Setting) (ls : List Line) where
  of_block : (i : Isin) (k : BlockName) → sum_of rounded_count (block_rows s ls i k) ≡ cond (is_same_block k cash_only) 0 (two_if_any (keep (is_in_block i k) ls))
  of_block i k = amounts_if_any k (keep (is_in_block i k) ls) (block_row s i k (keep (is_in_block i k) ls)) (block_is s i k (keep (is_in_block i k) ls))

  of_isin : (i : Isin) → sum_of rounded_count (isin_rows s ls i) ≡ rounded_amounts_at ls i
  of_isin i =
      let join = sum_joined rounded_count in
      join (block_rows s ls i trade) _
      ∙ ap₂ ◌+◌ (of_block i trade) (join (block_rows s ls i failed) _
      ∙ ap₂ ◌+◌ (of_block i failed) (join (block_rows s ls i held) (block_rows s ls i cash_only)
      ∙ ap₂ ◌+◌ (of_block i held) (of_block i cash_only) ∙ omega arith))

  over_isins : (is : List Isin) → sum_of rounded_count (rows_of_isins s ls is) ≡ sum_of (rounded_amounts_at ls) is
  over_isins [] = refl
  over_isins (i ∷ is) = omega (arith, sum_joined rounded_count (isin_rows s ls i) (rows_of_isins s ls is), of_isin i, over_isins is)

  pub amounts_are : {places : List Row} {t u : Tally} → IsEmpty places t → AddsRows (statement_rows s ls) t u → u.rounded_amounts ≡ sum_of (rounded_amounts_at ls) (isins ls)
  amounts_are e a = omega (arith, e.rounded, a.rounded, over_isins (isins ls))

-- ---- the rows
pub count_is : {places rows : List Row} {t u : Tally} → IsEmpty places t → AddsRows rows t u → u.count ≡ length rows
count_is e a = omega (arith, e.count, a.count)

pub places_are : {places rows : List Row} {t u : Tally} → IsEmpty places t → AddsRows rows t u → u.rows.now ≡ places_with_rows 0 rows places
places_are {rows} e a = a.places ∙ ap₂ (λ n ps. places_with_rows n rows ps) e.count e.places
