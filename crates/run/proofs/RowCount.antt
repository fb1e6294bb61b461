-- A statement has at most as many rows as there are lines.
use Rattle.std.proofs.Common.{◌≡◌, ℕ, ◌+◌, ◌≤◌, Bool, true, false, cond, List, [], ◌∷◌, ◌++◌, length, refl, arith}
use Rattle.std.proofs.lemmas.List.{length-append}
use Rattle.quantities.specs.declared.isin.Isin.{Isin}
use Rattle.account.specs.declared.line.Line.{Line}
use Rattle.account.specs.declared.row.Row.{Row}
use Rattle.account.specs.Lines.{same_isin, is_in_block, keep, sum_of, isins}
use Rattle.account.specs.declared.block_name.BlockName.{BlockName}
use Rattle.account.specs.declared.block_name.BlockName.TheVariants.{Trade as trade, Failed as failed, Held as held, CashOnly as cash_only}
use Rattle.account.proofs.Sums.{sum_le}
use Rattle.account.proofs.Isins.{once_each}
use Rattle.account.specs.Settings.{Setting}
use Rattle.account.specs.Rows.{if_any, block_row, block_rows, isin_rows, rows_of_isins, statement_rows}
use Rattle.valuation.proofs.Counted.{isin_line_count, of_blocks}

module _ {X : Type 0} (p : X → Bool) where
  length_kept : (xs : List X) → length (keep p xs) ≡ sum_of (λ x. cond (p x) 1 0) xs
  length_kept [] = refl
  length_kept (x ∷ xs) = go (p x) (keep p xs) (sum_of (λ y. cond (p y) 1 0) xs) (length_kept xs)
    where
      go : (b : Bool) (ks : List X) (n : ℕ) → length ks ≡ n → length (cond b (x ∷ ks) ks) ≡ cond b 1 0 + n
      go true ks n e = omega (arith, e)
      go false ks n e = omega (arith, e)

-- each line is of one ISIN of those that lines have
of_isins : (ls : List Line) → sum_of (λ i. isin_line_count i ls) (isins ls) ≤ length ls
of_isins ls = omega (arith, sum_le _ _ (isins ls) (λ i. here i), once_each (λ l. 1) ls ls, ones ls)
  where
    here : (i : Isin) → isin_line_count i ls ≤ sum_of (λ l. cond (same_isin l.isin i) 1 0) ls
    here i = omega (arith, length_kept (λ l. same_isin l.isin i) ls)

    ones : (ms : List Line) → sum_of (λ (m : Line). 1) ms ≡ length ms
    ones [] = refl
    ones (m ∷ ms) = omega (arith, ones ms)

one_at_most : (ls : List Line) (r : Row) → length (if_any ls r) ≤ length ls
one_at_most [] r = omega arith
one_at_most (l ∷ ls) r = omega arith

isin_few : (s : Setting) (ls : List Line) (i : Isin) → length (isin_rows s ls i) ≤ isin_line_count i ls
isin_few s ls i =
    let rows : BlockName → List Row = block_rows s ls i in
    let few : (k : BlockName) → length (rows k) ≤ length (keep (is_in_block i k) ls) = λ k. one_at_most (keep (is_in_block i k) ls) (block_row s i k (keep (is_in_block i k) ls)) in
    omega (
      arith,
      of_blocks i ls,
      length-append (rows trade) (rows failed ++ (rows held ++ rows cash_only)),
      length-append (rows failed) (rows held ++ rows cash_only),
      length-append (rows held) (rows cash_only),
      few trade,
      few failed,
      few held,
      few cash_only,
    )

over_few : (s : Setting) (ls : List Line) (is : List Isin) → length (rows_of_isins s ls is) ≤ sum_of (λ i. isin_line_count i ls) is
over_few s ls [] = omega arith
over_few s ls (i ∷ is) = omega (arith, length-append (isin_rows s ls i) (rows_of_isins s ls is), isin_few s ls i, over_few s ls is)

pub rows_few : (s : Setting) (ls : List Line) → length (statement_rows s ls) ≤ length ls
rows_few s ls = omega (arith, over_few s ls (isins ls), of_isins ls)
