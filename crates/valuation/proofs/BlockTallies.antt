-- The rows of the blocks of an ISIN, tallied one after another.
use Rattle.std.proofs.Common.{◌≡◌, ℕ, ◌+◌, ◌≤◌, List, [], ◌∷◌, length, Some, None, Option, IfSome, true, sym, subst, arith}
use Rattle.std.specs.List.{list_all}
use Rattle.std.specs.Option.{option_to_list}
use Rattle.quantities.specs.declared.isin.Isin.{Isin}
use Rattle.account.specs.declared.line.Line.{Line}
use Rattle.account.specs.declared.row.Row.{Row}
use Rattle.account.specs.Lines.{same_isin, is_in_block, keep}
use Rattle.account.specs.declared.block_name.BlockName.{BlockName}
use Rattle.account.specs.declared.block_name.BlockName.TheVariants.{Trade as trade, Failed as failed, Held as held, CashOnly as cash_only}
use Rattle.account.specs.Settings.{Setting}
use Rattle.account.specs.Rows.{block_row, if_any, block_rows}
use Rattle.valuation.specs.declared.tally.Tally.{Tally}
use Rattle.valuation.specs.RowCharges.{RowWithin}
use Rattle.valuation.specs.Tallies.{AddsRows}
use Rattle.valuation.specs.Spaces.{RowsWithin, HasSpaceFor}
use Rattle.valuation.proofs.Worst.{within_more}
use Rattle.valuation.proofs.Counted.{isin_line_count, of_blocks, all_counted}
use Rattle.valuation.proofs.TallySpace.{within_none, within_one, space_after}

-- how many lines an ISIN and block have
abbrev pub count_in : Isin → BlockName → List Line → ℕ
count_in i k ls = length (keep (is_in_block i k) ls)

pub space_blocks : (i : Isin) (ls : List Line) {t : Tally} → HasSpaceFor (isin_line_count i ls) t → HasSpaceFor (count_in i trade ls + (count_in i failed ls + (count_in i held ls + (count_in i cash_only ls + 0)))) t
space_blocks i ls {t} s = subst (λ n. HasSpaceFor n t) (omega (arith, of_blocks i ls)) s

-- the same of lines that are all of the ISIN
pub space_of_blocks : (i : Isin) (xs : List Line) {t : Tally} → list_all (λ l. same_isin l.isin i) xs ≡ true → HasSpaceFor (length xs) t →
    HasSpaceFor (count_in i trade xs + (count_in i failed xs + (count_in i held xs + (count_in i cash_only xs + 0)))) t
space_of_blocks i xs {t} h p = space_blocks i xs (subst (λ n. HasSpaceFor n t) (sym (all_counted i xs h)) p)

pub each_more : (m n : ℕ) (o : Option Row) → m ≤ n → IfSome o (RowWithin m) → IfSome o (RowWithin n)
each_more m n None h w = tt
each_more m n (Some row) h w = within_more h w

pub tallied_as : {xs ys : List Row} {t u : Tally} → xs ≡ ys → AddsRows xs t u → AddsRows ys t u
tallied_as {t} {u} e a = subst (λ rows. AddsRows rows t u) e a

module _ (i : Isin) (k : BlockName) (ls : List Line) where
  some_line : (s : Setting) (row : Row) → option_to_list (Some row) ≡ block_rows s ls i k → 1 ≤ count_in i k ls
  some_line s row e = go (keep (is_in_block i k) ls) (block_row s i k (keep (is_in_block i k) ls)) e
    where
      go : (ks : List Line) (r : Row) → row ∷ [] ≡ if_any ks r → 1 ≤ length ks
      go [] r d = absurd (grind arith)
      go (l ∷ ks) r d = omega arith

  pub block_within : (s : Setting) (o : Option Row) → option_to_list o ≡ block_rows s ls i k → IfSome o (RowWithin (count_in i k ls)) → RowsWithin (count_in i k ls) (block_rows s ls i k)
  block_within s None e w = subst (RowsWithin (count_in i k ls)) e (within_none _)
  block_within s (Some row) e w = subst (RowsWithin (count_in i k ls)) e (within_one _ row (some_line s row e) w)

  pub after_block : {t u : Tally} (n : ℕ) (s : Setting) (o : Option Row) → HasSpaceFor (count_in i k ls + n) t → option_to_list o ≡ block_rows s ls i k → IfSome o (RowWithin (count_in i k ls)) → AddsRows (option_to_list o) t u → HasSpaceFor n u
  after_block n s o p e w a = space_after p (block_within s o e w) (tallied_as e a)
