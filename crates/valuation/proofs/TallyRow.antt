-- A tally with one more row.
use Rattle.std.proofs.Common.{◌≡◌, ◌+◌, Bool, true, false, cond, [], ◌∷◌, set, ℤ, pos, ◌+ℤ◌, sym, refl, ap, ◌∙◌, subst, arith, w64, SFits, to_z, of_z}
use Rattle.std.proofs.lemmas.Int.{ints, to_z-of_z}
use Rattle.account.specs.declared.scope.Scope.{Scope}
use Rattle.account.specs.declared.row.Row.{Row}
use Rattle.account.specs.Lines.{is_same_block, sum_ℤ}
use Rattle.account.specs.declared.block_name.BlockName.{BlockName}
use Rattle.account.specs.declared.block_name.BlockName.TheVariants.{Trade as trade, Failed as failed, Held as held, CashOnly as cash_only}
use Rattle.account.specs.Rows.{block_of, charge}
use Rattle.valuation.specs.declared.tally.Tally.{Tally}
use Rattle.valuation.specs.RowCharges.{RowWithin}
use Rattle.valuation.specs.Spaces.{ChargesWithin}
use Rattle.valuation.specs.Tallies.{block_charges, rounded_count, AddsRows}

-- the charge of a row, in the block of a scope only
abbrev pub share : BlockName → Scope → Row → ℤ
share k scope row = cond (is_same_block (block_of scope) k) (charge row) (pos 0)

pub share_is : (k : BlockName) (row : Row) (scope : Scope) → row.scope ≡ scope → block_charges k (row ∷ []) ≡ share k scope row
share_is k row scope e = go (is_same_block (block_of row.scope) k) ∙ ap (λ s. share k s row) e
  where
    go : (b : Bool) → sum_ℤ charge (cond b (row ∷ []) []) ≡ cond b (charge row) (pos 0)
    go true = omega (arith, ints)
    go false = refl

row_within : {row : Row} → RowWithin 65535 row → ChargesWithin 65535 (charge row)
row_within w = record { low = w.low; high = w.high }

sum_of_two : (z c d : ℤ) → ChargesWithin 65535 z → ChargesWithin 65535 d → c ≡ d → to_z w64 (of_z w64 z) +ℤ to_z w64 (of_z w64 c) ≡ z +ℤ d
sum_of_two z c d h k e = omega (arith, ints, h.low, h.high, k.low, k.high)

fits_of_two : (z d : ℤ) → ChargesWithin 65535 z → ChargesWithin 65535 d → SFits w64 (z +ℤ d)
fits_of_two z d h k = omega (arith, ints, h.low, h.high, k.low, k.high)

pub sum_fits : (z c : ℤ) (row : Row) → ChargesWithin 65535 z → RowWithin 65535 row → c ≡ charge row → SFits w64 (to_z w64 (of_z w64 z) +ℤ to_z w64 (of_z w64 c))
sum_fits z c row h w e = subst (SFits w64) (sym (sum_of_two z c (charge row) h (row_within w) e)) (fits_of_two z (charge row) h (row_within w))

pub sum_is : (z c : ℤ) (row : Row) → ChargesWithin 65535 z → RowWithin 65535 row → c ≡ charge row → to_z w64 (of_z w64 (to_z w64 (of_z w64 z) +ℤ to_z w64 (of_z w64 c))) ≡ z +ℤ charge row
sum_is z c row h w e = to_z-of_z w64 _ (sum_fits z c row h w e) ∙ sum_of_two z c (charge row) h (row_within w) e

pub same_sum : (z : ℤ) → z ≡ z +ℤ pos 0
same_sum z = omega (arith, ints)

pub tallied_one : {t u : Tally} {row : Row} (scope : Scope) → row.scope ≡ scope → u.rows.ghost_name ≡ t.rows.ghost_name → u.rows.now ≡ set t.rows.now t.count row → u.count ≡ t.count + 1 →
    u.trades ≡ t.trades +ℤ share trade scope row → u.failed ≡ t.failed +ℤ share failed scope row → u.held ≡ t.held +ℤ share held scope row → u.cash_only ≡ t.cash_only +ℤ share cash_only scope row →
    u.rounded_amounts ≡ t.rounded_amounts + rounded_count row → AddsRows (row ∷ []) t u
tallied_one {t} {u} {row} scope e o p n a b c d m =
    record {
      lent = o;
      places = p;
      count = n;
      trades = a ∙ ap (λ z. t.trades +ℤ z) (sym (share_is trade row scope e));
      failed_lines = b ∙ ap (λ z. t.failed +ℤ z) (sym (share_is failed row scope e));
      held_lines = c ∙ ap (λ z. t.held +ℤ z) (sym (share_is held row scope e));
      cash_only_lines = d ∙ ap (λ z. t.cash_only +ℤ z) (sym (share_is cash_only row scope e));
      rounded = omega arith;
    }
