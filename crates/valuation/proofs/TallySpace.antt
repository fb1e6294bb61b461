-- A tally keeps within what 64 bits hold.
use Rattle.std.proofs.Common.{◌≡◌, ℕ, ◌+◌, ◌*◌, ◌≤◌, Bool, true, false, cond, List, [], ◌∷◌, ◌++◌, ℤ, pos, ◌+ℤ◌, sym, refl, subst, arith}
use Rattle.std.proofs.lemmas.List.{length-append}
use Rattle.std.proofs.lemmas.Int.{ints}
use Rattle.std.proofs.lemmas.Bool.{cond_both}
use Rattle.account.specs.declared.row.Row.{Row}
use Rattle.account.specs.Lines.{is_same_block}
use Rattle.account.specs.declared.block_name.BlockName.TheVariants.{Trade as trade, Failed as failed, Held as held, CashOnly as cash_only}
use Rattle.account.specs.Rows.{block_of, charge}
use Rattle.account.proofs.Sums.{sum_joined}
use Rattle.valuation.specs.declared.tally.Tally.{Tally}
use Rattle.valuation.specs.RowCharges.{RowWithin}
use Rattle.valuation.specs.Tallies.{block_charges, rounded_count, AddsRows}
use Rattle.valuation.specs.Spaces.{ChargesWithin, RowsWithin, TallyWithin, HasSpaceFor}
use Rattle.valuation.proofs.TallyRow.{share_is}
use Rattle.valuation.proofs.TallyRows.{charges_both}

sum_within : (m n : ℕ) (x y z : ℤ) → ChargesWithin m x → ChargesWithin n y → z ≡ x +ℤ y → ChargesWithin (m + n) z
sum_within m n x y z h k e = record { low = omega (arith, ints, h.low, k.low); high = omega (arith, ints, h.high, k.high) }

more_within : (m n : ℕ) (z : ℤ) → m ≤ n → ChargesWithin m z → ChargesWithin n z
more_within m n z l h = record { low = omega (arith, ints, h.low); high = omega (arith, ints, h.high) }

zero_within : (n : ℕ) → ChargesWithin n (pos 0)
zero_within n = record { low = omega (arith, ints); high = omega (arith, ints) }

-- ---- rows of lines
pub within_none : (n : ℕ) → RowsWithin n []
within_none n = record { few = omega arith; charged = λ k. zero_within n; rounded = omega arith }

pub within_both : {m n : ℕ} {xs ys : List Row} → RowsWithin m xs → RowsWithin n ys → RowsWithin (m + n) (xs ++ ys)
within_both {m} {n} {xs} {ys} a b =
    record {
      few = omega (arith, length-append xs ys);
      charged = λ k. sum_within m n (block_charges k xs) (block_charges k ys) (block_charges k (xs ++ ys)) (a.charged k) (b.charged k) (charges_both k xs ys);
      rounded = omega (arith, sum_joined rounded_count xs ys);
    }

pub within_one : (n : ℕ) (row : Row) → 1 ≤ n → RowWithin n row → RowsWithin n (row ∷ [])
within_one n row h w =
    record {
      few = omega arith;
      charged = λ k. subst (ChargesWithin n) (sym (share_is k row row.scope refl)) (share_within (is_same_block (block_of row.scope) k));
      rounded = cond_both (is_same_block (block_of row.scope) cash_only) 0 2 (λ m. m + 0 ≤ 2 * n) (λ _. omega arith) (λ _. omega arith);
    }
  where
    share_within : (b : Bool) → ChargesWithin n (cond b (charge row) (pos 0))
    share_within true = record { low = w.low; high = w.high }
    share_within false = zero_within n

-- ---- tallies of rows of lines
pub space_after : {m n : ℕ} {rows : List Row} {t u : Tally} → HasSpaceFor (m + n) t → RowsWithin m rows → AddsRows rows t u → HasSpaceFor n u
space_after {m} {n} {rows} {t} {u} s r a =
    let w = s.within in
    let c = r.charged in
    record {
      so_far = s.so_far + m;
      within =
          record {
            count = omega (arith, w.count, r.few, a.count);
            trades = sum_within s.so_far m t.trades (block_charges trade rows) u.trades w.trades (c trade) a.trades;
            failed_lines = sum_within s.so_far m t.failed (block_charges failed rows) u.failed w.failed_lines (c failed) a.failed_lines;
            held_lines = sum_within s.so_far m t.held (block_charges held rows) u.held w.held_lines (c held) a.held_lines;
            cash_only_lines = sum_within s.so_far m t.cash_only (block_charges cash_only rows) u.cash_only w.cash_only_lines (c cash_only) a.cash_only_lines;
            rounded = omega (arith, w.rounded, r.rounded, a.rounded);
          };
      few = omega (arith, s.few);
    }

pub space_less : {m n : ℕ} {t : Tally} → m ≤ n → HasSpaceFor n t → HasSpaceFor m t
space_less h s = record { so_far = s.so_far; within = s.within; few = omega (arith, s.few) }

pub space_within : {n : ℕ} {t : Tally} → HasSpaceFor n t → TallyWithin 65535 t
space_within {n} {t} s =
    let l : s.so_far ≤ 65535 = omega (arith, s.few) in
    let w = s.within in
    record {
      count = omega (arith, w.count);
      trades = more_within s.so_far 65535 t.trades l w.trades;
      failed_lines = more_within s.so_far 65535 t.failed l w.failed_lines;
      held_lines = more_within s.so_far 65535 t.held l w.held_lines;
      cash_only_lines = more_within s.so_far 65535 t.cash_only l w.cash_only_lines;
      rounded = omega (arith, w.rounded);
    }
