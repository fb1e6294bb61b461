-- Rows tallied one after another, and then more.
use Rattle.std.proofs.Common.{◌≡◌, ℕ, ◌+◌, List, [], ◌∷◌, ◌++◌, length, set, ◌+ℤ◌, sym, refl, ap, ◌∙◌, ap₂, arith}
use Rattle.std.proofs.lemmas.List.{length-append}
use Rattle.std.proofs.lemmas.Int.{ints}
use Rattle.account.specs.declared.row.Row.{Row}
use Rattle.account.specs.Lines.{is_same_block}
use Rattle.account.specs.declared.block_name.BlockName.{BlockName}
use Rattle.account.specs.declared.block_name.BlockName.TheVariants.{Trade as trade, Failed as failed, Held as held, CashOnly as cash_only}
use Rattle.account.specs.Rows.{block_of, charge}
use Rattle.account.proofs.Sums.{sum_both, sum_kept, sum_joined}
use Rattle.valuation.specs.declared.tally.Tally.{Tally}
use Rattle.valuation.specs.Tallies.{places_with_rows, block_charges, rounded_count, AddsRows}

written_both : (n : ℕ) (xs ys places : List Row) → places_with_rows n (xs ++ ys) places ≡ places_with_rows (n + length xs) ys (places_with_rows n xs places)
written_both n [] ys places = ap (λ m. places_with_rows m ys places) (omega arith)
written_both n (x ∷ xs) ys places = written_both (n + 1) xs ys (set places n x) ∙ ap (λ m. places_with_rows m ys (places_with_rows (n + 1) xs (set places n x))) (omega arith)

pub charges_both : (k : BlockName) (xs ys : List Row) → block_charges k (xs ++ ys) ≡ block_charges k xs +ℤ block_charges k ys
charges_both k xs ys =
    let kept = sum_kept charge (λ r. is_same_block (block_of r.scope) k) in
    kept (xs ++ ys) ∙ sum_both _ xs ys ∙ sym (ap₂ ◌+ℤ◌ (kept xs) (kept ys))

pub tallied_none : (t : Tally) → AddsRows [] t t
tallied_none t =
    record {
      lent = refl;
      places = refl;
      count = omega arith;
      trades = omega (arith, ints);
      failed_lines = omega (arith, ints);
      held_lines = omega (arith, ints);
      cash_only_lines = omega (arith, ints);
      rounded = omega arith;
    }

pub tallied_both : {xs ys : List Row} {t u v : Tally} → AddsRows xs t u → AddsRows ys u v → AddsRows (xs ++ ys) t v
tallied_both {xs} {ys} {t} {u} {v} a b =
    record {
      lent = b.lent ∙ a.lent;
      places = b.places ∙ ap₂ (λ n rows. places_with_rows n ys rows) a.count a.places ∙ sym (written_both t.count xs ys t.rows.now);
      count = omega (arith, length-append xs ys);
      trades = omega (arith, ints, charges_both trade xs ys, a.trades, b.trades);
      failed_lines = omega (arith, ints, charges_both failed xs ys, a.failed_lines, b.failed_lines);
      held_lines = omega (arith, ints, charges_both held xs ys, a.held_lines, b.held_lines);
      cash_only_lines = omega (arith, ints, charges_both cash_only xs ys, a.cash_only_lines, b.cash_only_lines);
      rounded = omega (arith, sum_joined rounded_count xs ys);
    }
