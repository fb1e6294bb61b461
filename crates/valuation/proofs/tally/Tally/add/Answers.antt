use Rattle.std.proofs.Common.{◌+◌, refl, ap}
use Rattle.account.specs.declared.scope.Scope.TheVariants.{Trades, FailedLines, HeldLines, CashOnlyLines}
use Rattle.valuation.proofs.TallyRow.{sum_fits, sum_is, same_sum, tallied_one}
use Rattle.valuation.proofs.tally.Tally.add.Goals as goal

pub overflow_add-self-in-Trades : goal.overflow_add-self-in-Trades
overflow_add-self-in-Trades c = sum_fits c.args.self.now.trades _ c.args.row c.requires.room.trades c.requires.bounded c.charge_of-charge.ensures

pub returns-in-Trades : goal.returns-in-Trades
returns-in-Trades c =
    let t = c.args.self.now in
    tallied_one (Trades _) c.in-Trades.is refl c.write_at.ensures refl
    (sum_is t.trades _ c.args.row c.requires.room.trades c.requires.bounded c.charge_of-charge.ensures) (same_sum _) (same_sum _) (same_sum _)
    (ap (λ n. t.rounded_amounts + n) c.rounded_count.ensures)

pub overflow_add-self-in-FailedLines : goal.overflow_add-self-in-FailedLines
overflow_add-self-in-FailedLines c = sum_fits c.args.self.now.failed _ c.args.row c.requires.room.failed_lines c.requires.bounded c.charge_of-charge.ensures

pub returns-in-FailedLines : goal.returns-in-FailedLines
returns-in-FailedLines c =
    let t = c.args.self.now in
    tallied_one FailedLines c.in-FailedLines.is refl c.write_at.ensures refl
    (same_sum _) (sum_is t.failed _ c.args.row c.requires.room.failed_lines c.requires.bounded c.charge_of-charge.ensures) (same_sum _) (same_sum _)
    (ap (λ n. t.rounded_amounts + n) c.rounded_count.ensures)

pub overflow_add-self-in-HeldLines : goal.overflow_add-self-in-HeldLines
overflow_add-self-in-HeldLines c = sum_fits c.args.self.now.held _ c.args.row c.requires.room.held_lines c.requires.bounded c.charge_of-charge.ensures

pub returns-in-HeldLines : goal.returns-in-HeldLines
returns-in-HeldLines c =
    let t = c.args.self.now in
    tallied_one HeldLines c.in-HeldLines.is refl c.write_at.ensures refl
    (same_sum _) (same_sum _) (sum_is t.held _ c.args.row c.requires.room.held_lines c.requires.bounded c.charge_of-charge.ensures) (same_sum _)
    (ap (λ n. t.rounded_amounts + n) c.rounded_count.ensures)

pub overflow_add-self-in-CashOnlyLines : goal.overflow_add-self-in-CashOnlyLines
overflow_add-self-in-CashOnlyLines c = sum_fits c.args.self.now.cash_only _ c.args.row c.requires.room.cash_only_lines c.requires.bounded c.charge_of-charge.ensures

pub returns-in-CashOnlyLines : goal.returns-in-CashOnlyLines
returns-in-CashOnlyLines c =
    let t = c.args.self.now in
    tallied_one CashOnlyLines c.in-CashOnlyLines.is refl c.write_at.ensures refl
    (same_sum _) (same_sum _) (same_sum _) (sum_is t.cash_only _ c.args.row c.requires.room.cash_only_lines c.requires.bounded c.charge_of-charge.ensures)
    (ap (λ n. t.rounded_amounts + n) c.rounded_count.ensures)
