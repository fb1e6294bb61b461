use Rattle.std.proofs.Common.{ℕ, ◌≤◌, ◌*◌, length, pos, ap, arith}
use Rattle.std.proofs.lemmas.Int.{ints}
use Rattle.quantities.specs.declared.isin.Isin.{Isin}
use Rattle.account.specs.declared.scope.Scope.TheVariants.{CashOnlyLines}
use Rattle.account.specs.Lines.{is_in_block, keep}
use Rattle.account.specs.declared.block_name.BlockName.TheVariants.{CashOnly as cash_only}
use Rattle.valuation.specs.RowCharges.{RowWithin}
use Rattle.valuation.proofs.Scopes.{lines_cash}
use Rattle.valuation.proofs.CashOnly.{cash_row_is}
use Rattle.valuation.proofs.summed_lines.SummedLines.cash_only_row.Goals as goal

pub returns-clause-is : goal.returns-clause-is
returns-clause-is g c =
    let r = c.args.self.now.lines.now in
    let m = c.scope_cash-cash in
    cash_row_is (g.B.Basis.setting r.basis.now) r.isin r.lines _ m.result.bought m.result.sold c.saturating_sub.ensures m.ensures.bought m.ensures.sold

cash_within : (n x : ℕ) → x ≤ 3000000000000 * n → (i : Isin) → RowWithin n (record { isin = i; scope = CashOnlyLines; initial_margin = x; variation_margin = pos 0 })
cash_within n x h i = record { initial = h; low = omega (arith, ints, h); high = omega (arith, ints, h) }

pub returns-clause-within : goal.returns-clause-within
returns-clause-within g c =
    let r = c.args.self.now.lines.now in
    let n : ℕ = length (keep (is_in_block r.isin cash_only) r.lines) in
    let x : ℕ = c.saturating_sub.result in
    let same = ap length (lines_cash (g.B.Basis.setting r.basis.now) r.isin r.lines) in
    cash_within n x (omega (arith, c.scope_cash-cash.ensures.within.bought, same, c.saturating_sub.ensures)) r.isin
