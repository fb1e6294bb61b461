-- What rows are charged, and how far their amounts go.
use Rattle.std.specs.Prelude.{ℕ, ◌*◌, ◌≤◌, pos, neg_ℤ, ◌≤ℤ◌}
use Rattle.netting.specs.Rules.{both_sides}
use Rattle.account.specs.declared.scope.Scope.{Scope}
use Rattle.account.specs.declared.scope.Scope.TheVariants.{Trades, FailedLines, HeldLines, CashOnlyLines}
use Rattle.account.specs.declared.row.Row.{Row}
use Rattle.account.specs.Rows.{charge}

-- the account's netting rule is for trades; elsewhere both sides are charged
abbrev pub scope_rule : Scope → (ℕ → ℕ → ℕ) → ℕ → ℕ → ℕ
scope_rule (Trades n) rule = rule
scope_rule FailedLines rule = both_sides
scope_rule HeldLines rule = both_sides
scope_rule CashOnlyLines rule = both_sides

-- the amounts of a row of n lines: 3,000,000,000,000 cents for each of them at most
pub record RowWithin (n : ℕ) (r : Row) : Type 0 where
  pub initial : r.initial_margin ≤ 3000000000000 * n
  pub low : neg_ℤ (pos (3000000000000 * n)) ≤ℤ charge r
  pub high : charge r ≤ℤ pos (3000000000000 * n)
