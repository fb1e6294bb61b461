-- Lines of one ISIN, and the rows that they come to.
use Rattle.std.specs.Prelude.{◌≡◌, ℕ, ◌≤◌, Bool, IsFalse, List, length, Option, Some, Ok, Result}
use Rattle.std.specs.Coded.{Coded-set, coded_ℕ, coded×, coded_result, coded_option, Π_prop}
use Rattle.std.specs.Option.{option_map}
use Rattle.account.specs.declared.line.Line.{Line}
use Rattle.account.specs.declared.row.Row.{Row}
use Rattle.account.specs.declared.scope.Scope.{Scope}
use Rattle.account.specs.Charges.{cash_charged, cash_credited}
use Rattle.account.specs.Lines.{is_same_block, is_in_block, keep, any}
use Rattle.account.specs.declared.block_name.BlockName.{BlockName}
use Rattle.account.specs.declared.block_name.BlockName.TheVariants.{CashOnly as cash_only}
use Rattle.account.specs.Rows.{row, block_row, block_rows, isin_rows}
use Rattle.account.specs.Settings.{Setting}
use Rattle.valuation.specs.declared.basis.Basis.{Ghosts}
use Rattle.valuation.specs.declared.isin_lines.IsinLines.{IsinLines}
use Rattle.valuation.specs.declared.isin_sums.IsinSums.{IsinSums}
use Rattle.valuation.specs.declared.line_sums.LineSums.{LineSums}
use Rattle.valuation.specs.declared.quote.Quote.{Quote}
use Rattle.valuation.specs.LineSums.{IsSumOf}
use Rattle.valuation.specs.IsinSums.{scope_sums}
use Rattle.valuation.specs.Quotes.{quote_parts, quote_answer}
use Rattle.valuation.specs.RowCharges.{scope_rule}
use Rattle.valuation.specs.Scopes.{row_lines}

module _ {B : Type 0} {g : Ghosts B} where
  -- the setting that the lines are margined on
  abbrev pub basis_setting : IsinLines B g → Setting
  basis_setting p = g.setting p.basis.now

  -- the lines, of all blocks
  abbrev pub all_lines : IsinLines B g → List Line
  all_lines p = p.lines

  -- the lines of a block
  abbrev pub block_lines : IsinLines B g → BlockName → List Line
  block_lines p k = keep (is_in_block p.isin k) (all_lines p)

  -- the lines that a row is worked on
  abbrev pub scope_lines : IsinLines B g → Scope → List Line
  scope_lines p scope = row_lines (basis_setting p) p.isin scope (all_lines p)

  -- how many lines there are
  abbrev pub line_count : IsinLines B g → ℕ
  line_count p = length p.lines

  -- how many lines a block has
  abbrev pub block_count : IsinLines B g → BlockName → ℕ
  block_count p k = length (block_lines p k)

  -- whether a block has lines
  abbrev pub has_lines : IsinLines B g → BlockName → Bool
  has_lines p k = any (is_in_block p.isin k) (all_lines p)

  -- the quote of the ISIN
  abbrev pub isin_quote : IsinLines B g → Result (ℕ × ℕ) ℕ
  isin_quote p = quote_answer (basis_setting p) p.isin

  -- the quote of the ISIN is there, where a block of titles has lines
  abbrev pub IsQuoteOf : IsinLines B g → Option Quote → Type 0
  IsQuoteOf p quote =
      (k : BlockName) → IsFalse (is_same_block k cash_only) → 1 ≤ block_count p k →
      option_map (λ q. Ok (quote_parts q)) quote ≡ Some (isin_quote p)

  pub IsQuoteOf-prop : (p : IsinLines B g) (quote : Option Quote) → IsProp (IsQuoteOf p quote)
  IsQuoteOf-prop p quote =
      Π_prop
      (λ k. Π_prop
      (λ titled. Π_prop
      (λ some. Coded-set (coded_option (coded_result (coded× coded_ℕ coded_ℕ) coded_ℕ)) _ _)))

  -- the cash that is charged for a scope
  abbrev pub charged_cash : IsinLines B g → Scope → ℕ
  charged_cash p scope = cash_charged (basis_setting p) (scope_lines p scope)

  -- the cash that is credited for a scope
  abbrev pub credited_cash : IsinLines B g → Scope → ℕ
  credited_cash p scope = cash_credited (basis_setting p) (scope_lines p scope)

  -- the sums for a scope are those of the lines that its row is worked on
  abbrev pub IsScopeSum : IsinLines B g → Scope → LineSums → Type 0
  IsScopeSum p scope sums = IsSumOf (basis_setting p) (scope_lines p scope) sums

  -- the same of the sums for every scope
  abbrev pub AreSummedBy : IsinLines B g → IsinSums → Type 0
  AreSummedBy p sums = (scope : Scope) → IsScopeSum p scope (scope_sums sums scope)

  -- the row of a scope, worked on its lines by the rule for its block
  abbrev pub scope_row : IsinLines B g → Scope → Row
  scope_row p scope =
      row (basis_setting p) (scope_rule scope (basis_setting p).charged) p.isin scope
      (scope_lines p scope)

  -- the row of a block that has lines, which for trades is the worst of three scenarios
  abbrev pub worked_row : IsinLines B g → BlockName → Row
  worked_row p k = block_row (basis_setting p) p.isin k (block_lines p k)

  -- the row of a block, where the block has lines
  abbrev pub row_if_any : IsinLines B g → BlockName → List Row
  row_if_any p k = block_rows (basis_setting p) (all_lines p) p.isin k

  -- the rows of the blocks that have lines: trades, failed, held, cash-only
  abbrev pub all_rows : IsinLines B g → List Row
  all_rows p = isin_rows (basis_setting p) (all_lines p) p.isin
