-- How long a statement is.
use Rattle.std.proofs.Common.{◌≡◌, ℕ, zero, suc, ◌+◌, ◌*◌, ◌/◌, ◌%◌, ◌≤◌, ◌<◌, false, eqb, List, [], ◌∷◌, ℤ, pos, negsuc, length, refl, arith, length-append}
use Rattle.std.proofs.lemmas.Bool.{cond_both}
use Rattle.std.proofs.lemmas.Fmt.{length-decimal-le_wide}
use Rattle.std.specs.Fmt.{digit_glyph, digits_onto, digits, decimal, signed_decimal}
use Rattle.std.specs.List.{AllByRecursion as All}
use Rattle.account.specs.declared.row.Row.{Row}
use Rattle.account.specs.declared.block_name.BlockName.{BlockName}
use Rattle.account.specs.declared.block_name.BlockName.TheVariants.{Trade as trade, Failed as failed, Held as held, CashOnly as cash_only}
use Rattle.account.specs.declared.scenario.Scenario.TheVariants.{AllTrades, WithoutToday, AfterNext}
use Rattle.account.specs.declared.scope.Scope.{Scope}
use Rattle.account.specs.declared.scope.Scope.TheVariants.{Trades, FailedLines, HeldLines, CashOnlyLines}
use Rattle.account.specs.Rows.{block_of, scenario_of}
use Rattle.statement.specs.Statements.{block_letter, row_text, rows_text, statement_text}

-- below a bound of either sign
abbrev pub Within : ℕ → ℤ → Type 0
Within n (pos k) = k < n
Within n (negsuc k) = suc k < n

-- a row of an ISIN of twelve bytes, with amounts of at most 17 and 22 digits
pub record ShortRow (r : Row) : Type 0 where
  pub twelve : length r.isin.bytes ≡ 12
  pub initial : r.initial_margin < 100000000000000000
  pub variation : Within 10000000000000000000000 r.variation_margin

-- ---- a number has at most 64 digits
digits_few : (k n : ℕ) (acc : List ℕ) → length (digits_onto k 10 false n acc) ≤ k + length acc
digits_few zero n acc = omega arith
digits_few (suc k) n acc =
    cond_both (eqb (n / 10) 0) (digit_glyph false (n % 10) ∷ acc) (digits_onto k 10 false (n / 10) (digit_glyph false (n % 10) ∷ acc)) (λ ds. length ds ≤ suc k + length acc)
    (λ e. omega arith) (λ e. let m = digits_few k (n / 10) (digit_glyph false (n % 10) ∷ acc) in omega (arith, m))

decimal_few : (n : ℕ) → length (decimal n) ≤ 64
unfolding digits
decimal_few n = let m = digits_few 64 n [] in omega (arith, m)

-- ---- a row has at most 59 bytes
letter_long : (k : BlockName) → length (block_letter k) ≡ 1
letter_long trade = refl
letter_long failed = refl
letter_long held = refl
letter_long cash_only = refl

scenario_below : (scope : Scope) → scenario_of scope < 10
scenario_below (Trades AllTrades) = omega arith
scenario_below (Trades WithoutToday) = omega arith
scenario_below (Trades AfterNext) = omega arith
scenario_below FailedLines = omega arith
scenario_below HeldLines = omega arith
scenario_below CashOnlyLines = omega arith

signed_few : (z : ℤ) → Within 10000000000000000000000 z → length (signed_decimal z) ≤ 23
signed_few (pos n) h = let m = length-decimal-le_wide 22 n (omega arith) h (omega arith) in omega (arith, m)
signed_few (negsuc n) h = let m = length-decimal-le_wide 22 (suc n) (omega arith) h (omega arith) in omega (arith, m)

row_few : (r : Row) → ShortRow r → length (row_text r) ≤ 59
row_few r s =
    simp length-append (omega (
      arith,
      s.twelve,
      letter_long (block_of r.scope),
      length-decimal-le_wide 1 (scenario_of r.scope) (omega arith) (scenario_below r.scope) (omega (arith, scenario_below r.scope)),
      length-decimal-le_wide 17 r.initial_margin (omega arith) s.initial (omega (arith, s.initial)),
      signed_few r.variation_margin s.variation,
    ))

rows_few : (rs : List Row) → All ShortRow rs → length (rows_text rs) ≤ 59 * length rs
rows_few [] a = omega arith
rows_few (r ∷ rs) a = omega (arith, length-append (row_text r) (rows_text rs), row_few r a.0, rows_few rs a.1)

pub statement_few : (rs : List Row) (m k : ℕ) → All ShortRow rs → length (statement_text rs m k) ≤ 233 + 59 * length rs
statement_few rs m k a = simp length-append (omega (arith, rows_few rs a, decimal_few m, decimal_few k, decimal_few (length rs)))

pub statement_some : (rs : List Row) (m k : ℕ) → 1 ≤ length (statement_text rs m k)
statement_some rs m k = simp length-append (omega arith)
