-- The worst of three scenarios, and that it stays within the bounds of each.
use Rattle.std.proofs.Common.{◌≡◌, ℕ, ◌≤◌, List, ap, ◌∙◌, ap₂, arith}
use lib.Signed.{lt_z}
use Rattle.std.proofs.lemmas.Int.{ints}
use Rattle.std.proofs.lemmas.Bool.{cond_both}
use Rattle.quantities.specs.declared.isin.Isin.{Isin}
use Rattle.account.specs.declared.line.Line.{Line}
use Rattle.account.specs.declared.row.Row.{Row}
use Rattle.account.specs.declared.scenario.Scenario.TheVariants.{AllTrades, WithoutToday, AfterNext}
use Rattle.account.specs.declared.scope.Scope.TheVariants.{Trades}
use Rattle.account.specs.Lines.{is_in_block, keep}
use Rattle.account.specs.declared.block_name.BlockName.TheVariants.{Trade as trade}
use Rattle.account.specs.Settings.{Setting}
use Rattle.account.specs.Rows.{charge, row, worse, worst}
use Rattle.valuation.specs.RowCharges.{RowWithin}
use Rattle.valuation.specs.Scopes.{row_lines}
use Rattle.valuation.proofs.Scopes.{lines_split, lines_all}

pub within_more : {m n : ℕ} {r : Row} → m ≤ n → RowWithin m r → RowWithin n r
within_more {m} {n} h w =
    let l = w.low in
    let u = w.high in
    record { initial = omega (arith, w.initial); low = omega (arith, ints); high = omega (arith, ints) }

pub worse_within : {n : ℕ} {a b r : Row} → r ≡ worse a b → RowWithin n a → RowWithin n b → RowWithin n r
worse_within {n} {a} {b} e p q = rw e (cond_both (lt_z (charge a) (charge b)) b a (RowWithin n) (λ t. q) (λ t. p))

pub worst_is : (s : Setting) (i : Isin) (ls : List Line) {a b c w r : Row} →
    a ≡ row s s.charged i (Trades AllTrades) (row_lines s i (Trades AllTrades) ls) →
    b ≡ row s s.charged i (Trades WithoutToday) (row_lines s i (Trades WithoutToday) ls) →
    c ≡ row s s.charged i (Trades AfterNext) (row_lines s i (Trades AfterNext) ls) →
    w ≡ worse a b → r ≡ worse w c → r ≡ worst s i (keep (is_in_block i trade) ls)
worst_is s i ls ea eb ec ew er =
    er
    ∙ ap₂ worse
    (ew
    ∙ ap₂ worse (ea ∙ ap (row s s.charged i (Trades AllTrades)) (lines_all s i ls)) (eb ∙ ap (row s s.charged i (Trades WithoutToday)) (lines_split s i (Trades WithoutToday) ls)))
    (ec ∙ ap (row s s.charged i (Trades AfterNext)) (lines_split s i (Trades AfterNext) ls))
