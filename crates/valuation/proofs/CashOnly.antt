-- The row of cash-only lines: their cash is not discounted.
use Rattle.std.proofs.Common.{◌≡◌, ℕ, ◌+◌, ◌-◌, Bool, true, false, cond, List, [], ◌∷◌, pos, refl, ap, ◌∙◌, ap₂}
use Rattle.std.proofs.lemmas.Bool.{and_parts, cond-false}
use Rattle.quantities.specs.declared.isin.Isin.{Isin}
use Rattle.account.specs.declared.block.Block.{Block}
use Rattle.account.specs.declared.block.Block.TheVariants.{Trade, Failed, Held, CashOnly}
use Rattle.account.specs.declared.line.Line.{Line}
use Rattle.account.specs.declared.row.Row.{Row}
use Rattle.account.specs.declared.scope.Scope.TheVariants.{CashOnlyLines}
use Rattle.account.specs.Lines.{block_name, is_same_block, is_trade, if_bought, if_sold, is_in_block, keep, sum_of}
use Rattle.account.specs.declared.block_name.BlockName.TheVariants.{Trade as trade, CashOnly as cash_only}
use Rattle.account.specs.Settings.{Setting}
use Rattle.account.specs.Charges.{cash_rounded_up, cash_rounded_down, cash_charged, cash_credited}
use Rattle.account.specs.Rows.{cash_row}
use Rattle.valuation.specs.Scopes.{row_lines}
use Rattle.valuation.proofs.Scopes.{lines_cash}

no_trade : (b : Block) → is_same_block (block_name b) cash_only ≡ true → is_same_block (block_name b) trade ≡ false
no_trade (Trade d) e = cc
no_trade (Failed d) e = refl
no_trade (Held d) e = refl
no_trade (CashOnly d) e = refl

plain : (s : Setting) (i : Isin) (l : Line) → is_in_block i cash_only l ≡ true → (cash_rounded_up s l ≡ l.cash) × (cash_rounded_down s l ≡ l.cash)
plain s i l h = let e : is_trade l ≡ false = no_trade l.block (and_parts _ _ h).1 in (cond-false _ _ _ e, cond-false _ _ _ e)

same_sum : (f g : Line → ℕ) (p : Line → Bool) → ((l : Line) → p l ≡ true → f l ≡ g l) → (ls : List Line) → sum_of f (keep p ls) ≡ sum_of g (keep p ls)
same_sum f g p h [] = refl
same_sum f g p h (l ∷ ls) = go (p l) (h l) (same_sum f g p h ls)
  where
    go : (b : Bool) → (b ≡ true → f l ≡ g l) → sum_of f (keep p ls) ≡ sum_of g (keep p ls) → sum_of f (cond b (l ∷ keep p ls) (keep p ls)) ≡ sum_of g (cond b (l ∷ keep p ls) (keep p ls))
    go true e d = ap₂ ◌+◌ (e refl) d
    go false e d = d

module _ (s : Setting) (i : Isin) (ls : List Line) (n up down : ℕ) (is : n ≡ up - down) where
  abbrev made : Row
  made = record { isin = i; scope = CashOnlyLines; initial_margin = n; variation_margin = pos 0 }

  pub cash_row_is : up ≡ cash_charged s (row_lines s i CashOnlyLines ls) → down ≡ cash_credited s (row_lines s i CashOnlyLines ls) → made ≡ cash_row i (keep (is_in_block i cash_only) ls)
  cash_row_is eu ed =
      ap (λ m. record { isin = i; scope = CashOnlyLines; initial_margin = m; variation_margin = pos 0 })
      (is ∙ ap₂ ◌-◌ eu ed ∙ ap (λ ms. cash_charged s ms - cash_credited s ms) (lines_cash s i ls)
      ∙ ap₂ ◌-◌ (same_sum (λ l. if_bought l.side (cash_rounded_up s l)) (λ l. if_bought l.side l.cash) (is_in_block i cash_only) (λ l h. ap (if_bought l.side) (plain s i l h).0) ls)
      (same_sum (λ l. if_sold l.side (cash_rounded_down s l)) (λ l. if_sold l.side l.cash) (is_in_block i cash_only) (λ l h. ap (if_sold l.side) (plain s i l h).1) ls))
