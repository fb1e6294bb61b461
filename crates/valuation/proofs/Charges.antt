-- A row as it is worked: by its titles, its cash and the quote of its ISIN.
use Rattle.std.proofs.Common.{◌≡◌, ℕ, ◌*◌, ◌≤◌, Bool, true, false, cond, not, List, ℤ, pos, negsuc, ◌+ℤ◌, ◌-ℤ◌, ◌≤ℤ◌, Ok, Err, Result, ap, ◌∙◌, ap₂, arith, w64, to_z, of_z}
use Rattle.std.proofs.lemmas.Int.{ints}
use Rattle.quantities.specs.declared.isin.Isin.{Isin}
use Rattle.quantities.specs.Amounts.{initial_margin, market_value}
use Rattle.account.specs.declared.line.Line.{Line}
use Rattle.account.specs.declared.scope.Scope.{Scope}
use Rattle.account.specs.declared.row.Row.{Row}
use Rattle.account.specs.Settings.{Setting, has_price, has_percentage, unit_price, percentage_of}
use Rattle.account.specs.Charges.{titles_bought, titles_sold, cash_charged, cash_credited}
use Rattle.account.specs.Rows.{row}
use Rattle.valuation.specs.declared.quote.Quote.{Quote}
use Rattle.valuation.specs.RowCharges.{RowWithin}
use Rattle.valuation.specs.Quotes.{quote_parts, quote_answer}

-- a quote that is answered is the price and the percentage
quote_is : (s : Setting) (i : Isin) (q : Quote) → Ok (quote_parts q) ≡ quote_answer s i → (q.price.millionths ≡ unit_price s i) × (q.percentage.basis_points ≡ percentage_of s i)
quote_is s i q e = go (has_price s i) (has_percentage s i) (quote_parts q) (unit_price s i, percentage_of s i) e
  where
    go : (p r : Bool) (x y : ℕ × ℕ) → ◌≡◌ {A = Result (ℕ × ℕ) ℕ} (Ok x) (cond (not p) (Err 10) (cond (not r) (Err 11) (Ok y))) → (x.0 ≡ y.0) × (x.1 ≡ y.1)
    go true true x y e = let d : x ≡ y = cc in (ap (λ z. z.0) d, ap (λ z. z.1) d)
    go true false x y e = let z : ◌≡◌ {A = ℕ} 0 1 = cc in absurd (omega arith)
    go false r x y e = let z : ◌≡◌ {A = ℕ} 0 1 = cc in absurd (omega arith)

-- the variation margin, as it is worked
pub variation_is : (v : ℤ) (u d : ℕ) → negsuc 399999999999 ≤ℤ v → v ≤ℤ pos 400000000000 → u ≤ 131070000000000000 → d ≤ 131070000000000000 →
    to_z w64 (of_z w64 (to_z w64 (of_z w64 (to_z w64 (of_z w64 v) -ℤ to_z w64 u)) +ℤ to_z w64 d)) ≡ (v -ℤ pos u) +ℤ pos d
variation_is v u d a b e f = omega (arith, ints)

module _ (i : Isin) (scope : Scope) (q : Quote) (im up down : ℕ) (v z : ℤ) (vm : z ≡ (v -ℤ pos up) +ℤ pos down) where
  abbrev made : Row
  made = record { isin = i; scope = scope; initial_margin = im; variation_margin = z }

  pub row_is : (s : Setting) (rule : ℕ → ℕ → ℕ) (ls : List Line) (n b d : ℕ) → Ok (quote_parts q) ≡ quote_answer s i → n ≡ rule b d → b ≡ titles_bought ls → d ≡ titles_sold ls → up ≡ cash_charged s ls → down ≡ cash_credited s ls →
      im ≡ initial_margin n q.price.millionths q.percentage.basis_points → v ≡ market_value q.price.millionths b d → made ≡ row s rule i scope ls
  row_is s rule ls n b d eq en eb ed eu ec ei ev =
      let p = quote_is s i q eq in
      ap₂ (λ m y. record { isin = i; scope = scope; initial_margin = m; variation_margin = y })
      (ei ∙ ap₂ (initial_margin n) p.0 p.1 ∙ ap (λ m. initial_margin m (unit_price s i) (percentage_of s i)) (en ∙ ap₂ rule eb ed))
      (vm ∙ ap (λ x. (x -ℤ pos up) +ℤ pos down) (ev ∙ ap (λ x. market_value x b d) p.0 ∙ ap₂ (market_value (unit_price s i)) eb ed)
      ∙ ap₂ (λ x y. (market_value (unit_price s i) (titles_bought ls) (titles_sold ls) -ℤ pos x) +ℤ pos y) eu ec)

  pub row_within : (m n : ℕ) → im ≤ 400000000000 → negsuc 399999999999 ≤ℤ v → v ≤ℤ pos 400000000000 → up ≤ 2000000000000 * m → down ≤ 2000000000000 * m → m ≤ n → 1 ≤ n → RowWithin n made
  row_within m n hi low high hu hd few some = record { initial = omega arith; low = omega (arith, ints); high = omega (arith, ints) }
