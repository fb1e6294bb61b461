-- The quote of an ISIN, by what a market finds.
use Rattle.std.proofs.Common.{◌≡◌, ℕ, Bool, true, false, cond, eqb, List, [], ◌∷◌, is_some, Some, None, Ok, Err, Option, sym, refl, ap, ◌∙◌, ap₂, arith}
use Rattle.std.specs.Option.{option_map}
use Rattle.quantities.specs.declared.isin.Isin.{Isin}
use Rattle.quantities.specs.declared.range.MarginPercentage.{MarginPercentage}
use Rattle.quantities.specs.Dates.{residual_life}
use Rattle.quantities.specs.Tranches.{tranche}
use Rattle.register.specs.Keys.{has_rank, found_by}
use Rattle.market.specs.declared.price.Price.{Price}
use Rattle.market.specs.declared.percentage.Percentage.{Percentage}
use Rattle.market.specs.Records.{isin_rank, price_rank, percentage_rank}
use Rattle.market.specs.Contents.{percentage_for}
use Rattle.account.specs.Settings.{Setting, has_price, has_percentage, unit_price, maturity, tranche_of, millionths_or_zero, maturity_or_zero, basis_points_or_zero}
use Rattle.valuation.specs.Quotes.{quote_answer}

-- a rank is present where it is found
found : {X : Type 0} (f : X → ℕ) (k : ℕ) (xs : List X) → has_rank f k xs ≡ is_some (found_by f k xs)
found f k [] = refl
found {X} f k (x ∷ xs) = go (eqb (f x) k) (found f k xs)
  where
    go : (b : Bool) → has_rank f k xs ≡ is_some (found_by f k xs) → cond b true (has_rank f k xs) ≡ is_some (cond b (Some x) (found_by f k xs))
    go true e = refl
    go false e = e

abbrev price_for : Setting → Isin → Option Price
price_for s i = found_by price_rank (isin_rank i) s.prices

pub unpriced : (s : Setting) (i : Isin) → None ≡ price_for s i → Err 10 ≡ quote_answer s i
unpriced s i e =
    let h : has_price s i ≡ false = found price_rank (isin_rank i) s.prices ∙ ap is_some (sym e) in
    rw h refl

-- a percentage that was found, in basis points
abbrev points : Option Percentage → ℕ
points o = basis_points_or_zero o

some_percentage : (o : Option Percentage) (q : MarginPercentage) → Some q ≡ option_map (λ p. p.percentage) o → (is_some o ≡ true) × (points o ≡ q.basis_points)
some_percentage (Some p) q e = let d : p.percentage ≡ q = cc in (refl, ap (λ x. x.basis_points) d)
some_percentage None q e = let z : ◌≡◌ {A = ℕ} 0 1 = cc in absurd (omega arith)

no_percentage : (o : Option Percentage) → None ≡ option_map (λ p. p.percentage) o → is_some o ≡ false
no_percentage (Some p) e = let z : ◌≡◌ {A = ℕ} 0 1 = cc in absurd (omega arith)
no_percentage None e = refl

module _ (s : Setting) (i : Isin) (p : Price) (found_price : Some p ≡ price_for s i) (d life : ℕ) (is_today : d ≡ s.today) (lives : life ≡ residual_life d p.maturity) where
  priced : has_price s i ≡ true
  priced = found price_rank (isin_rank i) s.prices ∙ ap is_some (sym found_price)

  worth : unit_price s i ≡ p.price.millionths
  worth = ap millionths_or_zero (sym found_price)

  matures : maturity s i ≡ p.maturity
  matures = ap maturity_or_zero (sym found_price)

  looked_up : found_by percentage_rank (tranche_of s i) s.percentages ≡ found_by percentage_rank (tranche life) s.percentages
  looked_up = ap (λ m. found_by percentage_rank (tranche (residual_life s.today m)) s.percentages) matures ∙ ap (λ n. found_by percentage_rank (tranche n) s.percentages) (sym (lives ∙ ap (λ n. residual_life n p.maturity) is_today))

  ranked : has_percentage s i ≡ is_some (found_by percentage_rank (tranche life) s.percentages)
  ranked = found percentage_rank (tranche_of s i) s.percentages ∙ ap is_some looked_up

  pub unranked : None ≡ percentage_for life s.percentages → Err 11 ≡ quote_answer s i
  unranked e = rw (priced, ranked ∙ no_percentage (found_by percentage_rank (tranche life) s.percentages) e) refl

  pub quoted : (q : MarginPercentage) → Some q ≡ percentage_for life s.percentages → Ok (p.price.millionths, q.basis_points) ≡ quote_answer s i
  quoted q e =
      let h = some_percentage (found_by percentage_rank (tranche life) s.percentages) q e in
      rw (priced, ranked ∙ h.0) (ap₂ (λ x y. Ok (x, y)) (sym worth) (sym (ap points looked_up ∙ h.1)))
