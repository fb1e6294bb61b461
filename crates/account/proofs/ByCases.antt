-- What goes by cases, as one elimination each.
use Rattle.std.proofs.Common.{◌≡◌, true, false, Some, None, Option, refl}
use Rattle.quantities.specs.declared.isin.Isin.{Isin}
use Rattle.register.specs.Keys.{found_by}
use Rattle.market.specs.declared.price.Price.{Price}
use Rattle.market.specs.declared.percentage.Percentage.{Percentage}
use Rattle.market.specs.Records.{isin_rank, price_rank, percentage_rank}
use Rattle.account.specs.declared.line.Line.{Line}
use Rattle.account.specs.declared.side.Side.{Side}
use Rattle.account.specs.declared.side.Side.TheVariants.{Bought, Sold}
use Rattle.account.specs.Lines.{is_same_block, same_side}
use Rattle.account.specs.declared.block_name.BlockName.{BlockName}
use Rattle.account.specs.declared.block_name.BlockName.TheVariants.{Trade as trade, Failed as failed, Held as held, CashOnly as cash_only}
use Rattle.account.specs.Settings.{Setting, millionths_or_zero, maturity_or_zero, unit_price, maturity, tranche_of, basis_points_or_zero, percentage_of}
use Rattle.account.specs.Exact.{Fraction, opposite, payment, exact_cash, exact_payment}

unit_price-by-case : (s : Setting) (i : Isin) → unit_price s i ≡ elim (found_by price_rank (isin_rank i) s.prices) [ Some p ↦ p.price.millionths | None ↦ 0 ]
unit_price-by-case s i = go (found_by price_rank (isin_rank i) s.prices)
  where
    go : (o : Option Price) → millionths_or_zero o ≡ elim o [ Some p ↦ p.price.millionths | None ↦ 0 ]
    go (Some p) = refl
    go None = refl

maturity-by-case : (s : Setting) (i : Isin) → maturity s i ≡ elim (found_by price_rank (isin_rank i) s.prices) [ Some p ↦ p.maturity | None ↦ 0 ]
maturity-by-case s i = go (found_by price_rank (isin_rank i) s.prices)
  where
    go : (o : Option Price) → maturity_or_zero o ≡ elim o [ Some p ↦ p.maturity | None ↦ 0 ]
    go (Some p) = refl
    go None = refl

percentage_of-by-case : (s : Setting) (i : Isin) → percentage_of s i ≡ elim (found_by percentage_rank (tranche_of s i) s.percentages) [ Some p ↦ p.percentage.basis_points | None ↦ 0 ]
percentage_of-by-case s i = go (found_by percentage_rank (tranche_of s i) s.percentages)
  where
    go : (o : Option Percentage) → basis_points_or_zero o ≡ elim o [ Some p ↦ p.percentage.basis_points | None ↦ 0 ]
    go (Some p) = refl
    go None = refl

exact_payment-by-case : (s : Setting) (l : Line) → exact_payment s l ≡ elim l.side [ Bought ↦ exact_cash s l | Sold ↦ opposite (exact_cash s l) ]
exact_payment-by-case s l = go l.side (exact_cash s l)
  where
    go : (side : Side) (a : Fraction) → payment side a ≡ elim side [ Bought ↦ a | Sold ↦ opposite a ]
    go Bought a = refl
    go Sold a = refl

same_side-by-case : (s t : Side) → same_side s t ≡ elim s [ Bought ↦ elim t [ Bought ↦ true | Sold ↦ false ] | Sold ↦ elim t [ Bought ↦ false | Sold ↦ true ] ]
same_side-by-case Bought Bought = refl
same_side-by-case Bought Sold = refl
same_side-by-case Sold Bought = refl
same_side-by-case Sold Sold = refl

is_same_block-by-case : (j k : BlockName) →
    is_same_block j k ≡ elim j [
      | trade ↦ elim k [ trade ↦ true | failed ↦ false | held ↦ false | cash_only ↦ false ]
      | failed ↦ elim k [ trade ↦ false | failed ↦ true | held ↦ false | cash_only ↦ false ]
      | held ↦ elim k [ trade ↦ false | failed ↦ false | held ↦ true | cash_only ↦ false ]
      | cash_only ↦ elim k [ trade ↦ false | failed ↦ false | held ↦ false | cash_only ↦ true ]
    ]
is_same_block-by-case trade k = elim k [ trade ↦ refl | failed ↦ refl | held ↦ refl | cash_only ↦ refl ]
is_same_block-by-case failed k = elim k [ trade ↦ refl | failed ↦ refl | held ↦ refl | cash_only ↦ refl ]
is_same_block-by-case held k = elim k [ trade ↦ refl | failed ↦ refl | held ↦ refl | cash_only ↦ refl ]
is_same_block-by-case cash_only k = elim k [ trade ↦ refl | failed ↦ refl | held ↦ refl | cash_only ↦ refl ]
