-- The records that cells make.
use Rattle.std.proofs.Common.{◌≡◌, ℕ, cond, Some, None, refl, sym, ap, ◌∙◌}
use Rattle.std.specs.Prelude.{unwrap_or}
use Rattle.std.specs.List.{list_all}
use Rattle.std.proofs.lemmas.Bool.{le-leb}
use Rattle.std.proofs.lemmas.Option.{cond_some}
use Rattle.text.specs.Cells.{Cell}
use Rattle.quantities.specs.declared.isin.Isin.{Isin}
use Rattle.quantities.specs.Isins.{is_isin}
use Rattle.market.specs.declared.price.Price.{Price}
use Rattle.market.proofs.Parts.{price_of_parts}
use Rattle.curve.specs.declared.point.Point.{Point}
use Rattle.curve.proofs.Parts.{point_of_parts}
use Rattle.rows.specs.Forms.{date_in, isin_in}
use Rattle.rows.specs.Points.{term_in, rate_in, term_point, no_point, points}
use Rattle.rows.specs.Prices.{price_in, isin_price, no_price, prices}
use Rattle.rows.proofs.Conditions.{if_passed-true}

isin_bytes : (cell : Cell) (i : Isin) → isin_in cell ≡ Some i → cell ≡ i.bytes
unfolding isin_in
isin_bytes cell i e = ap (λ (j : Isin). j.bytes) (cond_some (is_isin cell) (record { bytes = cell }) i e).1

-- ---- records made of their parts
pub price_back : (p : Price) → unwrap_or (isin_price p.isin.bytes p.price p.maturity) no_price ≡ p
price_back p = ap (λ o. unwrap_or o no_price) (if_passed-true _ _ p.valid) ∙ price_of_parts _ p refl

pub point_back : (p : Point) → unwrap_or (term_point p.term p.rate) no_point ≡ p
point_back p = ap (λ o. unwrap_or o no_point) (if_passed-true _ _ (le-leb _ _ p.within)) ∙ point_of_parts _ p refl

-- what is read of cells that fit
pub price_is : (cell : ℕ → Cell) (p : Price) → isin_in (cell 0) ≡ Some p.isin → price_in (cell 1) ≡ Some p.price → date_in (cell 2) ≡ Some p.maturity →
    Some p ≡ cond (list_all (λ fits. fits) (prices.fits cell)) (Some (prices.row cell)) None
price_is cell p i u d =
    let bytes : cell 0 ≡ p.isin.bytes = isin_bytes (cell 0) p.isin i in
    rw (i, u, d, bytes) (ap Some (sym (price_back p)))

pub point_is : (cell : ℕ → Cell) (p : Point) → term_in (cell 0) ≡ Some p.term → rate_in (cell 1) ≡ Some p.rate →
    Some p ≡ cond (list_all (λ fits. fits) (points.fits cell)) (Some (points.row cell)) None
point_is cell p t r = rw (t, r) (ap Some (sym (point_back p)))
