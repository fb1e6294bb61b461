-- Each kind's rows have one spelling.
use Rattle.std.proofs.Common.{◌≡◌, true, refl, sym, ap, ◌∙◌}
use Rattle.std.specs.Prelude.{unwrap_or}
use Rattle.std.proofs.lemmas.Bool.{and_parts, and_from, le-leb}
use Rattle.quantities.specs.declared.tranche.Tranche.TheVariants.{UpToOneYear}
use Rattle.quantities.specs.Isins.{is_isin}
use Rattle.account.specs.Lines.{date}
use Rattle.account.specs.declared.side.Side.TheVariants.{Bought}
use Rattle.rows.specs.declared.mode.Mode.TheVariants.{Net}
use Rattle.rows.specs.declared.curve_shape.CurveShape.TheVariants.{Step}
use Rattle.account.specs.declared.block_name.BlockName.TheVariants.{CashOnly as cash_only}
use Rattle.rows.specs.Forms.{cells_of, no_isin, date_in}
use Rattle.rows.specs.Percentages.{no_margin_percentage}
use Rattle.rows.specs.Points.{no_rate, no_point, point_spelling}
use Rattle.rows.specs.Prices.{no_unit_price, no_price, price_spelling, price_in_range}
use Rattle.rows.specs.Positions.{block_in}
use Rattle.rows.specs.Laws.{DaysLaw, PercentagesLaw, PointsLaw, PricesLaw, PositionsLaw}
use Rattle.rows.proofs.Conditions.{if_passed-true}
use Rattle.rows.proofs.Records.{price_back, point_back}
use Rattle.rows.proofs.CellSpellings.{spelling-unwrap_or, unwrap_or-spelling}
use Rattle.rows.proofs.PartSpellings.{dates, modes, curves, tranches, percents, terms, rates, isins, unit_prices, references, sides, cash, block_fitted, block_made, date_of_block, titles_fitted, titles_made}

pub days_law : DaysLaw
days_law =
    record {
      named = λ row. refl;
      read = λ cell h.
          let a = and_parts _ _ h in
          let b = and_parts _ _ a.1 in
          let c = and_parts _ _ b.1 in
          let d = and_parts _ _ c.1 in
          let today = spelling-unwrap_or dates (cell 0) 0 a.0 in
          let next = spelling-unwrap_or dates (cell 1) 0 b.0 in
          let mode = spelling-unwrap_or modes (cell 2) Net c.0 in
          let curve = spelling-unwrap_or curves (cell 3) Step d.0 in
          (rw (today.0, next.0, mode.0, curve.0), and_from _ _ today.1 next.1);
      spelled = λ row h.
          let a = and_parts _ _ h in
          let today = unwrap_or-spelling dates row.today 0 a.0 in
          let next = unwrap_or-spelling dates row.next 0 a.1 in
          let mode = unwrap_or-spelling modes row.mode Net refl in
          let curve = unwrap_or-spelling curves row.curve Step refl in
          (and_from _ _ today.0 (and_from _ _ next.0 (and_from _ _ mode.0 (and_from _ _ curve.0 refl))), rw (today.1, next.1, mode.1, curve.1));
    }

pub percentages_law : PercentagesLaw
percentages_law =
    record {
      named = λ row. refl;
      read = λ cell h.
          let a = and_parts _ _ h in
          let b = and_parts _ _ a.1 in
          let tranche = spelling-unwrap_or tranches (cell 0) UpToOneYear a.0 in
          let percentage = spelling-unwrap_or percents (cell 1) no_margin_percentage b.0 in
          (rw (tranche.0, percentage.0), refl);
      spelled = λ row h.
          let tranche = unwrap_or-spelling tranches row.tranche UpToOneYear refl in
          let percentage = unwrap_or-spelling percents row.percentage no_margin_percentage refl in
          (and_from _ _ tranche.0 (and_from _ _ percentage.0 refl), rw (tranche.1, percentage.1));
    }

pub points_law : PointsLaw
points_law =
    record {
      named = λ row. refl;
      read = λ cell h.
          let a = and_parts _ _ h in
          let b = and_parts _ _ a.1 in
          let term = spelling-unwrap_or terms (cell 0) 0 a.0 in
          let rate = spelling-unwrap_or rates (cell 1) no_rate b.0 in
          (ap (λ o. cells_of (point_spelling (unwrap_or o no_point))) (if_passed-true _ _ term.1) ∙ rw (term.0, rate.0) refl, refl);
      spelled = λ row h.
          let term = unwrap_or-spelling terms row.term 0 (le-leb _ _ row.within) in
          let rate = unwrap_or-spelling rates row.rate no_rate refl in
          (and_from _ _ term.0 (and_from _ _ rate.0 refl), rw (term.1, rate.1) (point_back row));
    }

pub prices_law : PricesLaw
prices_law =
    record {
      named = λ row. refl;
      read = λ cell h.
          let a = and_parts _ _ h in
          let b = and_parts _ _ a.1 in
          let c = and_parts _ _ b.1 in
          let isin = spelling-unwrap_or isins (cell 0) no_isin a.0 in
          let valid : is_isin (cell 0) ≡ true = ap is_isin (sym isin.0) ∙ isin.1 in
          let price = spelling-unwrap_or unit_prices (cell 1) no_unit_price b.0 in
          let maturity = spelling-unwrap_or dates (cell 2) 0 c.0 in
          let made_of = if_passed-true (is_isin (cell 0)) _ valid in
          (ap (λ o. cells_of (price_spelling (unwrap_or o no_price))) made_of ∙ rw (price.0, maturity.0) refl, ap (λ o. price_in_range (unwrap_or o no_price)) made_of ∙ maturity.1);
      spelled = λ row h.
          let isin = unwrap_or-spelling isins row.isin no_isin row.valid in
          let price = unwrap_or-spelling unit_prices row.price no_unit_price refl in
          let maturity = unwrap_or-spelling dates row.maturity 0 h in
          (and_from _ _ isin.0 (and_from _ _ price.0 (and_from _ _ maturity.0 refl)), rw (price.1, maturity.1) (price_back row));
    }

pub positions_law : PositionsLaw
positions_law =
    record {
      named = λ row. refl;
      read = λ cell h.
          let a = and_parts _ _ h in
          let b = and_parts _ _ a.1 in
          let c = and_parts _ _ b.1 in
          let d = and_parts _ _ c.1 in
          let e = and_parts _ _ d.1 in
          let f = and_parts _ _ e.1 in
          let g = and_parts _ _ f.1 in
          let reference = spelling-unwrap_or references (cell 0) 0 a.0 in
          let isin = spelling-unwrap_or isins (cell 1) no_isin b.0 in
          let side = spelling-unwrap_or sides (cell 2) Bought c.0 in
          let day = spelling-unwrap_or dates (cell 6) 0 g.0 in
          let block = block_fitted (cell 3) (unwrap_or (date_in (cell 6)) 0) d.0 in
          let dated = date_of_block (unwrap_or (block_in (cell 3)) cash_only) (unwrap_or (date_in (cell 6)) 0) in
          let titles = titles_fitted (block_in (cell 3)) (cell 4) (unwrap_or (date_in (cell 6)) 0) d.0 e.0 in
          let amount = spelling-unwrap_or cash (cell 5) 0 f.0 in (
            rw (reference.0, isin.0, side.0, block, titles.0, amount.0, dated, day.0),
            and_from _ _ (and_from _ _ reference.1 (and_from _ _ isin.1 (and_from _ _ titles.1 amount.1))) (rw dated day.1),
          );
      spelled = λ line h.
          let a = and_parts _ _ h in
          let b = and_parts _ _ a.0 in
          let c = and_parts _ _ b.1 in
          let d = and_parts _ _ c.1 in
          let reference = unwrap_or-spelling references line.reference 0 b.0 in
          let isin = unwrap_or-spelling isins line.isin no_isin c.0 in
          let side = unwrap_or-spelling sides line.side Bought refl in
          let block = block_made line.block in
          let titles = titles_made line.block line.titles d.0 in
          let amount = unwrap_or-spelling cash line.cash 0 d.1 in
          let day = unwrap_or-spelling dates (date line.block) 0 a.1 in (
            and_from _ _ reference.0 (and_from _ _ isin.0 (and_from _ _ side.0 (and_from _ _ block.0 (and_from _ _ titles.0 (and_from _ _ amount.0 (and_from _ _ day.0 refl)))))),
            rw (reference.1, isin.1, side.1, titles.1, amount.1, day.1, block.1),
          );
    }
