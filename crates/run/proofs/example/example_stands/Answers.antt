-- The example is computed, so the words of cells are opened here.
use Rattle.std.proofs.Common.{refl}
use Rattle.std.specs.Fmt.{digits}
use Rattle.rows.specs.Forms.{date_in, isin_in}
use Rattle.rows.specs.Days.{mode_in, curve_in}
use Rattle.rows.specs.Percentages.{tranche_in, percentage_in}
use Rattle.rows.specs.Points.{term_in, rate_in}
use Rattle.rows.specs.Prices.{price_in}
use Rattle.rows.specs.Positions.{reference_in, side_in, block_in, titles_in, cash_in}
use Rattle.run.proofs.example.example_stands.Goals as goal

pub returns : goal.returns
unfolding digits date_in isin_in mode_in curve_in tranche_in percentage_in term_in rate_in price_in reference_in side_in block_in titles_in cash_in
returns c = record { net_run = refl; gross_run = refl; unpriced = refl; step_run = refl; sloping_run = refl; short_buffer = refl }
