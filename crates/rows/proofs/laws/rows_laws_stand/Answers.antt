use Rattle.rows.proofs.Rows.{days_law, percentages_law, points_law, prices_law, positions_law}
use Rattle.rows.proofs.Columns.{day_columns, percentage_columns, point_columns, price_columns, position_columns}
use Rattle.rows.proofs.laws.rows_laws_stand.Goals as goal

pub returns : goal.returns
returns c =
    record {
      days_law = days_law;
      percentages_law = percentages_law;
      points_law = points_law;
      prices_law = prices_law;
      positions_law = positions_law;
      day_columns = day_columns;
      percentage_columns = percentage_columns;
      point_columns = point_columns;
      price_columns = price_columns;
      position_columns = position_columns;
    }
