-- The margin percentages: one for each tranche.
use Rattle.std.specs.Prelude.{ℕ, Bool, true, [], ◌∷◌, Option, Some, None, is_some, unwrap_or, codes, ◌==◌, if◌then◌else◌, nat_le, option_and_then}
use Rattle.std.specs.Bool.{passes}
use Rattle.std.specs.Fmt.{decimal}
use lib.Dec.{leb→le}
use Rattle.text.specs.Cells.{Cell}
use Rattle.text.specs.Numbers.{number}
use Rattle.quantities.specs.declared.range.MarginPercentage.{MarginPercentage}
use Rattle.quantities.specs.declared.tranche.Tranche.{Tranche}
use Rattle.quantities.specs.declared.tranche.Tranche.TheVariants.{UpToOneYear, UpToThreeYears, UpToFiveYears, UpToTenYears, UpToTwentyYears, OverTwentyYears}
use Rattle.quantities.specs.Ranges.{highest_percentage}
use Rattle.quantities.specs.Tranches.{tranche_number}
use Rattle.sheet.specs.Kinds.{SheetKind}
use Rattle.market.specs.declared.percentage.Percentage.{Percentage}
use Rattle.rows.specs.Forms.{Spelling, if_passed}

-- the tranche of a number
abbrev pub tranche_of_number : ℕ → Option Tranche
tranche_of_number n =
    if n == 1 then Some UpToOneYear
    else (if n == 2 then Some UpToThreeYears
    else (if n == 3 then Some UpToFiveYears
    else (if n == 4 then Some UpToTenYears
    else (if n == 5 then Some UpToTwentyYears
    else (if n == 6 then Some OverTwentyYears else None)))))

-- the six tranches
unfoldable pub tranche_in : Cell → Option Tranche
tranche_in cell = option_and_then tranche_of_number (number cell)

-- a number as a margin percentage, in its range
abbrev pub percentage_of_number : ℕ → Option MarginPercentage
percentage_of_number n =
    if_passed (nat_le n highest_percentage)
    (λ high. record { basis_points = n; within = leb→le _ _ (passes _ high) })

unfoldable pub percentage_in : Cell → Option MarginPercentage
percentage_in cell = option_and_then percentage_of_number (number cell)

-- in the place of a percentage where a cell holds none
abbrev pub no_margin_percentage : MarginPercentage
no_margin_percentage = record { basis_points = 0; within = leb→le _ _ tt }

abbrev pub percentages : SheetKind Percentage
percentages =
    record {
      mark = codes "PAR";
      needed = codes "TRANCHE" ∷ (codes "PCT" ∷ []);
      fits = λ cell. is_some (tranche_in (cell 0)) ∷ (is_some (percentage_in (cell 1)) ∷ []);
      row = λ cell.
          record {
            tranche = unwrap_or (tranche_in (cell 0)) UpToOneYear;
            percentage = unwrap_or (percentage_in (cell 1)) no_margin_percentage;
          };
    }

-- the parts of a percentage are in their ranges by its type
abbrev pub percentage_in_range : Percentage → Bool
percentage_in_range percentage = true

-- how a percentage is spelled
abbrev pub percentage_spelling : Percentage → Spelling
percentage_spelling percentage =
    (codes "TRANCHE", decimal (tranche_number percentage.tranche))
    ∷ ((codes "PCT", decimal percentage.percentage.basis_points) ∷ [])
