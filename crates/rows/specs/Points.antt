-- The points of the curve: a rate at each term.
use Rattle.std.specs.Prelude.{ℕ, Bool, true, ℤ, pos, [], ◌∷◌, Option, is_some, unwrap_or, codes, nat_le, int_le, option_and_then}
use Rattle.std.specs.Bool.{passes}
use Rattle.std.specs.Fmt.{decimal, signed_decimal}
use Rattle.std.specs.Int.Signed.{le_z_yes}
use lib.Dec.{leb→le}
use Rattle.text.specs.Cells.{Cell}
use Rattle.text.specs.Numbers.{number_in, signed_number}
use Rattle.quantities.specs.declared.range.Rate.{Rate}
use Rattle.quantities.specs.Ranges.{lowest_rate, highest_rate, longest_curve_term}
use Rattle.sheet.specs.Kinds.{SheetKind}
use Rattle.curve.specs.declared.point.Point.{Point}
use Rattle.rows.specs.Forms.{Spelling, if_passed, if_both}

unfoldable pub term_in : Cell → Option ℕ
term_in cell = number_in 0 longest_curve_term cell

-- a number as a rate, in its range
abbrev pub rate_of_number : ℤ → Option Rate
rate_of_number z =
    if_both (int_le lowest_rate z) (int_le z highest_rate)
    (λ low high.
    record {
      basis_points = z;
      above = le_z_yes (passes _ low);
      within = le_z_yes (passes _ high);
    })

unfoldable pub rate_in : Cell → Option Rate
rate_in cell = option_and_then rate_of_number (signed_number cell)

-- the point of a term, in its range, and a rate
abbrev pub term_point : ℕ → Rate → Option Point
term_point term rate =
    if_passed (nat_le term longest_curve_term)
    (λ short. record { term = term; rate = rate; within = leb→le _ _ (passes _ short) })

-- in the place of a rate where a cell holds none
abbrev pub no_rate : Rate
no_rate = record { basis_points = pos 0; above = le_z_yes tt; within = le_z_yes tt }

-- in the place of a point where a cell does not fit
abbrev pub no_point : Point
no_point = record { term = 0; rate = no_rate; within = leb→le _ _ tt }

abbrev pub points : SheetKind Point
points =
    record {
      mark = codes "CRV";
      needed = codes "TERM" ∷ (codes "RATE" ∷ []);
      fits = λ cell. is_some (term_in (cell 0)) ∷ (is_some (rate_in (cell 1)) ∷ []);
      row = λ cell.
          let term = unwrap_or (term_in (cell 0)) 0 in
          let rate = unwrap_or (rate_in (cell 1)) no_rate in
          unwrap_or (term_point term rate) no_point;
    }

-- the parts of a point are in their ranges by its type
abbrev pub point_in_range : Point → Bool
point_in_range point = true

-- how a point is spelled
abbrev pub point_spelling : Point → Spelling
point_spelling point =
    (codes "TERM", decimal point.term)
    ∷ ((codes "RATE", signed_decimal point.rate.basis_points) ∷ [])
