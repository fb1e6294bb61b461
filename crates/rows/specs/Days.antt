-- The day: today, the next business day, the netting rule of the account and the form of the curve.
use Rattle.std.specs.Prelude.{Bool, ◌&&◌, [], ◌∷◌, Option, Some, None, is_some, unwrap_or, codes, if◌then◌else◌}
use Rattle.std.specs.Fmt.{decimal}
use Rattle.std.specs.Str.{bytes_eq}
use Rattle.text.specs.Cells.{Cell}
use Rattle.sheet.specs.Kinds.{SheetKind}
use Rattle.rows.specs.declared.mode.Mode.{Mode}
use Rattle.rows.specs.declared.mode.Mode.TheVariants.{Net, Gross}
use Rattle.rows.specs.declared.curve_shape.CurveShape.{CurveShape}
use Rattle.rows.specs.declared.curve_shape.CurveShape.TheVariants.{Step, Sloping}
use Rattle.rows.specs.declared.day.DayRow.{DayRow}
use Rattle.rows.specs.Forms.{Spelling, date_in, is_date}

-- N is net, and G gross
unfoldable pub mode_in : Cell → Option Mode
mode_in cell =
    if bytes_eq cell (codes "N") then Some Net
    else (if bytes_eq cell (codes "G") then Some Gross else None)

-- S is the step curve, and L the sloping one
unfoldable pub curve_in : Cell → Option CurveShape
curve_in cell =
    if bytes_eq cell (codes "S") then Some Step
    else (if bytes_eq cell (codes "L") then Some Sloping else None)

abbrev pub days : SheetKind DayRow
days =
    record {
      mark = codes "DAY";
      needed = codes "TODAY" ∷ (codes "NEXT" ∷ (codes "MODE" ∷ (codes "CURVE" ∷ [])));
      fits = λ cell.
          is_some (date_in (cell 0))
          ∷ (is_some (date_in (cell 1))
          ∷ (is_some (mode_in (cell 2))
          ∷ (is_some (curve_in (cell 3)) ∷ [])));
      row = λ cell.
          record {
            today = unwrap_or (date_in (cell 0)) 0;
            next = unwrap_or (date_in (cell 1)) 0;
            mode = unwrap_or (mode_in (cell 2)) Net;
            curve = unwrap_or (curve_in (cell 3)) Step;
          };
    }

abbrev pub day_in_range : DayRow → Bool
day_in_range row = is_date row.today && is_date row.next

abbrev pub mode_cell : Mode → Cell
mode_cell Net = codes "N"
mode_cell Gross = codes "G"

abbrev pub curve_cell : CurveShape → Cell
curve_cell Step = codes "S"
curve_cell Sloping = codes "L"

-- how a day is spelled
abbrev pub day_spelling : DayRow → Spelling
day_spelling row =
    (codes "TODAY", decimal row.today)
    ∷ ((codes "NEXT", decimal row.next)
    ∷ ((codes "MODE", mode_cell row.mode)
    ∷ ((codes "CURVE", curve_cell row.curve) ∷ [])))
