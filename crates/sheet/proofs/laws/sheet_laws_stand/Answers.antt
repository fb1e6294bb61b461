use Rattle.std.proofs.Common.{◌∙◌}
use Rattle.sheet.proofs.Causes.{causes_stand}
use Rattle.sheet.proofs.Names.{each_name_stands, read_by_name}
use Rattle.sheet.proofs.Numbering.{lines_counted, lines_reported}
use Rattle.sheet.proofs.Readings.{same_readings}
use Rattle.sheet.proofs.Written.{read_as_written}
use Rattle.sheet.proofs.Rows.{opened_has_names, accepted_rows, leftmost_reported}
use Rattle.sheet.proofs.laws.sheet_laws_stand.Goals as goal

pub returns-clause-each_name_stands : goal.returns-clause-each_name_stands
returns-clause-each_name_stands g c = each_name_stands

pub returns-clause-read_by_name : goal.returns-clause-read_by_name
returns-clause-read_by_name g c = read_by_name

pub returns-clause-opened_has_names : goal.returns-clause-opened_has_names
returns-clause-opened_has_names g c = opened_has_names g.K.RowKind.kind

pub returns-clause-accepted_rows : goal.returns-clause-accepted_rows
returns-clause-accepted_rows g c =
    accepted_rows g.K.RowKind.kind (λ cell. g.met.K.RowKind.judged cell ∙ g.met.K.RowKind.counted)

pub returns-clause-leftmost_reported : goal.returns-clause-leftmost_reported
returns-clause-leftmost_reported g c =
    leftmost_reported g.K.RowKind.kind (λ cell. g.met.K.RowKind.judged cell ∙ g.met.K.RowKind.counted)

pub returns-clause-lines_counted : goal.returns-clause-lines_counted
returns-clause-lines_counted g c = lines_counted g.K.RowKind.kind

pub returns-clause-lines_reported : goal.returns-clause-lines_reported
returns-clause-lines_reported g c = lines_reported g.K.RowKind.kind

pub returns-clause-causes_stand : goal.returns-clause-causes_stand
returns-clause-causes_stand g c =
    causes_stand g.K.RowKind.kind (λ cell. g.met.K.RowKind.judged cell ∙ g.met.K.RowKind.counted)

pub returns-clause-same_readings : goal.returns-clause-same_readings
returns-clause-same_readings g c = same_readings g.K.RowKind.kind

pub returns-clause-read_as_written : goal.returns-clause-read_as_written
returns-clause-read_as_written g c =
    read_as_written g.K.RowKind.kind (λ cell. g.met.K.RowKind.judged cell ∙ g.met.K.RowKind.counted)
