use Rattle.std.proofs.Common.{◌≡◌, length, take, drop}
use Rattle.sheet.specs.Columns.{texts}
use Rattle.sheet.specs.Sheets.{are_named, places_of}
use Rattle.sheet.proofs.columns.places.Given as goal

abbrev pub invariant-loop-column : goal.invariant-loop-column
invariant-loop-column g l =
    let needed = g.K.RowKind.kind.needed in
    record {
      left : are_named (drop l.column needed) (texts l.names) ≡ are_named needed (texts l.names);
      found : take l.column l.places ≡ places_of (take l.column needed) (texts l.names);
      room : length l.places ≡ 32;
    }
