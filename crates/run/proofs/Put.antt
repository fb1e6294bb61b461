-- A record that is put into a table is kept, or turned away with nothing changed.
use Rattle.std.proofs.Common.{List, Ok, Err, Result, ap}
use Rattle.quantities.specs.declared.refusal.Refusal.{Refusal}
use Rattle.market.proofs.Put.{PutsIn}
use Rattle.run.specs.KeptSheets.{Keeps}
use Rattle.run.specs.Kept.{kept_table}
use Rattle.run.specs.Refusals.{answer_with_reference}

pub table_keeps : {X S : Type 0} (keep : List X → S) (due : Result (List X) Refusal) (before : List X) (a : Result (Unit {0}) Refusal) (after : List X) → PutsIn due before a after →
    Keeps (kept_table keep due) (keep before) (keep after) (answer_with_reference 0 a)
table_keeps keep due before (Ok u) after h = ap (kept_table keep) h
table_keeps keep due before (Err e) after h = (ap (kept_table keep) h.0, ap keep h.1)
