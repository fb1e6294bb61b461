-- A refusal as C has it.
use Rattle.run.specs.Refusals.{PlacedRefusal}
use Rattle.margin_c.specs.declared.refusal.MarginRefusal.{MarginRefusal}

-- what is reported of a run that is accepted
abbrev pub no_refusal : MarginRefusal
no_refusal = record { number = 0; layer = 0; line = 0; cell = 0; reference = 0 }

-- a refusal of a run, part by part
abbrev pub refusal_for_c : PlacedRefusal → MarginRefusal
refusal_for_c r =
    record {
      number = r.number;
      layer = r.layer;
      line = r.line;
      cell = r.cell;
      reference = r.reference;
    }
