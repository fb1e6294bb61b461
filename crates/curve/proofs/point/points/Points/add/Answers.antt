use Rattle.std.proofs.Common.{◌≡◌, Ok, Err, Result, OnOk, refl}
use Rattle.quantities.specs.declared.refusal.Refusal.{Refusal}
use Rattle.curve.proofs.point.points.Points.add.Goals as goal

where_ok : (P : Type 0) (a : Result (Unit {0}) Refusal) → (a ≡ Ok tt → P) → OnOk a P
where_ok P (Ok u) h = h refl
where_ok P (Err e) h = tt

pub returns-clause-found : goal.returns-clause-found
returns-clause-found c = rw (← c.self.view_is) (where_ok _ _ c.insert.ensures.change.finds)
