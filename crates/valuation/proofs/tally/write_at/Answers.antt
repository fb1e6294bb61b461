use Rattle.std.proofs.Common.{sym}
use Rattle.std.proofs.lemmas.List.{set_past}
use Rattle.valuation.proofs.tally.write_at.Goals as goal

pub returns-else-place-rows : goal.returns-else-place-rows
returns-else-place-rows c = sym (set_past c.args.rows.now c.args.place c.args.row c.if-place-rows.false)
