use Rattle.std.proofs.Common.{rules, ◌≡◌, false, length, nat_lt}
use Rattle.run.specs.Runs.{most_bytes, run}
use Rattle.run.specs.Answers.{WritesText}
use Rattle.run.proofs.Promised.{promised, refused_by_cause, accepts, bounds, too_long}
use Rattle.run.proofs.run.run.Goals as goal
use Rattle.run.proofs.run.run.Goals.{After-work}

ran : (c : After-work) → WritesText (run c.args.sheets.now (length c.args.buffer.now)) c.work.result c.args.buffer.now c.work.new.buffer
ran c =
    let short : nat_lt most_bytes (length c.args.sheets.now) ≡ false = search rules in
    rw short c.work.ensures

pub returns-clause-accepted : goal.returns-clause-accepted
returns-clause-accepted c = accepts c.args.sheets.now c.args.buffer.now c.work.result c.work.new.buffer (ran (goal.at.returns-clause-accepted c).After-work)

pub returns-clause-bounded : goal.returns-clause-bounded
returns-clause-bounded c = bounds c.args.sheets.now c.args.buffer.now c.work.result c.work.new.buffer (ran (goal.at.returns-clause-bounded c).After-work)

pub returns-clause-too_long : goal.returns-clause-too_long
returns-clause-too_long c = too_long c.args.sheets.now c.args.buffer.now c.work.result c.work.new.buffer (ran (goal.at.returns-clause-too_long c).After-work)

pub returns-clause-promise : goal.returns-clause-promise
returns-clause-promise c = promised c.args.sheets.now c.args.buffer.now c.work.result c.work.new.buffer (ran (goal.at.returns-clause-promise c).After-work)

pub returns-clause-refusal : goal.returns-clause-refusal
returns-clause-refusal c = refused_by_cause c.args.sheets.now c.args.buffer.now c.work.result c.work.new.buffer (ran (goal.at.returns-clause-refusal c).After-work)
