use Rattle.std.proofs.Common.{rules, ◌≡◌, ◌^◌, ◌<◌, length, Err, pos, neg_ℤ, ap, ◌∙◌, arith, w64, to_z, of_z}
use Rattle.std.proofs.lemmas.Int.{ints, to_z_pos}
use Rattle.run.specs.Runs.{run}
use Rattle.run.specs.Refusals.{placed_refusal}
use Rattle.margin_c.proofs.Outcomes.{refused_is, refused_keeps, Given, given_is, given_within}
use Rattle.margin_c.proofs.margin_run_told.Goals as goal
use Rattle.margin_c.proofs.margin_run_told.Goals.{After-from, In-Ok}

refused : (c : After-from) → run c.args.sheets.now (length c.args.statement.now) ≡ Err (placed_refusal c.in-Err.refused)
refused c = refused_is (run c.args.sheets.now (length c.args.statement.now)) c.in-Err.refused _ _ c.in-Err.ensures.answer

given : (c : In-Ok) → Given (run c.args.sheets.now (length c.args.statement.now)) c.in-Ok.length c.args.statement.now c.run.new.buffer
given c = given_is (run c.args.sheets.now (length c.args.statement.now)) c.in-Ok.length c.args.statement.now c.run.new.buffer c.in-Ok.ensures.answer

pub overflow_cast-result : goal.overflow_cast-result
overflow_cast-result c =
    let within = given_within (given ((goal.at.overflow_cast-result c).In-Ok)) in
    search rules

pub returns-in-Ok-clause-answer : goal.returns-in-Ok-clause-answer
returns-in-Ok-clause-answer c =
    let g = given ((goal.at.returns-in-Ok-clause-answer c).In-Ok) in
    let within = given_within g in
    let short : c.in-Ok.length < 2 ^ 63 = search rules in
    rw (g.text_is, to_z_pos w64 c.in-Ok.length short) (ap pos g.count)

pub returns-in-Ok-clause-statement : goal.returns-in-Ok-clause-statement
returns-in-Ok-clause-statement c =
    let g = given ((goal.at.returns-in-Ok-clause-statement c).In-Ok) in
    rw g.text_is g.buffer

pub returns-in-Ok-clause-refusal : goal.returns-in-Ok-clause-refusal
returns-in-Ok-clause-refusal c = rw ((given ((goal.at.returns-in-Ok-clause-refusal c).In-Ok)).text_is) c.none.ensures

pub returns-in-Err-clause-answer : goal.returns-in-Err-clause-answer
returns-in-Err-clause-answer c =
    let v : to_z w64 (of_z w64 c.answer.result) ≡ c.answer.result = omega (arith, ints) in
    rw (refused ((goal.at.returns-in-Err-clause-answer c).After-from), v) (c.answer.ensures ∙ ap (λ r. neg_ℤ (pos r.number)) c.from.ensures)

pub returns-in-Err-clause-statement : goal.returns-in-Err-clause-statement
returns-in-Err-clause-statement c =
    let s = (goal.at.returns-in-Err-clause-statement c).After-from in
    rw (refused s) (refused_keeps (run c.args.sheets.now (length c.args.statement.now)) s.in-Err.refused _ _ s.in-Err.ensures.answer)

pub returns-in-Err-clause-refusal : goal.returns-in-Err-clause-refusal
returns-in-Err-clause-refusal c = rw (refused ((goal.at.returns-in-Err-clause-refusal c).After-from)) c.from.ensures
