use Rattle.std.proofs.Common.{◌≡◌, ◌∙◌, rules, length, take, ap}
use Rattle.std.proofs.lemmas.List.{with_items_is, places}
use Rattle.run.specs.declared.run.TheConstants.{MOST_STATEMENT}
use Rattle.margin.proofs.Outcomes.{stated, refused}
use Rattle.margin.proofs.program.reply_to_run.Goals as goal

pub returns-in-Ok-clause-out : goal.returns-in-Ok-clause-out
returns-in-Ok-clause-out c =
    let room : length c.as_mut_slice.result.now ≡ MOST_STATEMENT = search rules in
    let written = with_items_is c.in_ok-statement.statement c.run.new.buffer (search (rules, places)) in
    c.truncate.ensures.items ∙ ap (take c.in-Ok.len) written
    ∙ (stated _ _ _ _ room c.in-Ok.ensures.answer).0

pub returns-in-Ok-clause-err : goal.returns-in-Ok-clause-err
returns-in-Ok-clause-err c =
    let room : length c.as_mut_slice.result.now ≡ MOST_STATEMENT = search rules in
    rw (stated _ _ _ _ room c.in-Ok.ensures.answer).1 c.new.ensures.items

pub returns-in_ok-words-in-Err-clause-out : goal.returns-in_ok-words-in-Err-clause-out
returns-in_ok-words-in-Err-clause-out c =
    let room : length c.as_mut_slice.result.now ≡ MOST_STATEMENT = search rules in
    let line = c.in_ok-line-in-Err.ensures.ok in
    let refusal = refused _ _ _ _ (λ text. c.into_bytes-in-Err.result.items ≡ text) room c.in-Err.ensures.answer in
    ap (λ v. v.items) c.into_bytes.ensures.value ∙ line ∙ refusal.0

pub returns-in_ok-words-in-Err-clause-err : goal.returns-in_ok-words-in-Err-clause-err
returns-in_ok-words-in-Err-clause-err c =
    let room : length c.as_mut_slice.result.now ≡ MOST_STATEMENT = search rules in
    (refused _ _ _ _ (λ text. c.into_bytes-in-Err.result.items ≡ text) room c.in-Err.ensures.answer).1
