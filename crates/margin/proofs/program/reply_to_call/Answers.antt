use Rattle.std.proofs.Common.{◌∙◌}
use Rattle.margin.specs.Program.{printed, told}
use Rattle.margin.proofs.Outcomes.{printed_of_front, told_of_front}
use Rattle.margin.proofs.program.reply_to_call.Goals as goal

pub returns-in_ok-from_slice-in-Help-clause-out : goal.returns-in_ok-from_slice-in-Help-clause-out
unfolding printed
returns-in_ok-from_slice-in-Help-clause-out g c = rw c.in-Help.is (c.in_ok-from_slice-in-Help.ensures.items ∙ c.as_bytes.ensures.value)

pub returns-in_ok-from_slice-in-Help-clause-err : goal.returns-in_ok-from_slice-in-Help-clause-err
unfolding told
returns-in_ok-from_slice-in-Help-clause-err g c = rw c.in-Help.is c.new.ensures.items

pub returns-in_ok-from_slice-in-Unknown-clause-out :
    goal.returns-in_ok-from_slice-in-Unknown-clause-out
unfolding printed
returns-in_ok-from_slice-in-Unknown-clause-out g c = rw c.in-Unknown.is c.new-in-Unknown.ensures.items

pub returns-in_ok-from_slice-in-Unknown-clause-err :
    goal.returns-in_ok-from_slice-in-Unknown-clause-err
unfolding told
returns-in_ok-from_slice-in-Unknown-clause-err g c = rw c.in-Unknown.is (c.in_ok-from_slice-in-Unknown.ensures.items ∙ c.as_bytes-in-Unknown.ensures.value)

pub returns-in_ok-sheets-in-Run-clause-out : goal.returns-in_ok-sheets-in-Run-clause-out
returns-in_ok-sheets-in-Run-clause-out g c =
    rw c.in-Run.is (printed_of_front (λ reply. reply.out.items) _ _ c.reply_to_run.result
    (c.in_ok-sheets-in-Run.ensures.front) (rw c.as_slice.ensures.value at c.reply_to_run.ensures.out))

pub returns-in_ok-sheets-in-Run-clause-err : goal.returns-in_ok-sheets-in-Run-clause-err
returns-in_ok-sheets-in-Run-clause-err g c =
    rw c.in-Run.is (told_of_front (λ reply. reply.err.items) _ _ c.reply_to_run.result
    (c.in_ok-sheets-in-Run.ensures.front) (rw c.as_slice.ensures.value at c.reply_to_run.ensures.err))
