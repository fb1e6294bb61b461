use Rattle.std.proofs.Common.{◌+◌, refl, ap, arith}
use Rattle.account.specs.Lines.{block_name, is_same_block}
use Rattle.valuation.proofs.LineLoops.{Summed, summed_more, summed_all}
use Rattle.book.proofs.check.block_titles.Goals as goal
use Rattle.book.proofs.check.block_titles.Goals.{After-titles_in-titles}

module _ (c : After-titles_in-titles) where
  more : Summed (λ k. k.titles) (λ k. is_same_block (block_name k.block) c.args.block) c.args.lines.now c.next.new.self (c.loop-line.titles + c.titles_in-titles.result)
  more = summed_more _ c.in-Some.ensures.steps refl (ap (λ n. c.loop-line.titles + n) c.titles_in-titles.ensures) c.loop-line.invariant

pub overflow_add-titles : goal.overflow_add-titles
overflow_add-titles c = let m = more (goal.at.overflow_add-titles c).After-titles_in-titles in omega (arith, m.sum)

pub loop-line-preserved : goal.loop-line-preserved
loop-line-preserved c = more (goal.at.loop-line-preserved c).After-titles_in-titles

pub returns : goal.returns
returns c = summed_all c.in-None.ensures.steps.0 c.loop-line.invariant
