use Rattle.account.specs.Lines.{block_name, is_same_block}
use Rattle.valuation.proofs.LineLoops.{Summed}
use Rattle.book.proofs.check.block_titles.Given as goal

abbrev pub invariant-loop-line : goal.invariant-loop-line
invariant-loop-line l = Summed (λ k. k.titles) (λ k. is_same_block (block_name k.block) l.block) l.lines l.line-iterator l.titles
