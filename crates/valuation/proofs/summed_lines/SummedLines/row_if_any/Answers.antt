use Rattle.account.specs.Lines.{is_in_block, keep}
use Rattle.account.specs.Rows.{block_row}
use Rattle.valuation.proofs.Blocks.{any_some, row_there, row_missing}
use Rattle.valuation.proofs.summed_lines.SummedLines.row_if_any.Goals as goal

pub worked_row-requires : goal.worked_row-requires
worked_row-requires g c =
    let r = c.args.self.now.lines.now in
    any_some (is_in_block r.isin c.args.block) r.lines c.if-has_lines.ensures

pub returns-then-has_lines-clause-is : goal.returns-then-has_lines-clause-is
returns-then-has_lines-clause-is g c =
    let r = c.args.self.now.lines.now in
    let k = c.args.block in
    let ls = r.lines in
    row_there (is_in_block r.isin k) ls {x = block_row (g.B.Basis.setting r.basis.now) r.isin k (keep (is_in_block r.isin k) ls)} c.if-has_lines.ensures c.worked_row.ensures.is

pub returns-else-has_lines-clause-is : goal.returns-else-has_lines-clause-is
returns-else-has_lines-clause-is g c =
    let r = c.args.self.now.lines.now in
    let k = c.args.block in
    let ls = r.lines in
    row_missing (is_in_block r.isin k) ls (block_row (g.B.Basis.setting r.basis.now) r.isin k (keep (is_in_block r.isin k) ls)) c.if-has_lines.ensures
