use Rattle.std.proofs.Common.{◌≡◌, ◌+◌, ◌*◌, ◌^◌, ◌<◌, ◌≤◌, length, drop}
use Rattle.statement.specs.Statements.{rows_text, statement_text}
use Rattle.statement.proofs.text.statement_len.Given as goal

-- the length so far, with that of the rows left, is the whole
abbrev pub invariant-loop-row : goal.invariant-loop-row
invariant-loop-row l = record {
  fits : l.len < 2 ^ 64;
  whole : l.len + length (rows_text (drop l.row-index l.rows)) ≡ length (statement_text l.fn.rows l.fn.margin.cents l.fn.margin.rounded_amounts);
  bound : l.len ≤ 101 + 59 * l.row-index;
}
