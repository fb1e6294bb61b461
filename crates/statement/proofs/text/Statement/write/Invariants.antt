use Rattle.std.proofs.Common.{◌≡◌, ◌+◌, ◌≤◌, ◌++◌, length, drop}
use Rattle.statement.specs.Statements.{rows_text, total_text, end_text, memory_with_bytes}
use Rattle.statement.proofs.text.Statement.write.Given as goal

-- the lines that are left put the whole text
abbrev pub invariant-loop-row : goal.invariant-loop-row
invariant-loop-row l =
    let left = rows_text (drop l.row-index l.row-items) ++ (total_text l.margin.cents l.margin.rounded_amounts ++ end_text (length l.row-items)) in
    record {
      room : l.at + length left ≤ length l.memory;
      text : memory_with_bytes l.at left l.memory ≡ memory_with_bytes 0 l.self l.fn.memory;
    }
