use Rattle.std.proofs.Common.{◌≡◌, ℕ, ◌+◌, List, [], ◌++◌, length, drop, ap, ◌∙◌, sym, arith, length-append}
use Rattle.std.proofs.lemmas.List.{at_drop_all}
use Rattle.statement.specs.Statements.{head_text, row_text, rows_text, total_text, end_text, memory_with_bytes}
use Rattle.statement.proofs.Placed.{rest_puts, row_at, rows_from}
use Rattle.statement.proofs.text.Statement.write.Goals as goal

pub put-at-requires : goal.put-at-requires
put-at-requires c = omega (arith, c.requires, ap length c.self.view_is)

pub loop-row-init : goal.loop-row-init
loop-row-init c =
    let rows = c.self.inside.rows.now in
    let margin = c.self.inside.margin in
    let left : List ℕ = rows_text rows ++ (total_text margin.cents margin.rounded_amounts ++ end_text (length rows)) in
    let whole : head_text ++ left ≡ c.args.self.now = c.self.view_is in
    record {
      room = omega (arith, ap length whole, length-append head_text left, c.put-at.auto.memory);
      text = rest_puts 0 _ head_text left c.args.memory.now _ _ (omega arith) c.put-at.ensures (ap (λ t. memory_with_bytes 0 t c.args.memory.now) whole);
    }

pub loop-row-preserved : goal.loop-row-preserved
loop-row-preserved c =
    let rows = c.self.inside.rows.now in
    let margin = c.self.inside.margin in
    let i = c.loop-row.row-index in
    let tail : List ℕ = total_text margin.cents margin.rounded_amounts ++ end_text (length rows) in
    let left : List ℕ = rows_text (drop (i + 1) rows) ++ tail in
    let line : List ℕ = row_text (row_at rows i) in
    let first : line ++ left ≡ rows_text (drop i rows) ++ tail = sym (rows_from rows i tail c.loop-row-test.true) in
    record {
      room = omega (arith, ap length first, length-append line left, c.loop-row.invariant.room, c.put_row-at.auto.memory);
      text = rest_puts _ _ line left c.loop-row.memory _ _ (omega arith) c.put_row-at.ensures (ap (λ t. memory_with_bytes c.loop-row.at t c.loop-row.memory) first ∙ c.loop-row.invariant.text);
    }

pub returns : goal.returns
returns c =
    let rows = c.self.inside.rows.now in
    let margin = c.self.inside.margin in
    let total : List ℕ = total_text margin.cents margin.rounded_amounts in
    let last : List ℕ = end_text (length rows) in
    let memory = c.loop-row.memory in
    let none_left : rows_text (drop c.loop-row.row-index rows) ≡ [] = at_drop_all rows_text rows c.loop-row.row-index c.loop-row-test.false in
    let left : total ++ last ≡ rows_text (drop c.loop-row.row-index rows) ++ (total ++ last) = rw none_left in
    c.put_end.ensures.placed
    ∙ rest_puts _ _ total last memory _ _ (omega (arith, c.loop-row.invariant.room)) c.put_total-at.ensures (ap (λ t. memory_with_bytes c.loop-row.at t memory) left ∙ c.loop-row.invariant.text)
