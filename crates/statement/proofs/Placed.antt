-- Bytes put one after another.
use Rattle.std.proofs.Common.{◌≡◌, ℕ, ◌+◌, ◌≤◌, ◌<◌, List, [], ◌++◌, length, take, drop, get_or, pos, sym, ap, ◌∙◌, arith, length-append, append_assoc}
use Rattle.std.proofs.lemmas.List.{drop-drop, take_at, drop_at, length-take-le, at_drop_more}
use Rattle.account.specs.declared.row.Row.{Row}
use Rattle.account.specs.declared.scope.Scope.TheVariants.{Trades}
use Rattle.account.specs.declared.scenario.Scenario.TheVariants.{AllTrades}
use Rattle.statement.specs.Statements.{row_text, rows_text, memory_with_bytes, Puts}

-- a row of a list; past its end, one that is never asked for
abbrev pub row_at : List Row → ℕ → Row
row_at rows i =
    get_or rows i (record { isin = record { bytes = [] }; scope = Trades AllTrades; initial_margin = 0; variation_margin = pos 0 })

-- bytes of two parts are put by one after the other
pub put_both : (at : ℕ) (a b memory : List ℕ) → at ≤ length memory → memory_with_bytes (at + length a) b (memory_with_bytes at a memory) ≡ memory_with_bytes at (a ++ b) memory
put_both at a b memory within =
    let front : List ℕ = take at memory ++ a in
    let back : List ℕ = drop (length a) (drop at memory) in
    let so_far : memory_with_bytes at a memory ≡ front ++ back = sym (append_assoc (take at memory) a back) in
    let long : length front ≡ at + length a = omega (arith, length-append (take at memory) a, length-take-le at memory within) in
    rw (so_far, take_at front back (at + length a) long, drop_at front back (at + length a) long, length-append a b, drop-drop (length b) (length a) (drop at memory))
    (simp append_assoc)

-- a part put behind another
pub then_puts : (at mid end : ℕ) (a b m n o : List ℕ) → at ≤ length m → Puts at a m n mid → Puts mid b n o end → Puts at (a ++ b) m o end
then_puts at mid end a b m n o within p q = record {
  placed = rw (q.placed, p.ends, p.placed) (put_both at a b m within);
  ends = omega (arith, p.ends, q.ends, length-append a b);
}

-- once a part is put, the rest puts what both put
pub rest_puts : (at mid : ℕ) (a b m n whole : List ℕ) → at ≤ length m → Puts at a m n mid → memory_with_bytes at (a ++ b) m ≡ whole → memory_with_bytes mid b n ≡ whole
rest_puts at mid a b m n whole within p w = rw (p.ends, p.placed) (put_both at a b m within ∙ w)

-- the text of the rows from one on is that row's line, and then the text of those after it
pub rows_from : (rows : List Row) (i : ℕ) (tail : List ℕ) → i < length rows → rows_text (drop i rows) ++ tail ≡ row_text (row_at rows i) ++ (rows_text (drop (i + 1) rows) ++ tail)
rows_from rows i tail h = ap (λ text. text ++ tail) (at_drop_more rows_text rows i _ h) ∙ append_assoc (row_text (row_at rows i)) (rows_text (drop (i + 1) rows)) tail
