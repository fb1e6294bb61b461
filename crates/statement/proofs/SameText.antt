-- Statements of the same text are of the same rows and of the same margin.
use Rattle.std.proofs.Common.{◌≡◌, ℕ, ◌<◌, ◌==◌, cond, List, [], ◌∷◌, ◌++◌, length, slice_index, ℤ, refl, sym, ap, ◌∙◌, arith, append_assoc}
use Rattle.std.proofs.lemmas.List.{append_cancel_left}
use Rattle.std.proofs.lemmas.Fmt.{decimal_injective, signed_decimal_injective}
use Rattle.std.specs.Fmt.{decimal, signed_decimal}
use Rattle.std.specs.Prelude.{codes}
use Rattle.account.specs.declared.row.Row.{Row}
use Rattle.account.specs.declared.scope.Scope.{Scope}
use Rattle.account.specs.declared.scope.Scope.TheVariants.{Trades, FailedLines, HeldLines, CashOnlyLines}
use Rattle.account.specs.declared.scenario.Scenario.TheVariants.{AllTrades, WithoutToday, AfterNext}
use Rattle.account.specs.declared.margin.Margin.{Margin}
use Rattle.account.specs.Rows.{block_of, scenario_of}
use Rattle.statement.specs.Statements.{line_text, block_letter, head_text, row_text, rows_text, end_text}
use Rattle.statement.specs.Laws.{IsCell, RowFits, EachRowFits, MarginFits, StatementLaw}
use Rattle.statement.proofs.Cells.{EachCell, line_first, decimal_is_cell, signed_is_cell}

-- ---- rows by their cells
abbrev scope_by : List ℕ → ℕ → Scope
scope_by l n =
    cond (slice_index l 0 == 84) (Trades (cond (n == 1) AllTrades (cond (n == 2) WithoutToday AfterNext)))
    (cond (slice_index l 0 == 70) FailedLines (cond (slice_index l 0 == 72) HeldLines CashOnlyLines))

scope_back : (s : Scope) → scope_by (block_letter (block_of s)) (scenario_of s) ≡ s
scope_back (Trades AllTrades) = refl
scope_back (Trades WithoutToday) = refl
scope_back (Trades AfterNext) = refl
scope_back FailedLines = refl
scope_back HeldLines = refl
scope_back CashOnlyLines = refl

scenario_small : (s : Scope) → scenario_of s < 4
scenario_small (Trades AllTrades) = omega arith
scenario_small (Trades WithoutToday) = omega arith
scenario_small (Trades AfterNext) = omega arith
scenario_small FailedLines = omega arith
scenario_small HeldLines = omega arith
scenario_small CashOnlyLines = omega arith

letter_is_cell : (s : Scope) → IsCell (block_letter (block_of s))
letter_is_cell (Trades n) = ((omega arith, omega arith), tt)
letter_is_cell FailedLines = ((omega arith, omega arith), tt)
letter_is_cell HeldLines = ((omega arith, omega arith), tt)
letter_is_cell CashOnlyLines = ((omega arith, omega arith), tt)

-- the cells of a row after its ISIN
abbrev cells : Row → List (List ℕ)
cells r = block_letter (block_of r.scope) ∷ (decimal (scenario_of r.scope) ∷ (decimal r.initial_margin ∷ (signed_decimal r.variation_margin ∷ [])))

each_cell : (r : Row) → RowFits r → EachCell (r.isin.bytes ∷ cells r)
each_cell r t =
    (t.cell, (letter_is_cell r.scope, (decimal_is_cell (scenario_of r.scope) (omega (arith, scenario_small r.scope)), (decimal_is_cell r.initial_margin t.initial, (signed_is_cell r.variation_margin t.variation, tt)))))

abbrev row_by : List ℕ → Scope → ℕ → ℤ → Row
row_by bytes scope initial variation = record { isin = record { bytes = bytes }; scope = scope; initial_margin = initial; variation_margin = variation }

same_row : (r q : Row) → RowFits r → RowFits q → (r.isin.bytes ∷ cells r) ≡ (q.isin.bytes ∷ cells q) → r ≡ q
same_row r q t u h =
    let isin : r.isin.bytes ≡ q.isin.bytes = cc in
    let block : block_letter (block_of r.scope) ≡ block_letter (block_of q.scope) = cc in
    let scenario : scenario_of r.scope ≡ scenario_of q.scope =
    decimal_injective _ _ (omega (arith, scenario_small r.scope)) (omega (arith, scenario_small q.scope)) (cc) in
    let initial : r.initial_margin ≡ q.initial_margin = decimal_injective _ _ t.initial u.initial (cc) in
    let variation : r.variation_margin ≡ q.variation_margin = signed_decimal_injective _ _ t.variation.sfits u.variation.sfits (cc) in
    let scope : r.scope ≡ q.scope = sym (scope_back r.scope) ∙ (rw (block, scenario) (scope_back q.scope)) in
    let same : row_by r.isin.bytes r.scope r.initial_margin r.variation_margin ≡ row_by q.isin.bytes q.scope q.initial_margin q.variation_margin = cc in
    same

-- ---- a statement by its lines
-- no row begins as the line of the margin does
no_total : {A : Type 0} (r : Row) (cs ds : List (List ℕ)) → RowFits r → (codes "TOTAL" ∷ cs) ≡ (r.isin.bytes ∷ ds) → A
no_total r cs ds t h =
    let isin : codes "TOTAL" ≡ r.isin.bytes = cc in
    absurd (omega (arith, ap length isin, t.twelve))

same_rows : (rows others : List Row) (cs ds : List (List ℕ)) (x y : List ℕ) → EachRowFits rows → EachRowFits others → EachCell (codes "TOTAL" ∷ cs) → EachCell (codes "TOTAL" ∷ ds) → rows_text rows ++ (line_text (codes "TOTAL" ∷ cs) ++ x) ≡ rows_text others ++ (line_text (codes "TOTAL" ∷ ds) ++ y) → (rows ≡ others) × (cs ≡ ds)
same_rows [] [] cs ds x y t u p q h =
    let total : (codes "TOTAL" ∷ cs) ≡ (codes "TOTAL" ∷ ds) = (line_first (codes "TOTAL") (codes "TOTAL") cs ds x y p q h).0 in
    (refl, cc)
same_rows [] (o ∷ os) cs ds x y t u p q h =
    let after : List ℕ = line_text (codes "TOTAL" ∷ ds) ++ y in
    let first = line_first (codes "TOTAL") o.isin.bytes cs (cells o) x (rows_text os ++ after) p (each_cell o u.0) (h ∙ append_assoc (row_text o) (rows_text os) after) in
    no_total o cs (cells o) u.0 first.0
same_rows (r ∷ rs) [] cs ds x y t u p q h =
    let after : List ℕ = line_text (codes "TOTAL" ∷ cs) ++ x in
    let first = line_first (codes "TOTAL") r.isin.bytes ds (cells r) y (rows_text rs ++ after) q (each_cell r t.0) (sym h ∙ append_assoc (row_text r) (rows_text rs) after) in
    no_total r ds (cells r) t.0 first.0
same_rows (r ∷ rs) (o ∷ os) cs ds x y t u p q h =
    let after : List ℕ = line_text (codes "TOTAL" ∷ cs) ++ x in
    let other : List ℕ = line_text (codes "TOTAL" ∷ ds) ++ y in
    let first = line_first r.isin.bytes o.isin.bytes (cells r) (cells o) (rows_text rs ++ after) (rows_text os ++ other) (each_cell r t.0) (each_cell o u.0)
    (sym (append_assoc (row_text r) (rows_text rs) after) ∙ (h ∙ append_assoc (row_text o) (rows_text os) other)) in
    let rest = same_rows rs os cs ds x y t.1 u.1 p q first.1 in
    let row : r ≡ o = same_row r o t.0 u.0 first.0 in
    let rows : rs ≡ os = rest.0 in
    (cc, rest.1)

-- the cells of a margin after its mark
abbrev amounts : Margin → List (List ℕ)
amounts m = decimal m.cents ∷ (decimal m.rounded_amounts ∷ [])

same_amounts : (m n : Margin) → MarginFits m → MarginFits n → amounts m ≡ amounts n → m ≡ n
same_amounts m n p q h =
    let cents : m.cents ≡ n.cents = decimal_injective _ _ p.cents q.cents (cc) in
    let rounded : m.rounded_amounts ≡ n.rounded_amounts = decimal_injective _ _ (omega arith) (omega arith) (cc) in
    let margin_by : ℕ → ℕ → Margin = λ c r. record { cents = c; rounded_amounts = r } in
    let same : margin_by m.cents m.rounded_amounts ≡ margin_by n.cents n.rounded_amounts = cc in
    same

total_is_cell : IsCell (codes "TOTAL")
total_is_cell = ((omega arith, omega arith), ((omega arith, omega arith), ((omega arith, omega arith), ((omega arith, omega arith), ((omega arith, omega arith), tt)))))

each_amount : (m : Margin) → MarginFits m → EachCell (codes "TOTAL" ∷ amounts m)
each_amount m p =
    (total_is_cell, (decimal_is_cell m.cents p.cents, (decimal_is_cell m.rounded_amounts (omega (arith, p.rounded)), tt)))

pub statement_law : StatementLaw
statement_law rows others m n t u p q h =
    let lines = append_cancel_left head_text (rows_text rows ++ (line_text (codes "TOTAL" ∷ amounts m) ++ end_text (length rows))) (rows_text others ++ (line_text (codes "TOTAL" ∷ amounts n) ++ end_text (length others))) h in
    let parts = same_rows rows others (amounts m) (amounts n) (end_text (length rows)) (end_text (length others)) t u (each_amount m p) (each_amount n q) lines in
    (parts.0, same_amounts m n p q parts.1)
