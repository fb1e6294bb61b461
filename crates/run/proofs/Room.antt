-- A statement has room in 65,536 bytes.
use Rattle.std.proofs.Common.{◌≡◌, ℕ, ◌≤◌, ◌<◌, ◌⊎◌, inl, inr, ⊎_elim, Bool, true, false, cond, ltb, List, [], ◌∷◌, length, Ok, Err, refl, ap, sym, ◌∙◌, arith}
use Rattle.std.proofs.lemmas.Bool.{and_parts, cases_lt, ltb-true, le-ltb}
use Rattle.std.specs.List.{AllByRecursion as All}
use Rattle.account.specs.declared.line.Line.{Line}
use Rattle.account.specs.Lines.{date}
use Rattle.account.specs.Calls.{Answer, accepted, refused, given, line_rank}
use Rattle.account.specs.Answers.{is_well_formed, margin_answer}
use Rattle.account.specs.Margin.{margin, rounded_amounts}
use Rattle.account.proofs.Formed.{formed_parts, formed_bytes}
use Rattle.statement.specs.Statements.{statement_text}
use Rattle.rows.specs.Forms.{is_date}
use Rattle.rows.specs.Positions.{line_in_range}
use Rattle.run.specs.Accepted.{RowsAreRight, account_of_rows, account_statement, IsTooLong}
use Rattle.run.specs.Laws.{records_by, DeliveredRows, IsSheetRefusal, IsBookRefusal}
use Rattle.run.specs.Refusals.{PlacedRefusal, Outcome, refusal_of_run}
use Rattle.run.specs.Runs.{most_bytes, Account, account_rows, account_of_sheets, text_in_buffer, outcome_by_answer, account_outcome, sheets_outcome, run}
use Rattle.run.proofs.Accepting.{given_rows, nothing_wrong, stated}
use Rattle.run.proofs.Layers.{same_err, then_err, not_loaded}
use Rattle.run.proofs.Loaded.{Steps, steps, rows_read}
use Rattle.run.proofs.Promise.{nets, never_accepted}
use Rattle.run.proofs.RecordsBy.{all_with}
use Rattle.run.proofs.RecordsOfRows.{records_long}
use Rattle.run.proofs.RowCauses.{titles_with_rows}
use Rattle.run.proofs.RowCount.{rows_few}
use Rattle.run.proofs.ShortRows.{SmallLines, all_short}
use Rattle.run.proofs.Sheets.{EachIn}
use Rattle.run.proofs.Taking.{lines_ranged}
use Rattle.run.proofs.TextLengths.{statement_few, statement_some}

in_range_small : (ls : List Line) → EachIn line_in_range ls → All (λ l. l.cash ≤ 1000000000000) ls × All (λ l. length l.isin.bytes ≡ 12) ls
in_range_small [] i = (tt, tt)
in_range_small (l ∷ ls) i =
    let formed = (and_parts (is_well_formed l) (is_date (date l.block)) i.0).0 in
    let rest = in_range_small ls i.1 in
    (((formed_parts l formed).cash, rest.0), ((formed_bytes l formed).many, rest.1))

module _ {bytes : List ℕ} (rows : DeliveredRows bytes) (right : RowsAreRight rows) where
  small : SmallLines (records_by line_rank rows.lines)
  small =
      let each = in_range_small rows.lines (lines_ranged rows) in
      record {
        few = omega (arith, records_long line_rank [] rows.lines, right.taken.few_lines);
        titles = λ i k. omega (arith, titles_with_rows i k [] rows.lines, right.taken.titles i k);
        cash = all_with line_rank (λ l. l.cash ≤ 1000000000000) [] rows.lines tt each.0;
        twelve = all_with line_rank (λ l. length l.isin.bytes ≡ 12) [] rows.lines tt each.1;
      }

  pub has_room : length (account_statement (account_of_rows rows)) ≤ 65536
  has_room =
      let l = account_of_rows rows in
      let short = all_short l.setting l.standing (nets rows.day.mode).at_most small in
      omega (arith, statement_few (account_rows l) (margin l.setting l.standing) (rounded_amounts l.standing) short, rows_few l.setting l.standing, small.few)

pub bounded : (bytes : List ℕ) (buffer : ℕ) (text : List ℕ) → run bytes buffer ≡ Ok text → (1 ≤ length text) × (length text ≤ 65536)
bounded bytes buffer text e =
    let n = nothing_wrong bytes buffer text e in
    let l = account_of_rows n.rows in
    let same = ap (λ (o : Outcome (List ℕ)). length (text_or_none o)) (sym e ∙ stated bytes buffer n) in
    (omega (arith, same, statement_some (account_rows l) (margin l.setting l.standing) (rounded_amounts l.standing)), omega (arith, same, has_room n.rows n.right))
  where
    text_or_none : Outcome (List ℕ) → List ℕ
    text_or_none (Ok t) = t
    text_or_none (Err r) = []

-- ---- a refusal for length
no_layer : (bytes : List ℕ) → IsSheetRefusal bytes (refusal_of_run 14) ⊎ IsBookRefusal bytes (refusal_of_run 14) → ⊥
no_layer bytes l = ⊎_elim (λ (s : IsSheetRefusal bytes (refusal_of_run 14)). omega (arith, s.layer)) (λ (b : IsBookRefusal bytes (refusal_of_run 14)). omega (arith, b.layer)) l

longer : (buffer : ℕ) (text : List ℕ) → text_in_buffer buffer text ≡ Err (refusal_of_run 14) → buffer < length text
longer buffer text e = go (ltb buffer (length text)) refl e
  where
    go : (t : Bool) → ltb buffer (length text) ≡ t → cond t (Err (refusal_of_run 14)) (Ok text) ≡ Err (refusal_of_run 14) → buffer < length text
    go true q e = ltb-true buffer (length text) q
    go false q e = cc

short_buffer : (bytes : List ℕ) (buffer : ℕ) (l : Account) → Steps bytes l → (a : Answer) → margin_answer l.setting l.standing ≡ a → outcome_by_answer buffer l a ≡ Err (refusal_of_run 14) → buffer < 65536
short_buffer bytes buffer l s accepted q e = absurd (never_accepted l.setting l.standing l.standing q)
short_buffer bytes buffer l s (refused n r) q e = let layer = ap (λ (p : PlacedRefusal). p.layer) (same_err {X = List ℕ} _ _ e) in absurd (omega (arith, layer))
short_buffer bytes buffer l s (given m k) q e =
    let g = given_rows bytes l s m k q in
    omega (arith, longer buffer (statement_text (account_rows l) m k) e, g.1, has_room (rows_read bytes l s) g.0)

pub too_long_only : (bytes : List ℕ) (buffer : ℕ) → run bytes buffer ≡ Err (refusal_of_run 14) → IsTooLong bytes buffer
too_long_only bytes buffer e = ⊎_elim
    inl
    (λ (s : length bytes ≤ 65536).
    let worked : sheets_outcome bytes buffer ≡ Err (refusal_of_run 14) = rw (le-ltb most_bytes (length bytes) s) at e in
    ⊎_elim
    (λ n. absurd (no_layer bytes (not_loaded bytes (refusal_of_run 14) n)))
    (λ a. inr (short_buffer bytes buffer a.0 (steps bytes a.0 a.1.0) (margin_answer a.0.setting a.0.standing) refl a.1.1))
    (then_err (account_of_sheets bytes) (account_outcome buffer) (refusal_of_run 14) worked))
    (cases_lt 65536 (length bytes))
