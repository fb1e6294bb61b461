-- A run is accepted just where nothing is wrong.
use Rattle.std.proofs.Common.{◌≡◌, ℕ, ◌≤◌, ◌↔◌, Bool, true, false, cond, ltb, List, length, Ok, Err, is_ok, IsOk, refl, ap, ap₂, ◌∙◌, subst, arith}
use Rattle.std.proofs.lemmas.Bool.{ltb-false, le-ltb}
use Rattle.curve.specs.Points.{point_rank}
use Rattle.market.specs.Contents.{Quotes}
use Rattle.market.specs.Records.{price_rank, percentage_rank}
use Rattle.account.specs.Calls.{Answer, accepted, refused, given, line_rank}
use Rattle.account.specs.Answers.{margin_answer}
use Rattle.valuation.specs.Checks.{Faultless}
use Rattle.statement.specs.Statements.{statement_text}
use Rattle.run.specs.Kept.{keep_percentage, keep_point, keep_price, keep_line}
use Rattle.run.specs.Accepted.{NoneTurnedAway, RowsAreRight, account_of_rows, account_statement, NothingWrong}
use Rattle.run.specs.Laws.{DeliveredRows, LoadedFrom}
use Rattle.run.specs.Refusals.{PlacedRefusal, Outcome}
use Rattle.run.specs.Runs.{account_rows, most_bytes, quotes_of_day, no_points, no_lines, Account, account_of_sheets, text_in_buffer, outcome_by_answer, account_outcome, sheets_outcome, run}
use Rattle.run.proofs.Tests.{next_day}
use Rattle.run.proofs.Keys.{tranches_ranked, terms_ranked, isins_ranked, references_ranked, once_by_key}
use Rattle.run.proofs.MarginCauses.{given_parts, none_lacking, right_where_faultless, faultless}
use Rattle.run.proofs.Loaded.{then_ok, Steps, steps, rows_read, loaded_from, next_day as next_day_read, percentages_are, percentages_of, points_of, prices_of, lines_of}
use Rattle.run.proofs.Promise.{never_accepted}
use Rattle.run.proofs.Right.{all_distinct, few_kept, price_puts, price_fills, point_puts, point_fills, percentage_puts, line_puts, line_fills, lines_dated, few_titles}
use Rattle.run.proofs.Taking.{then_from, loads}

-- ---- a statement that is given
same_account : {bytes : List ℕ} (rows : DeliveredRows bytes) (l : Account) → LoadedFrom rows l → l ≡ account_of_rows rows
same_account rows l f =
    λ i. record {
      setting = record { today = f.today i; next = f.next i; prices = f.prices_are i; percentages = f.percentages_are i; reach = f.reach i; rate = f.rate i; charged = f.rule i };
      standing = f.standing i;
    }

passed : {X : Type 0} (t : Bool) (r : Outcome X) (e : PlacedRefusal) (y : X) → cond t (Err e) r ≡ Ok y → (t ≡ false) × (r ≡ Ok y)
passed true r e y h = cc
passed false r e y h = (refl, h)

module _ (bytes : List ℕ) (l : Account) (s : Steps bytes l) where
  none_turned_away : NoneTurnedAway (rows_read bytes l s)
  none_turned_away =
      let par = (percentages_of bytes l s).1.kept in
      let crv = (points_of bytes l s).1.kept in
      let prc = (prices_of bytes l s).1.kept in
      let pos = (lines_of bytes l s).1.kept in
      let quotes = percentages_are bytes l s in
      let none = ap length (ap (λ (q : Quotes). q.prices) quotes) in
      let room : s.par.kept.room ≡ 256 = ap (λ (q : Quotes). q.room) quotes in
      let lines = (lines_of bytes l s).0 in
      record {
        next = next_day s.today (next_day_read bytes l s);
        tranches = once_by_key (λ p. p.tranche) percentage_rank tranches_ranked _ (all_distinct keep_percentage percentage_rank (λ q. q.percentages) percentage_puts (quotes_of_day s.today) s.par.kept _ par);
        terms = once_by_key (λ p. p.term) point_rank terms_ranked _ (all_distinct keep_point point_rank (λ h. h.records) point_puts no_points s.crv.kept _ crv);
        few_points = let few = few_kept keep_point point_rank (λ h. h.records) (λ h. h.room) point_puts point_fills no_points s.crv.kept (points_of bytes l s).0 (omega arith) crv in omega (arith, few);
        isins = once_by_key (λ p. p.isin) price_rank isins_ranked _ (all_distinct keep_price price_rank (λ q. q.prices) price_puts s.par.kept s.prc.kept _ prc);
        few_prices = let few = few_kept keep_price price_rank (λ q. q.prices) (λ q. q.room) price_puts price_fills s.par.kept s.prc.kept (prices_of bytes l s).0 (omega (arith, none)) prc in omega (arith, few, room);
        references = once_by_key (λ m. m.reference) line_rank references_ranked _ (all_distinct keep_line line_rank (λ h. h.standing) line_puts (no_lines s.today) s.pos.kept _ pos);
        few_lines = let few = few_kept keep_line line_rank (λ h. h.standing) (λ h. h.room) line_puts line_fills (no_lines s.today) s.pos.kept lines (omega arith) pos in omega (arith, few);
        dates = lines_dated (no_lines s.today) s.pos.kept _ pos;
        titles = λ i k. let few = few_titles (no_lines s.today) s.pos.kept lines i k (omega arith) pos in omega (arith, few);
      }

  -- the text of a margin that is given is the statement of rows that are right
  pub given_rows : (m k : ℕ) → margin_answer l.setting l.standing ≡ given m k →
      RowsAreRight (rows_read bytes l s) × (length (statement_text (account_rows l) m k) ≡ length (account_statement (account_of_rows (rows_read bytes l s))))
  given_rows m k q =
      let same = same_account (rows_read bytes l s) l (loaded_from bytes l s) in
      let parts = given_parts l.setting l.standing l.standing m k q in (
        right_where_faultless (rows_read bytes l s) none_turned_away (subst (λ (a : Account). Faultless a.setting a.standing) same parts.0),
        ap₂ (λ c n. length (statement_text (account_rows l) c n)) parts.1.0 parts.1.1 ∙ ap (λ (a : Account). length (account_statement a)) same,
      )

-- an account that is loaded is that of rows of which none is turned away
pub loaded_rows : (bytes : List ℕ) (l : Account) → account_of_sheets bytes ≡ Ok l → (rows : DeliveredRows bytes) × (NoneTurnedAway rows × (l ≡ account_of_rows rows))
loaded_rows bytes l e = let s = steps bytes l e in (rows_read bytes l s, (none_turned_away bytes l s, same_account (rows_read bytes l s) l (loaded_from bytes l s)))

pub nothing_wrong : (bytes : List ℕ) (buffer : ℕ) (text : List ℕ) → run bytes buffer ≡ Ok text → NothingWrong bytes buffer
nothing_wrong bytes buffer text e =
    let p = passed (ltb most_bytes (length bytes)) _ _ text e in
    let a = then_ok (account_of_sheets bytes) (account_outcome buffer) text p.1 in
    by_answer a.0 (steps bytes a.0 a.1.0) (ltb-false _ _ p.0) (margin_answer a.0.setting a.0.standing) refl a.1.1
  where
    by_answer : (l : Account) → Steps bytes l → length bytes ≤ 65536 → (x : Answer) → margin_answer l.setting l.standing ≡ x → outcome_by_answer buffer l x ≡ Ok text → NothingWrong bytes buffer
    by_answer l s short accepted q e = absurd (never_accepted l.setting l.standing l.standing q)
    by_answer l s short (refused n r) q e = cc
    by_answer l s short (given m k) q e =
        let g = given_rows bytes l s m k q in
        let long = g.1 in
        let fits = ltb-false _ _ (passed (ltb buffer (length (statement_text (account_rows l) m k))) _ _ text e).0 in
        record { short = short; rows = rows_read bytes l s; right = g.0; fits = omega (arith, long, fits) }

-- ---- the statement of rows that are right
pub stated : (bytes : List ℕ) (buffer : ℕ) (n : NothingWrong bytes buffer) → run bytes buffer ≡ Ok (account_statement (account_of_rows n.rows))
stated bytes buffer n =
    let l = account_of_rows n.rows in
    let given_is = ap (outcome_by_answer buffer l) (none_lacking l.setting l.standing l.standing (faultless n.rows n.right)) in
    let fitting : text_in_buffer buffer (account_statement l) ≡ Ok (account_statement l) = rw (le-ltb buffer (length (account_statement l)) n.fits) refl in
    let worked : sheets_outcome bytes buffer ≡ Ok (account_statement l) = then_from (account_of_sheets bytes) (account_outcome buffer) l _ (loads bytes n.rows n.right.taken) (given_is ∙ fitting) in
    rw (le-ltb most_bytes (length bytes) n.short) worked

pub accepted_law : (bytes : List ℕ) (buffer : ℕ) → IsOk (run bytes buffer) ↔ NothingWrong bytes buffer
accepted_law bytes buffer = (by_outcome (run bytes buffer) refl, λ n. ap is_ok (stated bytes buffer n))
  where
    by_outcome : (o : Outcome (List ℕ)) → run bytes buffer ≡ o → IsOk o → NothingWrong bytes buffer
    by_outcome (Ok text) e h = nothing_wrong bytes buffer text e
    by_outcome (Err r) e h = cc
