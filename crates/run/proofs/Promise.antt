-- The margin of a run is that of a book whose lines were entered one after another, so it keeps to what a margin does.
use Rattle.std.proofs.Common.{◌≡◌, ℕ, Bool, true, false, cond, ltb, eqb, List, [], ◌∷◌, length, Ok, Err, sym, refl, ◌∙◌, subst, arith, rules}
use Rattle.netting.specs.Rules.{Netting}
use Rattle.register.specs.Keys.{inserted_by}
use Rattle.curve.specs.declared.point.Point.{Point}
use Rattle.curve.specs.Curves.{Discounting}
use Rattle.curve.specs.Points.{reach_of}
use Rattle.curve.specs.Discounted.{steps_discounting, slopes_discounting}
use Rattle.account.specs.declared.line.Line.{Line}
use Rattle.account.specs.Settings.{Setting}
use Rattle.account.specs.Rows.{statement_rows}
use Rattle.account.specs.Calls.{Answer, accepted, refused, given, line_rank, lines_standing_from}
use Rattle.account.specs.Answers.{fault, answer_among, margin_answer}
use Rattle.account.specs.Joint.{MarginHolds}
use Rattle.account.proofs.History.{history_law}
use Rattle.statement.specs.Statements.{statement_text}
use Rattle.rows.specs.declared.mode.Mode.{Mode}
use Rattle.rows.specs.declared.mode.Mode.TheVariants.{Net, Gross}
use Rattle.rows.specs.declared.curve_shape.CurveShape.{CurveShape}
use Rattle.rows.specs.declared.curve_shape.CurveShape.TheVariants.{Step, Sloping}
use Rattle.run.specs.Refusals.{PlacedRefusal, Outcome, refusal_of_run}
use Rattle.run.specs.Runs.{most_bytes, most_lines, netting_rule, rate_by_shape, no_lines, Account, account_of_sheets, outcome_by_answer}
use Rattle.run.specs.Laws.{records_with, MarginLaw, IsStatementOf, RunStatementLaw}
use Rattle.run.proofs.Loaded.{then_ok, Steps, steps, entered, lines_kept, worked, lines_of, same_today}

pub nets : (mode : Mode) → Netting (netting_rule mode)
nets Net = search rules
nets Gross = search rules

rates : (shape : CurveShape) (ps : List Point) → Discounting (reach_of ps) (rate_by_shape shape ps)
rates Step ps = steps_discounting ps
rates Sloping ps = slopes_discounting ps

-- lines stand as they were put in
as_put : (before ls : List Line) → records_with line_rank before ls ≡ lines_standing_from before (entered ls)
as_put before [] = refl
as_put before (l ∷ ls) = as_put (inserted_by line_rank l before) ls

margin_holds : (bytes : List ℕ) (l : Account) (s : Steps bytes l) → MarginHolds l.setting l.standing (margin_answer l.setting l.standing)
margin_holds bytes l s =
    let ls = lines_of bytes l s in
    let k = lines_kept (worked bytes l s) (no_lines s.today) s.pos.kept ls.0 (same_today bytes l s) ls.1.kept in
    let h = (history_law (worked bytes l s) most_lines (entered ls.0) (nets s.today.mode) (rates s.today.curve s.crv.kept.records) k.0).last_holds in
    subst (λ (x : Account). MarginHolds x.setting x.standing (margin_answer x.setting x.standing)) s.loads
    (subst (λ (xs : List Line). MarginHolds (worked bytes l s) xs (margin_answer (worked bytes l s) xs)) (sym (k.1 ∙ as_put [] ls.0)) h)

pub margin_law : MarginLaw
margin_law bytes l m k e a =
    let h = subst (MarginHolds l.setting l.standing) a (margin_holds bytes l (steps bytes l e)) in
    record { margin_is = h.0; amounts_are = h.1; within_cents = h.2 }

-- ---- a margin that is asked is given or refused
pub never_accepted : (s : Setting) (all ls : List Line) → answer_among s all ls ≡ accepted → ⊥
never_accepted s all [] e = let z : ◌≡◌ {A = ℕ} 0 1 = cc in omega arith
never_accepted s all (l ∷ ls) e = go (eqb (fault s l) 0) e (never_accepted s all ls)
  where
    go : (b : Bool) → cond b (answer_among s all ls) (refused (fault s l) l.reference) ≡ accepted → (answer_among s all ls ≡ accepted → ⊥) → ⊥
    go true e rest = rest e
    go false e rest = let z : ◌≡◌ {A = ℕ} 0 1 = cc in omega arith

unless : {X : Type 0} (t : Bool) (r : Outcome X) (e : PlacedRefusal) (y : X) → cond t (Err e) r ≡ Ok y → r ≡ Ok y
unless true r e y h = cc
unless false r e y h = h

pub statement_law : RunStatementLaw
statement_law bytes buffer text e =
    let a = then_ok (account_of_sheets bytes) (λ l. outcome_by_answer buffer l (margin_answer l.setting l.standing)) text (unless (ltb most_bytes (length bytes)) _ (refusal_of_run 14) text e) in
    by_answer a.0 a.1.0 (margin_answer a.0.setting a.0.standing) refl a.1.1
  where
    by_answer : (l : Account) → account_of_sheets bytes ≡ Ok l → (x : Answer) → margin_answer l.setting l.standing ≡ x → outcome_by_answer buffer l x ≡ Ok text → IsStatementOf bytes text
    by_answer l h accepted q e = absurd (never_accepted l.setting l.standing l.standing q)
    by_answer l h (refused n r) q e = cc
    by_answer l h (given m k) q e =
        let told = statement_text (statement_rows l.setting l.standing) m k in
        let fits : ◌≡◌ {A = Outcome (List ℕ)} (Ok told) (Ok text) = unless (ltb buffer (length told)) (Ok told) (refusal_of_run 14) text e in
        let same : told ≡ text = cc in
        record { account = l; account_is = h; cents = m; amounts = k; margin_is = margin_law bytes l m k h q; text_is = sym same }
