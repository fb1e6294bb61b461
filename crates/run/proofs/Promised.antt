-- The promise of a run, from its answer.
use Rattle.std.proofs.Common.{◌≡◌, ◌↔◌, ℕ, ◌≤◌, List, length, take, drop, Ok, Err, Result, is_ok, IsOk, IfOk, IfErr, refl, sym, ap, ◌∙◌, subst}
use Rattle.std.proofs.lemmas.Bool.{false≢true}
use Rattle.std.proofs.Math.Seq.{take-append_seam}
use Rattle.run.specs.Accepted.{NothingWrong, TooLongOnly}
use Rattle.run.specs.declared.refusal.RunRefusal.{RunRefusal}
use Rattle.run.specs.Refusals.{PlacedRefusal, Outcome, placed_refusal}
use Rattle.run.specs.Runs.{run}
use Rattle.run.specs.Answers.{WritesText}
use Rattle.run.specs.Laws.{PromisedStatement}
use Rattle.run.specs.Causes.{IsTheRefusal, RefusedByCause}
use Rattle.run.proofs.Accepting.{accepted_law}
use Rattle.run.proofs.Room.{bounded, too_long_only}
use Rattle.run.proofs.Loaded.{rows_law}
use Rattle.run.proofs.Promise.{statement_law}
use Rattle.run.proofs.Spelled.{sheets_spell_law}
use Rattle.run.proofs.Layers.{refusals_law}
use Rattle.run.proofs.Causes.{same_err, run_refused, run_by_cause}

of_text : (bytes : List ℕ) (buffer : ℕ) (text : List ℕ) → run bytes buffer ≡ Ok text → PromisedStatement bytes text
of_text bytes buffer text e =
    let s = statement_law bytes buffer text e in
    let r = rows_law bytes s.account s.account_is in
    record { statement = s; rows = r.0; from = r.1; spelled = sheets_spell_law bytes s.account s.account_is }

pub promised : (bytes before : List ℕ) (r : Result ℕ RunRefusal) (after : List ℕ) → WritesText (run bytes (length before)) r before after → IfOk r (λ n. PromisedStatement bytes (take n after))
promised bytes before (Err e) after ran = tt
promised bytes before (Ok n) after ran = go (run bytes (length before)) refl ran
  where
    go : (o : Outcome (List ℕ)) → run bytes (length before) ≡ o → WritesText o (Ok n) before after → PromisedStatement bytes (take n after)
    go (Ok text) e w = rw (w.0, w.1, take-append_seam text (drop (length text) before)) (of_text bytes (length before) text e)
    go (Err x) e w = absurd w

by_cause : (bytes : List ℕ) (buffer : ℕ) (e : PlacedRefusal) → run bytes buffer ≡ Err e → IsTheRefusal bytes buffer e
by_cause bytes buffer e h = record {
  layer = refusals_law bytes buffer e h;
  cause = run_refused bytes buffer e h;
  no_other = λ d c. same_err (sym (run_by_cause bytes buffer d c) ∙ h);
}

pub refused_by_cause : (bytes before : List ℕ) (r : Result ℕ RunRefusal) (after : List ℕ) → WritesText (run bytes (length before)) r before after → RefusedByCause bytes (length before) r
refused_by_cause bytes before (Ok n) after ran = λ e c. let q = run_by_cause bytes (length before) e c in rw q at ran
refused_by_cause bytes before (Err e) after ran = go (run bytes (length before)) refl ran
  where
    go : (o : Outcome (List ℕ)) → run bytes (length before) ≡ o → WritesText o (Err e) before after → IsTheRefusal bytes (length before) (placed_refusal e)
    go (Ok text) d w = absurd w
    go (Err x) d w = subst (IsTheRefusal bytes (length before)) (sym w.0) (by_cause bytes (length before) x d)

pub accepts : (bytes before : List ℕ) (r : Result ℕ RunRefusal) (after : List ℕ) → WritesText (run bytes (length before)) r before after → IsOk r ↔ NothingWrong bytes (length before)
accepts bytes before r after ran = go (run bytes (length before)) refl r ran
  where
    go : (o : Outcome (List ℕ)) → run bytes (length before) ≡ o → (r : Result ℕ RunRefusal) → WritesText o r before after → IsOk r ↔ NothingWrong bytes (length before)
    go (Ok text) e (Ok n) w = (λ h. (accepted_law bytes (length before)).0 (ap is_ok e), λ right. refl)
    go (Ok text) e (Err d) w = absurd w
    go (Err d) e (Ok n) w = absurd w
    go (Err d) e (Err r) w = (λ h. absurd (false≢true h), λ right. sym (ap is_ok e) ∙ (accepted_law bytes (length before)).1 right)

pub bounds : (bytes before : List ℕ) (r : Result ℕ RunRefusal) (after : List ℕ) → WritesText (run bytes (length before)) r before after → IfOk r (λ n. (1 ≤ n) × (n ≤ 65536))
bounds bytes before (Err e) after ran = tt
bounds bytes before (Ok n) after ran = go (run bytes (length before)) refl ran
  where
    go : (o : Outcome (List ℕ)) → run bytes (length before) ≡ o → WritesText o (Ok n) before after → (1 ≤ n) × (n ≤ 65536)
    go (Ok text) e w = rw w.0 (bounded bytes (length before) text e)
    go (Err x) e w = absurd w

pub too_long : (bytes before : List ℕ) (r : Result ℕ RunRefusal) (after : List ℕ) → WritesText (run bytes (length before)) r before after → IfErr r (λ e. TooLongOnly bytes (length before) (placed_refusal e))
too_long bytes before (Ok n) after ran = tt
too_long bytes before (Err e) after ran = go (run bytes (length before)) refl ran
  where
    go : (o : Outcome (List ℕ)) → run bytes (length before) ≡ o → WritesText o (Err e) before after → TooLongOnly bytes (length before) (placed_refusal e)
    go (Ok text) d w = absurd w
    go (Err x) d w = λ whole. too_long_only bytes (length before) (d ∙ ap Err (sym w.0 ∙ whole))
