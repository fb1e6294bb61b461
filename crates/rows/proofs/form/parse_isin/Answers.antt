use Rattle.std.proofs.Common.{◌≡◌, ℕ, List, Some, Result, Ok, Err, IfSome, IsTrue, ap, sym, ◌∙◌}
use Rattle.std.specs.Result.{result_ok}
use Rattle.std.proofs.lemmas.Bool.{cond-true, cond-false}
use Rattle.quantities.specs.declared.isin.Isin.{Isin}
use Rattle.quantities.specs.declared.refusal.Refusal.{Refusal}
use Rattle.quantities.specs.RangeChecks.{numbers_of}
use Rattle.quantities.specs.Isins.{is_isin, isin_answer as isin_told}
use Rattle.quantities.proofs.Decided.{accepted, refused}
use Rattle.rows.specs.Forms.{isin_in}
use Rattle.rows.proofs.form.parse_isin.Goals as goal

holds : (cell : List ℕ) (r : Result Isin Refusal) → numbers_of (λ i. i.bytes) r ≡ isin_told cell → result_ok r ≡ isin_in cell
unfolding isin_in
holds cell (Ok i) e =
    let a = accepted _ _ _ _ e in
    ap (λ (bytes : List ℕ). Some (record { bytes = bytes })) a.1 ∙ sym (cond-true _ _ _ a.0)
holds cell (Err r) e = sym (cond-false _ _ _ (refused _ _ _ _ e).0)

fits : (cell : List ℕ) (r : Result Isin Refusal) → numbers_of (λ i. i.bytes) r ≡ isin_told cell → IfSome (result_ok r) (λ i. IsTrue (is_isin i.bytes))
fits cell (Ok i) e = let a = accepted _ _ _ _ e in (ap is_isin a.1 ∙ a.0)
fits cell (Err r) e = tt

pub returns-clause-is : goal.returns-clause-is
unfolding isin_in
returns-clause-is c = c.ok.ensures.value ∙ holds c.args.cell.now _ c.try_from.ensures

pub returns-clause-valid : goal.returns-clause-valid
returns-clause-valid c = rw c.ok.ensures.value (fits c.args.cell.now _ c.try_from.ensures)
