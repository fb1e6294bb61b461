use Rattle.std.proofs.Common.{◌≡◌, ℕ, List, Ok, Err, Result, MatchResult, IsErrAnd, sym, subst, ap, ◌∙◌}
use Rattle.std.specs.Array.{IsWholeChunk}
use Rattle.std.proofs.lemmas.Bool.{cond-false}
use Rattle.quantities.specs.Isins.{is_isin}
use Rattle.quantities.proofs.isin.IsinTryFromRefSliceU8.try_from.Goals as goal

-- the array that a cell was read as, where the reading is mapped to s, holds the cell
copied : {E D : Type 0} (F : E → D → Type 0) (Q : E → Type 0) (cell bytes : List ℕ) (n : ℕ) (r : Result (List ℕ) E) (s : Result (List ℕ) D) →
    MatchResult r (λ y. IsWholeChunk cell y n) Q → MatchResult r (λ x. s ≡ Ok x) (λ e. IsErrAnd s (F e)) → s ≡ Ok bytes → bytes ≡ cell
copied F Q cell bytes n (Ok y) s h k e = let q : bytes ≡ y = cc in q ∙ h.same
copied {D = D} F Q cell bytes n (Err x) s h k e = let P : Result (List ℕ) D → Type 0 = λ t. IsErrAnd t (F x) in absurd (subst P e k)

pub returns-else-is_valid : goal.returns-else-is_valid
returns-else-is_valid c =
    let same = copied _ _ c.args.cell.now c.in_ok-bytes.bytes _ _ _ c.try_from.ensures.1 c.map_err.ensures.cases c.in_ok-bytes.was in
    sym (cond-false _ _ _ (ap is_isin (sym same) ∙ sym c.if-is_valid.ensures))
