-- The row of a block: where there are lines, and by the name of the block.
use Rattle.std.proofs.Common.{◌≡◌, ℕ, ◌≤◌, Bool, true, false, cond, ◌||◌, List, [], ◌∷◌, length, ltb, refl, ap, ◌∙◌, subst, arith}
use Rattle.std.proofs.lemmas.Bool.{lt-ltb}
use Rattle.quantities.specs.declared.isin.Isin.{Isin}
use Rattle.netting.specs.Rules.{both_sides}
use Rattle.account.specs.declared.line.Line.{Line}
use Rattle.account.specs.declared.row.Row.{Row}
use Rattle.account.specs.declared.scope.Scope.{Scope}
use Rattle.account.specs.declared.scope.Scope.TheVariants.{FailedLines, HeldLines}
use Rattle.account.specs.Lines.{is_in_block, keep, any}
use Rattle.account.specs.declared.block_name.BlockName.{BlockName}
use Rattle.account.specs.declared.block_name.BlockName.TheVariants.{Failed as failed, Held as held}
use Rattle.account.specs.Settings.{Setting}
use Rattle.account.specs.Rows.{row, block_row, if_any}
use Rattle.valuation.specs.declared.line_sums.LineSums.{LineSums}
use Rattle.valuation.specs.LineSums.{IsSumOf}
use Rattle.valuation.specs.Scopes.{whole_scope, row_lines}
use Rattle.valuation.proofs.Scopes.{lines_failed, lines_held, lines_of_block}

-- ---- whether there are lines
pub any_some : (p : Line → Bool) (ls : List Line) → true ≡ any p ls → 1 ≤ length (keep p ls)
any_some p [] e = let z : ◌≡◌ {A = ℕ} 0 1 = cc in absurd (omega arith)
any_some p (l ∷ ls) e = go (p l) (any_some p ls) e
  where
    go : (b : Bool) → (true ≡ any p ls → 1 ≤ length (keep p ls)) → true ≡ (b || any p ls) → 1 ≤ length (cond b (l ∷ keep p ls) (keep p ls))
    go true h e = omega arith
    go false h e = h e

pub row_there : (p : Line → Bool) (ls : List Line) {r x : Row} → true ≡ any p ls → r ≡ x → r ∷ [] ≡ if_any (keep p ls) x
row_there p ls {r} {x} e d = go (keep p ls) (any_some p ls e)
  where
    go : (ms : List Line) → 1 ≤ length ms → r ∷ [] ≡ if_any ms x
    go [] h = absurd (omega arith)
    go (l ∷ ms) h = ap (λ y. y ∷ []) d

pub row_missing : (p : Line → Bool) (ls : List Line) (x : Row) → false ≡ any p ls → [] ≡ if_any (keep p ls) x
row_missing p [] x e = refl
row_missing p (l ∷ ls) x e = go (p l) (row_missing p ls x) e
  where
    go : (b : Bool) → (false ≡ any p ls → [] ≡ if_any (keep p ls) x) → false ≡ (b || any p ls) → [] ≡ if_any (cond b (l ∷ keep p ls) (keep p ls)) x
    go true h e = let z : ◌≡◌ {A = ℕ} 0 1 = cc in absurd (omega arith)
    go false h e = h e

any_count : (p : Line → Bool) (ls : List Line) → ltb 0 (length (keep p ls)) ≡ any p ls
any_count p [] = refl
any_count p (l ∷ ls) = go (p l) (any_count p ls)
  where
    go : (b : Bool) → ltb 0 (length (keep p ls)) ≡ any p ls → ltb 0 (length (cond b (l ∷ keep p ls) (keep p ls))) ≡ (b || any p ls)
    go true h = lt-ltb _ _ (omega arith)
    go false h = h

pub some_lines : (s : Setting) (i : Isin) (k : BlockName) (ls : List Line) {scope : Scope} {p : LineSums} → scope ≡ whole_scope k → IsSumOf s (row_lines s i scope ls) p → ltb 0 p.lines ≡ any (is_in_block i k) ls
some_lines s i k ls e h = ap (ltb 0) (h.lines ∙ ap (λ c. length (row_lines s i c ls)) e ∙ ap length (lines_of_block s i k ls)) ∙ any_count (is_in_block i k) ls

-- ---- by the name of the block
pub failed_is : (s : Setting) (i : Isin) (ls : List Line) {r : Row} → r ≡ row s both_sides i FailedLines (row_lines s i FailedLines ls) → r ≡ block_row s i failed (keep (is_in_block i failed) ls)
failed_is s i ls e = e ∙ ap (row s both_sides i FailedLines) (lines_failed s i ls)

pub held_is : (s : Setting) (i : Isin) (ls : List Line) {r : Row} → r ≡ row s both_sides i HeldLines (row_lines s i HeldLines ls) → r ≡ block_row s i held (keep (is_in_block i held) ls)
held_is s i ls e = e ∙ ap (row s both_sides i HeldLines) (lines_held s i ls)

pub block_is : (s : Setting) (i : Isin) (ls : List Line) {r : Row} {a b : BlockName} → a ≡ b → r ≡ block_row s i a (keep (is_in_block i a) ls) → r ≡ block_row s i b (keep (is_in_block i b) ls)
block_is s i ls {r} e h = subst (λ k. r ≡ block_row s i k (keep (is_in_block i k) ls)) e h
