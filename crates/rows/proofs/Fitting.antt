-- Cells fit and make a row just where they are its spelling.
use Rattle.std.proofs.Common.{◌≡◌, ℕ, zero, suc, ◌+◌, Bool, true, List, [], ◌∷◌, length, Some, refl, sym, ap, ap₂, ◌∙◌, arith}
use Rattle.std.specs.List.{list_all}
use Rattle.std.proofs.lemmas.Bool.{cond-true}
use Rattle.std.proofs.lemmas.Grind.{get_or_tail}
use Rattle.std.proofs.lemmas.Option.{cond_some}
use Rattle.text.specs.Cells.{Cell}
use Rattle.sheet.specs.Kinds.{SheetKind, cell_at, fitting_row}
use Rattle.rows.specs.Forms.{Spelling, cells_of}
use Rattle.rows.specs.Laws.{first_cells, OneSpelling}

same_first : (n : ℕ) (f g : ℕ → Cell) → ((i : ℕ) → f i ≡ g i) → first_cells n f ≡ first_cells n g
same_first zero f g h = refl
same_first (suc n) f g h = ap₂ (λ x xs. x ∷ xs) (h 0) (same_first n (λ i. f (i + 1)) (λ i. g (i + 1)) (λ i. h (i + 1)))

all_first : (cs : List Cell) → first_cells (length cs) (cell_at cs) ≡ cs
all_first [] = refl
all_first (c ∷ cs) =
    let behind : (i : ℕ) → cell_at (c ∷ cs) (i + 1) ≡ cell_at cs i = λ i. get_or_tail c cs (i + 1) [] (omega arith) ∙ ap (cell_at cs) (omega arith) in
    ap (λ xs. c ∷ xs) (same_first (length cs) (λ i. cell_at (c ∷ cs) (i + 1)) (cell_at cs) behind ∙ all_first cs)

pub spelled : {Row : Type 0} {kind : SheetKind Row} {in_range : Row → Bool} {spelling : Row → Spelling} → OneSpelling kind in_range spelling →
    (cs : List Cell) (row : Row) → length cs ≡ length kind.needed → fitting_row kind (cell_at cs) ≡ Some row → (cs ≡ cells_of (spelling row)) × (in_range row ≡ true)
spelled {kind = kind} {in_range = in_range} {spelling = spelling} law cs row long makes =
    let c = cond_some (list_all (λ f. f) (kind.fits (cell_at cs))) (kind.row (cell_at cs)) row makes in
    let r = law.read (cell_at cs) c.0 in
    (sym (all_first cs) ∙ (ap (λ n. first_cells n (cell_at cs)) long ∙ (sym r.0 ∙ ap (λ r. cells_of (spelling r)) c.1)), ap in_range (sym c.1) ∙ r.1)

pub makes : {Row : Type 0} {kind : SheetKind Row} {in_range : Row → Bool} {spelling : Row → Spelling} → OneSpelling kind in_range spelling →
    (cs : List Cell) (row : Row) → in_range row ≡ true → cs ≡ cells_of (spelling row) → fitting_row kind (cell_at cs) ≡ Some row
makes {kind = kind} law cs row within e = let s = law.spelled row within in ap (λ x. fitting_row kind (cell_at x)) e ∙ (cond-true _ _ _ s.0 ∙ ap Some s.1)
