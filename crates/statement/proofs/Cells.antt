-- Cells and lines are told apart by the bytes that end them.
use Rattle.std.proofs.Common.{◌≡◌, ◌≢◌, ℕ, suc, ◌+◌, ◌%◌, ◌^◌, ◌<◌, ◌⊎◌, List, [], ◌∷◌, ◌++◌, ℤ, pos, negsuc, refl, inl, inr, sym, ◌∙◌, arith, append_assoc}
use Rattle.std.proofs.lemmas.Fmt.{decimal_by_steps}
use Rattle.std.specs.Fmt.{decimal, signed_decimal}
use Rattle.std.specs.Prelude.{codes, FitsSigned}
use Rattle.std.specs.Int.{w64}
use Rattle.statement.specs.Statements.{line_text}
use Rattle.statement.specs.Laws.{IsCell}

-- a byte that ends a cell
abbrev EndsCell : ℕ → Type 0
EndsCell e = (e ≡ 59) ⊎ (e ≡ 10)

ends_no_cell : {A : Type 0} (e b : ℕ) → EndsCell e → (b ≢ 59) × (b ≢ 10) → e ≡ b → A
ends_no_cell e b (inl k) p h = absurd (p.0 (sym h ∙ k))
ends_no_cell e b (inr k) p h = absurd (p.1 (sym h ∙ k))

-- of texts that begin with a cell, the cell, what ends it and what follows
cell_first : (a b x y : List ℕ) (d e : ℕ) → IsCell a → IsCell b → EndsCell d → EndsCell e → a ++ (d ∷ x) ≡ b ++ (e ∷ y) → (a ≡ b) × ((d ≡ e) × (x ≡ y))
cell_first [] [] x y d e p q s t h = (refl, (cc, cc))
cell_first [] (b ∷ bs) x y d e p q s t h = ends_no_cell d b s q.0 (cc)
cell_first (a ∷ c) [] x y d e p q s t h = ends_no_cell e a t p.0 (cc)
cell_first (a ∷ c) (b ∷ bs) x y d e p q s t h =
    let r = cell_first c bs x y d e p.1 q.1 s t (cc) in
    let k : c ≡ bs = r.0 in
    (cc, r.1)

-- each of a list is a cell
abbrev pub EachCell : List (List ℕ) → Type 0
EachCell [] = Unit {0}
EachCell (c ∷ cs) = IsCell c × EachCell cs

-- of texts that begin with a line, its cells and what follows
pub line_first : (c d : List ℕ) (cs ds : List (List ℕ)) (x y : List ℕ) → EachCell (c ∷ cs) → EachCell (d ∷ ds) → line_text (c ∷ cs) ++ x ≡ line_text (d ∷ ds) ++ y → ((c ∷ cs) ≡ (d ∷ ds)) × (x ≡ y)
line_first c d [] [] x y p q h =
    let r = cell_first c d x y 10 10 p.0 q.0 (inr refl) (inr refl) (sym (append_assoc c (codes "\n") x) ∙ (h ∙ append_assoc d (codes "\n") y)) in
    let k : c ≡ d = r.0 in
    (cc, r.1.1)
line_first c d [] (e ∷ es) x y p q h =
    let r = cell_first c d x (line_text (e ∷ es) ++ y) 10 59 p.0 q.0 (inr refl) (inl refl) (sym (append_assoc c (codes "\n") x) ∙ (h ∙ append_assoc d (59 ∷ line_text (e ∷ es)) y)) in
    absurd (omega (arith, r.1.0))
line_first c d (b ∷ bs) [] x y p q h =
    let r = cell_first c d (line_text (b ∷ bs) ++ x) y 59 10 p.0 q.0 (inl refl) (inr refl) (sym (append_assoc c (59 ∷ line_text (b ∷ bs)) x) ∙ (h ∙ append_assoc d (codes "\n") y)) in
    absurd (omega (arith, r.1.0))
line_first c d (b ∷ bs) (e ∷ es) x y p q h =
    let r = cell_first c d (line_text (b ∷ bs) ++ x) (line_text (e ∷ es) ++ y) 59 59 p.0 q.0 (inl refl) (inl refl) (sym (append_assoc c (59 ∷ line_text (b ∷ bs)) x) ∙ (h ∙ append_assoc d (59 ∷ line_text (e ∷ es)) y)) in
    let rest = line_first b e bs es x y p.1 q.1 r.1.1 in
    let k : c ≡ d = r.0 in
    let l : (b ∷ bs) ≡ (e ∷ es) = rest.0 in
    (cc, rest.1)

-- numbers are cells
cells_joined : (a b : List ℕ) → IsCell a → IsCell b → IsCell (a ++ b)
cells_joined [] b p q = q
cells_joined (x ∷ a) b p q = (p.0, cells_joined a b p.1 q)

digit_is_cell : (d : ℕ) → d < 10 → IsCell ((48 + d) ∷ [])
digit_is_cell d h = ((omega arith, omega arith), tt)

pub decimal_is_cell : (n : ℕ) → n < 2 ^ 64 → IsCell (decimal n)
decimal_is_cell n h =
    decimal_by_steps (λ n ds. IsCell ds) (λ n k. digit_is_cell n k) (λ n ds k p. cells_joined ds ((48 + n % 10) ∷ []) p (digit_is_cell (n % 10) (omega arith))) n h

pub signed_is_cell : (z : ℤ) → FitsSigned w64 z → IsCell (signed_decimal z)
signed_is_cell (pos n) h = decimal_is_cell n (omega (arith, h.sfits))
signed_is_cell (negsuc n) h = ((omega arith, omega arith), decimal_is_cell (suc n) (omega (arith, h.sfits)))
