-- The first part, by the place of the first separator.
use Rattle.std.proofs.Common.{◌≡◌, ℕ, ◌+◌, ◌-◌, ◌<◌, eqb, List, [], ◌∷◌, length, take, drop, ◌≤◌, Some, None, refl, ap, ◌∙◌, arith}
use Rattle.std.specs.List.{position, position_or_len}
use Rattle.std.proofs.lemmas.Bool.{ltb-true}
use Rattle.std.proofs.lemmas.List.{take_rest}
use Rattle.std.proofs.lemmas.List.Splits.{slice_split_first, slice_split_none, length-slice_split}
use Rattle.std.proofs.lemmas.List.Sums.{fails_before_first}
use Rattle.std.proofs.lemmas.Option.{cond_some}
use Rattle.std.proofs.lemmas.Bool.Decides.{nat_tests}
use Rattle.text.specs.Parts.{parts, all_but_last, last}
use Rattle.text.specs.Lines.{lines, loose}

-- the right side is written as `&bs[i + 1..]` is
pub first_ends : (s : ℕ) (bs : List ℕ) (i : ℕ) → position (λ b. eqb b s) bs ≡ Some i → parts s bs ≡ take i bs ∷ parts s (take (length bs - (i + 1)) (drop (i + 1) bs))
first_ends s bs i e =
    let c = cond_some _ _ i e in
    let l = ltb-true _ _ c.0 in
    rw (take_rest, ← c.1) (slice_split_first (λ b. eqb b s) bs 0 l)

none_before : (s : ℕ) (bs : List ℕ) → position (λ b. eqb b s) bs ≡ None → length bs ≤ position_or_len (λ b. eqb b s) bs
none_before s bs e = grind (arith, nat_tests)

pub only_one : (s : ℕ) (bs : List ℕ) → position (λ b. eqb b s) bs ≡ None → parts s bs ≡ bs ∷ []
only_one s bs e =
    slice_split_none (λ b. eqb b s) bs (λ k d h. fails_before_first (λ b. eqb b s) bs k d (omega (arith, none_before s bs e)))

pub some_part : (s : ℕ) (bs : List ℕ) → 0 < length (parts s bs)
some_part s bs = omega (arith, length-slice_split (λ b. eqb b s) bs)

before_more : (x : List ℕ) (ps : List (List ℕ)) → 0 < length ps → (all_but_last (x ∷ ps) ≡ x ∷ all_but_last ps) × (last (x ∷ ps) ≡ last ps)
before_more x [] h = absurd (omega arith)
before_more x (p ∷ ps) h = (refl, refl)

-- a part before other parts of a text is a line
pub line_more : (text l rest : List ℕ) → parts 10 text ≡ l ∷ parts 10 rest → (lines text ≡ l ∷ lines rest) × (loose text ≡ loose rest)
line_more text l rest e =
    let m = before_more l (parts 10 rest) (some_part 10 rest) in
    (ap all_but_last e ∙ m.0, ap last e ∙ m.1)
