-- Where no line is left and nothing loose, no byte is.
use Rattle.std.proofs.Common.{◌≡◌, ℕ, ◌<◌, Bool, true, false, cond, eqb, ◌&&◌, List, [], ◌∷◌, length, refl, sym, ap, ◌∙◌, arith}
use Rattle.std.specs.List.{onto_first}
use Rattle.std.proofs.lemmas.Bool.Decides.{nat_tests}
use Rattle.std.proofs.lemmas.List.Splits.{length-slice_split}
use Rattle.text.specs.Parts.{parts, all_but_last, last}
use Rattle.text.specs.Lines.{lines, loose}

some : {X : Type 0} (b : X) (bs : List X) → false ≡ eqb (length (b ∷ bs)) 0
some b bs = grind (arith, nat_tests)

some_line : (l : List ℕ) (ls : List (List ℕ)) (b : Bool) → false ≡ (eqb (length (l ∷ ls)) 0 && b)
some_line l ls b = ap (λ t. t && b) (some l ls)

some_left : (b : ℕ) (ends : Bool) (ps : List (List ℕ)) → 0 < length ps → let qs = cond ends ([] ∷ ps) (onto_first b ps) in false ≡ (eqb (length (all_but_last qs)) 0 && eqb (length (last qs)) 0)
some_left b ends [] h = absurd (omega arith)
some_left b true (p ∷ ps) h = some_line [] (all_but_last (p ∷ ps)) _
some_left b false (p ∷ []) h = some b p
some_left b false (p ∷ (q ∷ qs)) h = some_line (b ∷ p) (all_but_last (q ∷ qs)) _

pub nothing_left : (bs : List ℕ) → eqb (length bs) 0 ≡ (eqb (length (lines bs)) 0 && eqb (length (loose bs)) 0)
nothing_left [] = refl
nothing_left (b ∷ bs) = sym (some b bs) ∙ some_left b (eqb b 10) (parts 10 bs) (omega (arith, length-slice_split (λ c. eqb c 10) bs))
