-- The search for a name among names, one by one.
use Rattle.std.proofs.Common.{◌≡◌, ℕ, ◌+◌, ◌<◌, true, false, cond, eqb, not, List, ◌∷◌, length, get_or, drop, Option, Some, None, Bor, sym, ◌∙◌, arith}
use Rattle.std.specs.Str.{bytes_eq}
use Rattle.std.proofs.lemmas.Bool.{not-true, not-false}
use Rattle.std.proofs.lemmas.Bool.Decides.{nat_tests}
use Rattle.std.proofs.lemmas.List.{at_drop_more}
use Rattle.text.specs.Cells.{Cell}
use Rattle.sheet.specs.Columns.{texts}
use Rattle.sheet.specs.Sheets.{count_of, place_of}

-- what the names from number i on make of the place that was found before
abbrev pub onwards : Cell → Option ℕ → ℕ → List Cell → Option ℕ
onwards name (Some place) i names = cond (eqb (count_of name names) 0) (Some place) None
onwards name None i names = cond (eqb (count_of name names) 1) (Some (i + place_of name names)) None

another : (name c : Cell) (cs : List Cell) (i : ℕ) (found : Option ℕ) → bytes_eq name c ≡ false → onwards name found i (c ∷ cs) ≡ onwards name found (i + 1) cs
another name c cs i (Some place) e = rw e (grind (arith, nat_tests))
another name c cs i None e = rw e (grind (arith, nat_tests))

first : (name c : Cell) (cs : List Cell) (i : ℕ) → bytes_eq name c ≡ true → onwards name None i (c ∷ cs) ≡ onwards name (Some i) (i + 1) cs
first name c cs i e = rw e (grind (arith, nat_tests))

again : (name c : Cell) (cs : List Cell) (i place : ℕ) → bytes_eq name c ≡ true → onwards name (Some place) i (c ∷ cs) ≡ None
again name c cs i place e = rw e (grind (arith, nat_tests))

module _ (name : Cell) (names : List (Bor Cell)) (i : ℕ) (d : Bor Cell) (r : Option ℕ) (l : i < length names) where
  abbrev At : Option ℕ → ℕ → Type 0
  At found k = onwards name found k (texts (drop k names)) ≡ r

  step : (found : Option ℕ) → onwards name found i (texts (drop i names)) ≡ onwards name found i ((get_or names i d).now ∷ texts (drop (i + 1) names))
  step found = at_drop_more (λ ns. onwards name found i (texts ns)) names i d l

  pub passed : (found : Option ℕ) → At found i → true ≡ not (bytes_eq name (get_or names i d).now) → At found (i + 1)
  passed found h e = sym (step found ∙ another name _ _ i found (not-true _ (sym e))) ∙ h

  pub noted : At None i → false ≡ not (bytes_eq name (get_or names i d).now) → At (Some i) (i + 1)
  noted h e = sym (step None ∙ first name _ _ i (not-false _ (sym e))) ∙ h

  pub twice : (place : ℕ) → At (Some place) i → false ≡ not (bytes_eq name (get_or names i d).now) → None ≡ r
  twice place h e = sym (step (Some place) ∙ again name _ _ i place (not-false _ (sym e))) ∙ h
