-- The search for the leftmost misfit, column by column.
use Rattle.std.proofs.Common.{◌≡◌, ℕ, ◌+◌, ◌<◌, ◌≤◌, Bool, true, false, List, [], ◌∷◌, length, get_or, drop, Option, Some, None, refl, sym, ap, ◌∙◌, arith}
use Rattle.std.specs.List.{list_all}
use Rattle.std.proofs.lemmas.Bool.{false≢true}
use Rattle.std.proofs.lemmas.List.{drop_more}
use Rattle.std.proofs.lemmas.Option.{none-some}
use Rattle.sheet.specs.Sheets.{least_place, leftmost}

-- the lesser of a place that was found and what the further columns give
abbrev pub least : Option ℕ → Option ℕ → Option ℕ
least None further = further
least (Some place) further = Some (least_place place further)

keeps : (left place : ℕ) (further : Option ℕ) → left ≤ place → least_place left (Some (least_place place further)) ≡ least_place left further
keeps left place None l = omega arith
keeps left place (Some q) l = omega arith

changes : (left place : ℕ) (further : Option ℕ) → place ≤ left → least_place left (Some (least_place place further)) ≡ least_place place further
changes left place None l = omega arith
changes left place (Some q) l = omega arith

module _ (fits : List Bool) (places : List ℕ) (i : ℕ) (d : Bool) (e : ℕ) (r : Option ℕ) (l : i < length fits) (m : i < length places) where
  abbrev further : Option ℕ
  further = leftmost (drop (i + 1) fits) (drop (i + 1) places)

  abbrev At : Option ℕ → ℕ → Type 0
  At found k = least found (leftmost (drop k fits) (drop k places)) ≡ r

  step : (found : Option ℕ) (b : Bool) → b ≡ get_or fits i d → least found (leftmost (drop i fits) (drop i places)) ≡ least found (leftmost (b ∷ drop (i + 1) fits) (get_or places i e ∷ drop (i + 1) places))
  step found b h = rw (drop_more fits i d l, drop_more places i e m, ← h) refl

  pub fits_here : (found : Option ℕ) → true ≡ get_or fits i d → At found i → At found (i + 1)
  fits_here found h a = sym (step found true h) ∙ a

  pub first_misfit : false ≡ get_or fits i d → At None i → At (Some (get_or places i e)) (i + 1)
  first_misfit h a = sym (step None false h) ∙ a

  pub right_of : (left : ℕ) → false ≡ get_or fits i d → left ≤ get_or places i e → At (Some left) i → At (Some left) (i + 1)
  right_of left h o a = sym (step (Some left) false h ∙ ap Some (keeps left _ further o)) ∙ a

  pub left_of : (left : ℕ) → false ≡ get_or fits i d → get_or places i e ≤ left → At (Some left) i → At (Some (get_or places i e)) (i + 1)
  left_of left h o a = sym (step (Some left) false h ∙ ap Some (changes left _ further o)) ∙ a

pub all_fit : (fits : List Bool) (places : List ℕ) → list_all (λ f. f) fits ≡ true → leftmost fits places ≡ None
all_fit [] places e = refl
all_fit (f ∷ fs) [] e = refl
all_fit (true ∷ fs) (p ∷ ps) e = all_fit fs ps e
all_fit (false ∷ fs) (p ∷ ps) e = absurd (false≢true e)

pub none_misfits : (fits : List Bool) (places : List ℕ) → length fits ≤ length places → leftmost fits places ≡ None → list_all (λ f. f) fits ≡ true
none_misfits [] places l e = refl
none_misfits (f ∷ fs) [] l e = absurd (omega arith)
none_misfits (true ∷ fs) (p ∷ ps) l e = none_misfits fs ps (omega arith) e
none_misfits (false ∷ fs) (p ∷ ps) l e = absurd (none-some _ (sym e))
