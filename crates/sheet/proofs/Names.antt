-- Where needed names stand, and the cells under them.
use Rattle.std.proofs.Common.{◌≡◌, ℕ, zero, suc, ◌+◌, ◌-◌, ◌<◌, ◌≤◌, Bool, true, false, cond, eqb, leb, List, [], ◌∷◌, length, refl, sym, ap, ◌∙◌, arith}
use Rattle.std.specs.Str.{bytes_eq}
use Rattle.std.proofs.lemmas.Bool.{and_parts, eqb-true, false≢true}
use Rattle.std.proofs.lemmas.List.{get_or-map, length-map}
use Rattle.std.proofs.lemmas.Grind.{get_or_tail}
use Rattle.std.proofs.lemmas.Slice.Eq.{bytes_eq-Decides}
use Rattle.text.specs.Cells.{Cell}
use Rattle.sheet.specs.Kinds.{cell_at}
use Rattle.sheet.specs.Sheets.{count_of, place_of, are_named, are_columns, places_of}
use Rattle.sheet.specs.Laws.{EachNameStands, ReadByName}

pub once : (needed names : List Cell) (i : ℕ) → are_named needed names ≡ true → i < length needed → count_of (cell_at needed i) names ≡ 1
once [] names i e l = absurd (omega arith)
once (n ∷ ns) names zero e l = eqb-true _ _ (and_parts (eqb (count_of n names) 1) (are_named ns names) e).0
once (n ∷ ns) names (suc i) e l = once ns names i (and_parts (eqb (count_of n names) 1) (are_named ns names) e).1 (omega arith)

module _ (name n : Cell) where
  is : bytes_eq name n ≡ true → n ≡ name
  is t = sym ((bytes_eq-Decides name n).0 t)

  is_not : {X : Type 0} → bytes_eq name n ≡ false → n ≡ name → X
  is_not t e = absurd (false≢true (sym t ∙ (bytes_eq-Decides name n).1 (sym e)))

-- a name that stands at a place stands at least once
some_times : (name : Cell) (names : List Cell) (p : ℕ) → p < length names → cell_at names p ≡ name → 1 ≤ count_of name names
some_times name [] p l e = absurd (omega arith)
some_times name (n ∷ names) p l e = further (bytes_eq name n) p refl l e (some_times name names)
  where
    further : (b : Bool) (q : ℕ) → bytes_eq name n ≡ b → q < length (n ∷ names) → cell_at (n ∷ names) q ≡ name → ((k : ℕ) → k < length names → cell_at names k ≡ name → 1 ≤ count_of name names) → 1 ≤ cond b (1 + count_of name names) (count_of name names)
    further true q t l e rest = omega arith
    further false zero t l e rest = is_not name n t e
    further false (suc q) t l e rest = rest q (omega arith) e

-- a name that stands once stands at its place
pub stands : (name : Cell) (names : List Cell) → count_of name names ≡ 1 → (place_of name names < length names) × (cell_at names (place_of name names) ≡ name)
stands name [] e = absurd (omega arith)
stands name (n ∷ names) e = further (bytes_eq name n) refl e (stands name names)
  where
    further : (b : Bool) → bytes_eq name n ≡ b → cond b (1 + count_of name names) (count_of name names) ≡ 1 → (count_of name names ≡ 1 → (place_of name names < length names) × (cell_at names (place_of name names) ≡ name)) → let p = cond b 0 (1 + place_of name names) in (p < length (n ∷ names)) × (cell_at (n ∷ names) p ≡ name)
    further true t e rest = (omega arith, is name n t)
    further false t e rest =
        let s = rest e in
        let at : (1 + place_of name names) - 1 ≡ place_of name names = omega arith in
        (omega arith, get_or_tail n names (1 + place_of name names) [] (omega arith) ∙ (ap (cell_at names) at ∙ s.1))

-- and nowhere else
pub nowhere_else : (name : Cell) (names : List Cell) (p : ℕ) → count_of name names ≡ 1 → p < length names → cell_at names p ≡ name → place_of name names ≡ p
nowhere_else name [] p o l e = absurd (omega arith)
nowhere_else name (n ∷ names) p o l e =
    further (bytes_eq name n) p refl o l e (nowhere_else name names)
  where
    further : (b : Bool) (q : ℕ) → bytes_eq name n ≡ b → cond b (1 + count_of name names) (count_of name names) ≡ 1 → q < length (n ∷ names) → cell_at (n ∷ names) q ≡ name → ((k : ℕ) → count_of name names ≡ 1 → k < length names → cell_at names k ≡ name → place_of name names ≡ k) → cond b 0 (1 + place_of name names) ≡ q
    further true zero t o l e rest = refl
    further true (suc q) t o l e rest =
        let more : 1 ≤ count_of name names = some_times name names q (omega arith) e in
        absurd (omega arith)
    further false zero t o l e rest = is_not name n t e
    further false (suc q) t o l e rest = let r = rest q o (omega arith) e in omega (arith, r)

named : (needed names : List Cell) → are_columns needed names ≡ true → are_named needed names ≡ true
named needed names e = (and_parts (leb (length names) 32) (are_named needed names) e).1

pub each_name_stands : EachNameStands
each_name_stands needed names i e l =
    let s = stands (cell_at needed i) names (once needed names i (named needed names e) l) in
    (place_of (cell_at needed i) names, (s.0, s.1))

pub read_by_name : ReadByName
read_by_name needed names cs i p e l m h =
    let at = nowhere_else (cell_at needed i) names p (once needed names i (named needed names e) l) m h in
    let places = places_of needed names in
    let n : i < length places = omega (arith, length-map needed (λ name. place_of name names)) in
    get_or-map (cell_at cs) places i 0 [] n ∙ ap (cell_at cs) (get_or-map (λ name. place_of name names) needed i [] 0 l ∙ at)
