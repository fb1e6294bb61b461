-- Lines that are a top line, names or a trailer, and lines that are not.
use Rattle.std.proofs.Common.{◌≡◌, ℕ, suc, ◌<◌, inl, inr, Bool, true, false, eqb, leb, ◌&&◌, List, [], ◌∷◌, length, refl, sym, ⊎_elim, arith}
use Rattle.std.proofs.lemmas.Bool.{and_parts, and_from, leb-true, leb-false, eqb-false, false≢true}
use Rattle.text.specs.Cells.{Cell, cells}
use Rattle.sheet.specs.Kinds.{cell_at}
use Rattle.sheet.specs.Sheets.{is_top, count_of, are_named, are_columns, is_trailer, has_row_count}
use Rattle.sheet.specs.Written.{IsTopLine, StandsOnce}
use Rattle.sheet.specs.Causes.{IsTrailerOf, NamesAreWrong}
use Rattle.sheet.proofs.Names.{once}
use Rattle.sheet.proofs.Written.{top_written, top_read, trailer_read, counted_once, stands_once}

-- ---- the top line and the trailer
pub top_line : (mark line : List ℕ) → is_top mark (cells line) ≡ true → IsTopLine mark line
top_line mark line h = let w = top_written mark (cells line) h in record { version = w.0; from_1 = w.1.0; to_255 = w.1.1.0; marked = w.1.1.1 }

pub top_passes : (mark line : List ℕ) → IsTopLine mark line → is_top mark (cells line) ≡ true
top_passes mark line t = top_read mark t.version (cells line) t.from_1 t.to_255 t.marked

pub trailer_passes : (rows : ℕ) (line : List ℕ) → IsTrailerOf rows line → (is_trailer line && has_row_count rows (cells line)) ≡ true
trailer_passes rows line t = let p = trailer_read rows (cells line) t in and_from _ _ p.0 p.1

-- ---- the names
not_named : (needed names : List Cell) → are_named needed names ≡ false → (i : ℕ) × ((i < length needed) × ((place : ℕ) → StandsOnce names (cell_at needed i) place → ⊥))
not_named [] names h = absurd (false≢true (sym h))
not_named (n ∷ ns) names h = go (eqb (count_of n names) 1) refl h (not_named ns names)
  where
    go : (b : Bool) → eqb (count_of n names) 1 ≡ b → (b && are_named ns names) ≡ false → (are_named ns names ≡ false → (i : ℕ) × ((i < length ns) × ((place : ℕ) → StandsOnce names (cell_at ns i) place → ⊥))) → (i : ℕ) × ((i < length (n ∷ ns)) × ((place : ℕ) → StandsOnce names (cell_at (n ∷ ns) i) place → ⊥))
    go true e h rest = let r = rest h in (suc r.0, (let l = r.1.0 in omega arith, r.1.1))
    go false e h rest = (0, (omega arith, λ place s. eqb-false (count_of n names) 1 e (counted_once n names place s)))

pub wrong_names : (needed names : List Cell) → are_columns needed names ≡ false → NamesAreWrong needed names
wrong_names needed names h = go (leb (length names) 32) refl h
  where
    go : (b : Bool) → leb (length names) 32 ≡ b → (b && are_named needed names) ≡ false → NamesAreWrong needed names
    go true e h = inr (not_named needed names h)
    go false e h = inl (leb-false (length names) 32 e)

pub names_fail : (needed names : List Cell) → NamesAreWrong needed names → are_columns needed names ≡ false
names_fail needed names w = go (are_columns needed names) refl
  where
    go : (b : Bool) → are_columns needed names ≡ b → b ≡ false
    go false e = refl
    go true e =
        let p = and_parts (leb (length names) 32) (are_named needed names) e in
        ⊎_elim
        (λ (l : 32 < length names). let few = leb-true (length names) 32 p.0 in absurd (omega arith))
        (λ (i : (i : ℕ) × ((i < length needed) × ((place : ℕ) → StandsOnce names (cell_at needed i) place → ⊥))). absurd (i.1.1 _ (stands_once (cell_at needed i.0) names (once needed names i.0 p.1 i.1.0))))
        w
