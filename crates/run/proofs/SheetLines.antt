-- The lines of a sheet, by their numbers in the input.
use Rattle.std.proofs.Common.{◌≡◌, ℕ, zero, suc, ◌+◌, ◌-◌, ◌<◌, ◌≤◌, List, [], ◌∷◌, ◌++◌, length, get_or, sym, refl, ap, ap₂, ◌∙◌, subst, arith}
use Rattle.std.proofs.lemmas.List.{length-append, get_or_append_left, get_or-append-add}
use Rattle.text.specs.Cells.{Cell}
use Rattle.text.specs.Lines.{lines, loose}
use Rattle.sheet.specs.Kinds.{SheetKind, cell_at}
use Rattle.sheet.specs.Sheets.{Rest, needed_cells}
use Rattle.sheet.specs.Written.{StandsOnce, EachStands, EachOnLine}
use Rattle.rows.specs.Forms.{Spelling, names_of, cells_of}
use Rattle.run.specs.Runs.{input}
use Rattle.run.specs.Spelled.{line_behind, EachUnder}

-- what is left of the input begins on a line
pub record Begins (bytes : List ℕ) (from : ℕ) (left : Rest) : Type 0 where
  pub counted : 1 ≤ from
  pub stand : (k : ℕ) → get_or left.lines k [] ≡ get_or (lines bytes) (from + k - 1) []
  pub many : from + length left.lines ≡ length (lines bytes) + 1
  pub loose_is : left.loose ≡ loose bytes

pub at_first : (bytes : List ℕ) → Begins bytes 1 (input bytes)
at_first bytes = record { counted = omega arith; stand = λ k. ap (λ i. get_or (lines bytes) i []) (omega arith); many = omega arith; loose_is = refl }

pub many_places : (names needed : List Cell) (places : List ℕ) → EachStands names needed places → length places ≡ length needed
many_places names [] [] h = refl
many_places names [] (p ∷ ps) h = absurd h
many_places names (n ∷ ns) [] h = absurd h
many_places names (n ∷ ns) (p ∷ ps) h = ap suc (many_places names ns ps h.1)

-- ---- the cells at the places of names are those under them
pub to_parts : (names cs needed : List Cell) (places : List ℕ) (spelling : Spelling) → EachStands names needed places → names_of spelling ≡ needed → needed_cells places cs ≡ cells_of spelling → EachUnder names cs spelling
to_parts names cs needed places [] h e c = tt
to_parts names cs [] places (s ∷ ss) h e c = absurd (let n = ap length e in omega arith)
to_parts names cs (n ∷ ns) [] (s ∷ ss) h e c = absurd h
to_parts names cs (n ∷ ns) (p ∷ ps) (s ∷ ss) h e c =
    let name : s.0 ≡ n = cc in
    let others : names_of ss ≡ ns = cc in
    let cell : cell_at cs p ≡ s.1 = cc in
    let rest : needed_cells ps cs ≡ cells_of ss = cc in
    (record { place = p; named = subst (λ m. StandsOnce names m p) (sym name) h.0; there = cell }, to_parts names cs ns ps ss h.1 others rest)

pub parts_are : (names cs needed : List Cell) (places : List ℕ) (spelling : Spelling) → EachStands names needed places → names_of spelling ≡ needed → EachUnder names cs spelling → needed_cells places cs ≡ cells_of spelling
parts_are names cs [] [] [] h e u = refl
parts_are names cs (n ∷ ns) places [] h e u = absurd (let m = ap length e in omega arith)
parts_are names cs [] (p ∷ ps) [] h e u = absurd h
parts_are names cs [] places (s ∷ ss) h e u = absurd (let m = ap length e in omega arith)
parts_are names cs (n ∷ ns) [] (s ∷ ss) h e u = absurd h
parts_are names cs (n ∷ ns) (p ∷ ps) (s ∷ ss) h e u =
    let name : s.0 ≡ n = cc in
    let others : names_of ss ≡ ns = cc in
    let same = h.0.nowhere_else u.0.place u.0.named.within (u.0.named.there ∙ name) in
    ap₂ (λ x xs. x ∷ xs) (ap (cell_at cs) (sym same) ∙ u.0.there) (parts_are names cs ns ps ss h.1 others u.1)

pub many_lines : {Row : Type 0} (kind : SheetKind Row) (places : List ℕ) (width : ℕ) (ls : List (List ℕ)) (rows : List Row) → EachOnLine kind places width ls rows → length ls ≡ length rows
many_lines kind places width [] [] h = refl
many_lines kind places width [] (r ∷ rs) h = absurd h
many_lines kind places width (l ∷ ls) [] h = absurd h
many_lines kind places width (l ∷ ls) (r ∷ rs) h = ap suc (many_lines kind places width ls rs h.1)

-- ---- lines that are a sheet of so many rows, and what follows it
pub record Cut (ls : List (List ℕ)) (rows : ℕ) : Type 0 where
  pub top : List ℕ
  pub names : List ℕ
  pub row_lines : List (List ℕ)
  pub trailer : List ℕ
  pub rest : List (List ℕ)
  pub is : ls ≡ top ∷ (names ∷ (row_lines ++ trailer ∷ rest))
  pub long : length row_lines ≡ rows

cut_rows : (n : ℕ) (ls : List (List ℕ)) → n < length ls → (before : List (List ℕ)) × ((l : List ℕ) × ((after : List (List ℕ)) × ((ls ≡ before ++ l ∷ after) × (length before ≡ n))))
cut_rows n [] h = absurd (omega arith)
cut_rows zero (l ∷ ls) h = ([], (l, (ls, (refl, refl))))
cut_rows (suc n) (l ∷ ls) h = let r = cut_rows n ls (omega arith) in (l ∷ r.0, (r.1.0, (r.1.1.0, (ap (λ x. l ∷ x) r.1.1.1.0, ap suc r.1.1.1.1))))

pub cut : (ls : List (List ℕ)) (rows : ℕ) → rows + 3 ≤ length ls → Cut ls rows
cut [] rows h = absurd (omega arith)
cut (top ∷ []) rows h = absurd (omega arith)
cut (top ∷ (names ∷ ls)) rows h =
    let r = cut_rows rows ls (omega arith) in
    record { top = top; names = names; row_lines = r.0; trailer = r.1.0; rest = r.1.1.0; is = ap (λ x. top ∷ (names ∷ x)) r.1.1.1.0; long = r.1.1.1.1 }

module _ (bytes : List ℕ) (from : ℕ) (left : Rest) (rows : ℕ) (at : Begins bytes from left) (c : Cut left.lines rows) where
  pub on_line : (n k : ℕ) → n ≡ from + k → get_or (lines bytes) (n - 1) [] ≡ get_or (c.top ∷ (c.names ∷ (c.row_lines ++ c.trailer ∷ c.rest))) k []
  on_line n k e = ap (λ i. get_or (lines bytes) (i - 1) []) e ∙ (sym (at.stand k) ∙ ap (λ ls. get_or ls k []) c.is)

  pub on_row : (n i : ℕ) → n ≡ from + 2 + i → i < rows → get_or (lines bytes) (n - 1) [] ≡ get_or c.row_lines i []
  on_row n i e l = let long = c.long in on_line n (suc (suc i)) (omega (arith, e)) ∙ get_or_append_left c.row_lines (c.trailer ∷ c.rest) [] i (omega (arith, long))

  pub past_rows : (n j : ℕ) → n ≡ from + (rows + 2) + j → get_or (lines bytes) (n - 1) [] ≡ get_or (c.trailer ∷ c.rest) j []
  past_rows n j e = let long = c.long in on_line n (suc (suc (length c.row_lines + j))) (omega (arith, e, long)) ∙ get_or-append-add c.row_lines (c.trailer ∷ c.rest) j []

  pub behind_begins : (behind : Rest) → behind.lines ≡ c.rest → behind.loose ≡ left.loose → Begins bytes (line_behind from rows) behind
  behind_begins behind rest loose =
      let many = at.many in
      let lines_are = ap length c.is in
      let parts = length-append c.row_lines (c.trailer ∷ c.rest) in
      let long = c.long in
      let same = ap length rest in
      record {
        counted = omega arith;
        stand = λ k. ap (λ ls. get_or ls k []) rest ∙ sym (past_rows (line_behind from rows + k) (suc k) (omega arith));
        many = omega (arith, many, lines_are, parts, long, same);
        loose_is = loose ∙ at.loose_is;
      }
