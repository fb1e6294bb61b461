-- A sheet whose rows are kept one after another.
use Rattle.std.specs.Prelude.{◌≡◌, ℕ, List, [], ◌∷◌, Option, Some, None, Ok, Err, Result, MatchResult}
use Rattle.sheet.specs.declared.refusal.SheetRefusal.{SheetRefusal}
use Rattle.sheet.specs.Kinds.{SheetKind}
use Rattle.sheet.specs.Sheets.{Rest, OpenSheet, open_answer, next_row, after_row, close_answer}
use Rattle.account.specs.declared.line_refusal.LineRefusal.{LineRefusal}
use Rattle.run.specs.Refusals.{RowRefusal, row_refusal, Outcome, refusal_of_book, placed_sheet_refusal}

-- a sheet that is read to its end: what is kept of its rows, how many they were,
-- and what is left of the input behind its trailer
pub record KeptSheet (S : Type 0) : Type 0 where
  pub kept : S
  pub rows : ℕ
  pub left : Rest

-- what is kept after one more row, or why the row is turned away
abbrev pub Keeping : Type 0 → Type 0 → Type 0
Keeping Row S = S → Row → Result S RowRefusal

-- a row is kept, or turned away with nothing changed
abbrev pub Keeps :
    {S : Type 0} → Result S RowRefusal → S → S → Result (Unit {0}) LineRefusal → Type 0
Keeps due old new answer =
    MatchResult answer (λ _. due ≡ Ok new) (λ e. (due ≡ Err (row_refusal e)) × (new ≡ old))

-- what the answer of a trailer comes to, after that many rows
abbrev pub trailer_outcome : {S : Type 0} → S → ℕ → Result Rest SheetRefusal → Outcome (KeptSheet S)
trailer_outcome s rows (Ok left) = Ok (record { kept = s; rows = rows; left = left })
trailer_outcome s rows (Err e) = Err (placed_sheet_refusal e)

abbrev pub kept_at_trailer : {S : Type 0} → S → OpenSheet → Outcome (KeptSheet S)
kept_at_trailer s b = trailer_outcome s b.rows (close_answer b)

-- what a row on a line comes to, and the rows after it
abbrev pub row_outcome :
    {S : Type 0} → ℕ → (S → Outcome (KeptSheet S)) → Result S RowRefusal → Outcome (KeptSheet S)
row_outcome line further (Ok s) = further s
row_outcome line further (Err e) = Err (refusal_of_book e.number line e.reference)

-- what the answer of the next row comes to
abbrev pub next_outcome :
    {Row S : Type 0} → Keeping Row S → OpenSheet → S → (S → Outcome (KeptSheet S)) →
    Result (Option Row) SheetRefusal → Outcome (KeptSheet S)
next_outcome keeping b s further (Ok (Some row)) = row_outcome b.left.line further (keeping s row)
next_outcome keeping b s further (Ok None) = kept_at_trailer s b
next_outcome keeping b s further (Err e) = Err (placed_sheet_refusal e)

-- the rest of a sheet that is being read, of which those lines are left
abbrev pub kept_rest :
    {Row S : Type 0} →
    SheetKind Row → Keeping Row S → List (List ℕ) → OpenSheet → S → Outcome (KeptSheet S)
kept_rest kind keeping [] b s = kept_at_trailer s b
kept_rest kind keeping (_ ∷ ls) b s =
    next_outcome keeping b s (kept_rest kind keeping ls (after_row kind b)) (next_row kind b)

-- what the answer of the opening comes to
abbrev pub opening_outcome :
    {Row S : Type 0} → SheetKind Row → Keeping Row S → S → Result OpenSheet SheetRefusal →
    Outcome (KeptSheet S)
opening_outcome kind keeping s (Ok b) = kept_rest kind keeping b.left.lines b s
opening_outcome kind keeping s (Err e) = Err (placed_sheet_refusal e)

-- a whole sheet
abbrev pub kept_sheet :
    {Row S : Type 0} → SheetKind Row → Keeping Row S → S → Rest → Outcome (KeptSheet S)
kept_sheet kind keeping s left = opening_outcome kind keeping s (open_answer kind left)
