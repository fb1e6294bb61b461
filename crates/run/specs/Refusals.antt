-- What a run is refused.
use Rattle.std.specs.Prelude.{◌≡◌, ℕ, List, ◌++◌, Ok, Err, Result, MatchResult, codes}
use Rattle.std.specs.Fmt.{decimal}
use Rattle.quantities.specs.declared.refusal.Refusal.{Refusal}
use Rattle.quantities.specs.Refusals.{number}
use Rattle.sheet.specs.declared.refusal.SheetRefusal.{SheetRefusal}
use Rattle.account.specs.declared.line_refusal.LineRefusal.{LineRefusal}
use Rattle.run.specs.declared.refusal.RunRefusal.{RunRefusal}
use Rattle.run.specs.declared.refusal.Place.{Place}
use Rattle.run.specs.declared.refusal.Place.TheVariants.{Whole, Sheet, Book, Margin}

-- its number, its layer (0 the run, 1 its sheets, 2 the book, 3 the margin),
-- the line, counted from 1 over the whole input, the cell, counted from 1,
-- and the reference of a line of the account; what does not apply is 0
pub record PlacedRefusal : Type 0 where
  pub number : ℕ
  pub layer : ℕ
  pub line : ℕ
  pub cell : ℕ
  pub reference : ℕ

-- what is refused of the input or the statement as a whole
abbrev pub refusal_of_run : ℕ → PlacedRefusal
refusal_of_run n = record { number = n; layer = 0; line = 0; cell = 0; reference = 0 }

-- what is refused of a sheet
abbrev pub refusal_of_sheet : ℕ → ℕ → ℕ → PlacedRefusal
refusal_of_sheet n line cell =
    record { number = n; layer = 1; line = line; cell = cell; reference = 0 }

-- what the book refuses of a row
abbrev pub refusal_of_book : ℕ → ℕ → ℕ → PlacedRefusal
refusal_of_book n line reference =
    record { number = n; layer = 2; line = line; cell = 0; reference = reference }

-- what has no margin
abbrev pub refusal_of_margin : ℕ → ℕ → PlacedRefusal
refusal_of_margin n reference =
    record { number = n; layer = 3; line = 0; cell = 0; reference = reference }

-- a refusal of that number, by what it is about
abbrev pub refusal_at : ℕ → Place → PlacedRefusal
refusal_at n Whole = refusal_of_run n
refusal_at n (Sheet line cell) = refusal_of_sheet n line cell
refusal_at n (Book line reference) = refusal_of_book n line reference
refusal_at n (Margin reference) = refusal_of_margin n reference

abbrev pub placed_refusal : RunRefusal → PlacedRefusal
placed_refusal r = refusal_at (number r.refusal) r.place

abbrev pub placed_sheet_refusal : SheetRefusal → PlacedRefusal
placed_sheet_refusal e = refusal_of_sheet (number e.refusal) e.line e.cell

-- a row that is turned away: the number, and the reference where the row has one, else 0
pub record RowRefusal : Type 0 where
  pub number : ℕ
  pub reference : ℕ

abbrev pub row_refusal : LineRefusal → RowRefusal
row_refusal e = record { number = number e.refusal; reference = e.reference }

-- an answer to a row, with the reference by which the row is reported
abbrev pub answer_with_reference : ℕ → Result (Unit {0}) Refusal → Result (Unit {0}) LineRefusal
answer_with_reference r (Ok done) = Ok done
answer_with_reference r (Err e) = Err (record { refusal = e; reference = r })

-- an answer of a run
abbrev pub Outcome : Type 0 → Type 0
Outcome X = Result X PlacedRefusal

-- the answer of a call by the outcome that is due: the value of the outcome, or its refusal
abbrev pub GivesOutcome :
    {X Y : Type 0} → Outcome X → (Y → Outcome X) → Result Y RunRefusal → Type 0
GivesOutcome due outcome answer =
    MatchResult answer (λ y. due ≡ outcome y) (λ e. due ≡ Err (placed_refusal e))

-- a refusal as it is printed
abbrev pub refusal_text : PlacedRefusal → List ℕ
refusal_text r =
    codes "REFUSED;" ++ (decimal r.number
    ++ (codes ";" ++ (decimal r.layer
    ++ (codes ";" ++ (decimal r.line
    ++ (codes ";" ++ (decimal r.cell
    ++ (codes ";" ++ decimal r.reference))))))))
