-- What cells of several kinds of row say; none where a cell does not fit.
use Rattle.std.specs.Prelude.{ℕ, Bool, true, false, List, [], map, Option, Some, None, IsTrue, refl, if◌then◌else◌, nat_le}
use Rattle.text.specs.Cells.{Cell}
use Rattle.text.specs.Numbers.{number_in}
use Rattle.quantities.specs.declared.isin.Isin.{Isin}
use Rattle.quantities.specs.Isins.{is_isin}

-- the last day number
abbrev pub last_date : ℕ
last_date = 65535

-- how a row is spelled: under each name the cell of a part
abbrev pub Spelling : Type 0
Spelling = List (Cell × Cell)

abbrev pub names_of : Spelling → List Cell
names_of spelling = map (λ part. part.0) spelling

abbrev pub cells_of : Spelling → List Cell
cells_of spelling = map (λ part. part.1) spelling

unfoldable pub date_in : Cell → Option ℕ
date_in cell = number_in 0 last_date cell

unfoldable pub isin_in : Cell → Option Isin
isin_in cell = if is_isin cell then Some (record { bytes = cell }) else None

-- no bytes, in the place of an ISIN
abbrev pub no_isin : Isin
no_isin = record { bytes = [] }

abbrev pub is_date : ℕ → Bool
is_date date = nat_le date last_date

-- what is made where a test passes
abbrev pub if_passed : {X : Type 0} → (b : Bool) → (IsTrue b → X) → Option X
if_passed true make = Some (make refl)
if_passed false make = None

-- what is made where two tests pass
abbrev pub if_both : {X : Type 0} → (b c : Bool) → (IsTrue b → IsTrue c → X) → Option X
if_both true c make = if_passed c (make refl)
if_both false c make = None
