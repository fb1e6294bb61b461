-- The listing of a sheet of positions.
use Rattle.std.specs.Prelude.{◌≡◌, ℕ, List, [], ◌∷◌, ◌++◌, Option, Some, None, Result, Ok, Err, codes, ⊤}
use Rattle.std.specs.Fmt.{decimal}
use Rattle.std.specs.Io.KnownBytes.{Appends}
use Rattle.quantities.specs.Refusals.{number}
use Rattle.account.specs.declared.block.Block.{Block}
use Rattle.account.specs.declared.block.Block.TheVariants.{Trade, Failed, Held, CashOnly}
use Rattle.account.specs.declared.line.Line.{Line}
use Rattle.account.specs.declared.side.Side.{Side}
use Rattle.account.specs.declared.side.Side.TheVariants.{Bought, Sold}
use Rattle.text.specs.Lines.{lines, loose}
use Rattle.sheet.specs.declared.refusal.SheetRefusal.{SheetRefusal}
use Rattle.sheet.specs.Sheets.{Rest, OpenSheet, open_answer, next_row, after_row, close_answer}
use Rattle.rows.specs.Positions.{positions}
use Rattle.positions.specs.declared.listing.Stop.{Stop}
use Rattle.positions.specs.declared.listing.Stop.TheVariants.{Refused, Unwritten}

abbrev pub side_name : Side → List ℕ
side_name Bought = codes "bought"
side_name Sold = codes "sold"

abbrev pub block_name : Block → List ℕ
block_name (Trade _) = codes "trade"
block_name (Failed _) = codes "failed"
block_name (Held _) = codes "held"
block_name (CashOnly _) = codes "cash-only"

abbrev pub block_date : Block → ℕ
block_date (Trade date) = date
block_date (Failed date) = date
block_date (Held date) = date
block_date (CashOnly date) = date

-- the parts of a line of the account; 10 is the line feed
abbrev pub line_text : Line → List ℕ
line_text l =
    codes "reference " ++ (decimal l.reference
    ++ (codes ", ISIN " ++ (l.isin.bytes
    ++ (codes ", side " ++ (side_name l.side
    ++ (codes ", block " ++ (block_name l.block
    ++ (codes ", titles " ++ (decimal l.titles
    ++ (codes ", cash " ++ (decimal l.cash
    ++ (codes ", date " ++ (decimal (block_date l.block)
    ++ (10 ∷ []))))))))))))))

-- how many lines there are
abbrev pub count_text : ℕ → List ℕ
count_text rows = decimal rows ++ (codes " rows" ++ (10 ∷ []))

-- a refusal of the sheet
abbrev pub refusal_line : SheetRefusal → List ℕ
refusal_line e =
    codes "REFUSED;" ++ (decimal (number e.refusal)
    ++ (codes ";" ++ (decimal e.line
    ++ (codes ";" ++ (decimal e.cell
    ++ (10 ∷ []))))))

-- behind the rows: their count, or the refusal of the trailer
abbrev pub closing_text : ℕ → Result Rest SheetRefusal → List ℕ
closing_text rows (Ok left) = count_text rows
closing_text rows (Err e) = refusal_line e

abbrev pub end_text : OpenSheet → List ℕ
end_text b = closing_text b.rows (close_answer b)

-- by the answer of the next row: its line and what follows, or the end, or its refusal
abbrev pub next_text :
    OpenSheet → List ℕ → Result (Option Line) SheetRefusal → List ℕ
next_text b further (Ok (Some line)) = line_text line ++ further
next_text b further (Ok None) = end_text b
next_text b further (Err e) = refusal_line e

-- the rest of a sheet that is being read, of which those lines are left
abbrev pub rest_text : List (List ℕ) → OpenSheet → List ℕ
rest_text [] b = end_text b
rest_text (_ ∷ ls) b =
    next_text b (rest_text ls (after_row positions b)) (next_row positions b)

abbrev pub opening_text : Result OpenSheet SheetRefusal → List ℕ
opening_text (Ok b) = rest_text b.left.lines b
opening_text (Err e) = refusal_line e

-- the listing of the sheet that an input begins with
abbrev pub listing : List ℕ → List ℕ
listing bytes =
    opening_text
    (open_answer positions (record { lines = lines bytes; loose = loose bytes; line = 1 }))

-- so much of a text is written that only its end is left
abbrev pub WritesUpTo : Option (List ℕ) → Option (List ℕ) → List ℕ → List ℕ → Type 0
WritesUpTo before after text end =
    (written : List ℕ) × (Appends before after written × (text ≡ written ++ end))

-- what is written of a text where a sheet is read to its end, or only to a refusal
abbrev pub ListsUpTo :
    {X : Type 0} → Option (List ℕ) → Option (List ℕ) → List ℕ → (X → List ℕ) →
    Result X Stop → Type 0
ListsUpTo before after text end (Ok x) = WritesUpTo before after text (end x)
ListsUpTo before after text end (Err (Refused e)) =
    WritesUpTo before after text (refusal_line e)
ListsUpTo before after text end (Err (Unwritten error)) = ⊤
