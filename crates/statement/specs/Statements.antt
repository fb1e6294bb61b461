-- The text of a margin's statement, and what becomes of the memory that is lent for it.
use Rattle.std.specs.Prelude.{◌≡◌, ℕ, ◌+◌, List, [], ◌∷◌, ◌++◌, length, take, drop, Ok, Err, Result, nat_le, flat_map, codes, if◌then◌else◌}
use Rattle.std.specs.Fmt.{decimal, signed_decimal}
use Rattle.quantities.specs.declared.refusal.Refusal.TheVariants.{TooLong}
use Rattle.quantities.specs.Refusals.{number}
use Rattle.account.specs.declared.row.Row.{Row}
use Rattle.account.specs.declared.block_name.BlockName.{BlockName}
use Rattle.account.specs.declared.block_name.BlockName.TheVariants.{Trade as trade, Failed as failed, Held as held, CashOnly as cash_only}
use Rattle.account.specs.Rows.{block_of, scenario_of}

-- the text of a line: its cells, parted by semicolons and ended by a line feed
abbrev pub line_text : List (List ℕ) → List ℕ
line_text [] = codes "\n"
line_text (cell ∷ []) = cell ++ codes "\n"
line_text (cell ∷ (next ∷ cells)) = cell ++ (codes ";" ++ line_text (next ∷ cells))

-- the mark with the version, and the names of a row's cells
abbrev pub head_text : List ℕ
head_text = codes "STM;1\n" ++ codes "ISIN;BLOCK;SCEN;IM;VM\n"

-- the letter of a block
abbrev pub block_letter : BlockName → List ℕ
block_letter trade = codes "T"
block_letter failed = codes "F"
block_letter held = codes "H"
block_letter cash_only = codes "C"

-- the line of a row: ISIN, block, scenario, initial margin and variation margin
abbrev pub row_text : Row → List ℕ
row_text r =
    line_text (r.isin.bytes
    ∷ (block_letter (block_of r.scope)
    ∷ (decimal (scenario_of r.scope)
    ∷ (decimal r.initial_margin
    ∷ (signed_decimal r.variation_margin ∷ [])))))

-- the lines of the rows, one after another
abbrev pub rows_text : List Row → List ℕ
rows_text rows = flat_map row_text rows

-- the line of a margin: its cents, and how many amounts in it are rounded
abbrev pub total_text : ℕ → ℕ → List ℕ
total_text cents rounded = line_text (codes "TOTAL" ∷ (decimal cents ∷ (decimal rounded ∷ [])))

-- the last line: the count of rows
abbrev pub end_text : ℕ → List ℕ
end_text count = line_text (codes "END" ∷ (decimal count ∷ []))

-- the statement of rows, and of a margin in cents with its count of rounded amounts
abbrev pub statement_text : List Row → ℕ → ℕ → List ℕ
statement_text rows cents rounded =
    head_text ++ (rows_text rows ++ (total_text cents rounded ++ end_text (length rows)))

-- the memory with bytes at a place of it
abbrev pub memory_with_bytes : ℕ → List ℕ → List ℕ → List ℕ
memory_with_bytes at bytes memory =
    take at memory ++ (bytes ++ drop (length bytes) (drop at memory))

-- bytes put at a place: the memory afterwards, and where they end
pub record Puts (at : ℕ) (bytes memory after : List ℕ) (end : ℕ) : Type 0 where
  pub placed : after ≡ memory_with_bytes at bytes memory
  pub ends : end ≡ at + length bytes

-- the length of a text that has room in the memory, which is refused elsewhere
abbrev pub length_answer : List ℕ → List ℕ → Result ℕ ℕ
length_answer text memory =
    if nat_le (length text) (length memory) then Ok (length text) else Err (number TooLong)

-- the memory afterwards: the text at its front where it has room, and elsewhere all that it held
abbrev pub memory_with_text : List ℕ → List ℕ → List ℕ
memory_with_text text memory =
    if nat_le (length text) (length memory) then text ++ drop (length text) memory else memory
