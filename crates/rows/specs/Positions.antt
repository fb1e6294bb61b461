-- The positions: the lines of an account.
use Rattle.std.specs.Prelude.{ℕ, Bool, ◌&&◌, [], ◌∷◌, Option, Some, None, is_some, unwrap_or, codes, if◌then◌else◌}
use Rattle.std.specs.Fmt.{decimal}
use Rattle.std.specs.Str.{bytes_eq}
use Rattle.text.specs.Cells.{Cell}
use Rattle.text.specs.Numbers.{number_in}
use Rattle.quantities.specs.Ranges.{most_cash, most_titles, highest_reference}
use Rattle.account.specs.declared.line.Line.{Line}
use Rattle.account.specs.declared.side.Side.{Side}
use Rattle.account.specs.declared.side.Side.TheVariants.{Bought, Sold}
use Rattle.account.specs.declared.block.Block.{Block}
use Rattle.account.specs.declared.block.Block.TheVariants.{Trade, Failed, Held, CashOnly}
use Rattle.account.specs.Lines.{date, dated_block}
use Rattle.account.specs.Answers.{is_well_formed}
use Rattle.sheet.specs.Kinds.{SheetKind}
use Rattle.account.specs.declared.block_name.BlockName.{BlockName}
use Rattle.account.specs.declared.block_name.BlockName.TheVariants.{Trade as trade, Failed as failed, Held as held, CashOnly as cash_only}
use Rattle.rows.specs.Forms.{Spelling, date_in, isin_in, no_isin, is_date}

unfoldable pub reference_in : Cell → Option ℕ
reference_in cell = number_in 1 highest_reference cell

-- B is bought, and S sold
unfoldable pub side_in : Cell → Option Side
side_in cell =
    if bytes_eq cell (codes "B") then Some Bought
    else (if bytes_eq cell (codes "S") then Some Sold else None)

unfoldable pub block_in : Cell → Option BlockName
block_in cell =
    if bytes_eq cell (codes "T") then Some trade
    else (if bytes_eq cell (codes "F") then Some failed
    else (if bytes_eq cell (codes "H") then Some held
    else (if bytes_eq cell (codes "C") then Some cash_only else None)))

-- cash-only lines have no titles, all others 1 to 2,000,000; beside a block that is none of the
-- four, any number up to there fits
unfoldable pub titles_in : Option BlockName → Cell → Option ℕ
titles_in (Some trade) cell = number_in 1 most_titles cell
titles_in (Some failed) cell = number_in 1 most_titles cell
titles_in (Some held) cell = number_in 1 most_titles cell
titles_in (Some cash_only) cell = number_in 0 0 cell
titles_in None cell = number_in 0 most_titles cell

unfoldable pub cash_in : Cell → Option ℕ
cash_in cell = number_in 0 most_cash cell

abbrev pub positions : SheetKind Line
positions =
    record {
      mark = codes "POS";
      needed =
          codes "REF"
          ∷ (codes "ISIN"
          ∷ (codes "SIDE"
          ∷ (codes "BLOCK"
          ∷ (codes "TITLES"
          ∷ (codes "CASH"
          ∷ (codes "DATE" ∷ []))))));
      fits = λ cell.
          is_some (reference_in (cell 0))
          ∷ (is_some (isin_in (cell 1))
          ∷ (is_some (side_in (cell 2))
          ∷ (is_some (block_in (cell 3))
          ∷ (is_some (titles_in (block_in (cell 3)) (cell 4))
          ∷ (is_some (cash_in (cell 5))
          ∷ (is_some (date_in (cell 6)) ∷ []))))));
      row = λ cell.
          record {
            reference = unwrap_or (reference_in (cell 0)) 0;
            isin = unwrap_or (isin_in (cell 1)) no_isin;
            side = unwrap_or (side_in (cell 2)) Bought;
            titles = unwrap_or (titles_in (block_in (cell 3)) (cell 4)) 0;
            cash = unwrap_or (cash_in (cell 5)) 0;
            block =
                dated_block (unwrap_or (block_in (cell 3)) cash_only)
                (unwrap_or (date_in (cell 6)) 0);
          };
    }

-- a line that a book accepts by its form, with a date
abbrev pub line_in_range : Line → Bool
line_in_range line = is_well_formed line && is_date (date line.block)

abbrev pub side_cell : Side → Cell
side_cell Bought = codes "B"
side_cell Sold = codes "S"

abbrev pub block_cell : Block → Cell
block_cell (Trade date) = codes "T"
block_cell (Failed date) = codes "F"
block_cell (Held date) = codes "H"
block_cell (CashOnly date) = codes "C"

-- how a line is spelled
abbrev pub line_spelling : Line → Spelling
line_spelling line =
    (codes "REF", decimal line.reference)
    ∷ ((codes "ISIN", line.isin.bytes)
    ∷ ((codes "SIDE", side_cell line.side)
    ∷ ((codes "BLOCK", block_cell line.block)
    ∷ ((codes "TITLES", decimal line.titles)
    ∷ ((codes "CASH", decimal line.cash)
    ∷ ((codes "DATE", decimal (date line.block)) ∷ []))))))
