-- The lines that stand, in the order of their references and in that of their ISINs.
use Rattle.std.specs.Prelude.{◌≡◌, ℕ, List, length, Err}
use Rattle.register.specs.Contents.{Loan, LentTable}
use Rattle.register.specs.Places.{PlacesWithin}
use Rattle.register.specs.Search.{IsPlace}
use Rattle.account.specs.declared.line.Line.{Line}
use Rattle.account.specs.Calls.{line_rank}
use Rattle.account.specs.ByIsin.{isin_line_rank, lines_by_isin, lines_at}
use Rattle.book.specs.declared.standing.Places.{Places}

-- lines that stand by reference, how many there may be, and the memory that was lent for them and
-- for their places by ISIN
pub record LinesInMemory : Type 0 where
  pub records : List Line
  pub room : ℕ
  pub memory : Loan × Loan

-- the places by ISIN are those of the lines by reference, in the order of their ISINs
pub record StandInBothOrders (lines : LentTable Line) (by_isin : LentTable ℕ) : Type 0 where
  pub within : PlacesWithin (length lines.records) by_isin.records
  pub same_lines : lines_at by_isin.records lines.records ≡ lines_by_isin lines.records
  pub same_room : by_isin.room ≡ lines.room

-- a line that does not stand, and the places that it would have among those that do
pub record HasPlaces (l : Line) (ls : List Line) (p : Places) : Type 0 where
  pub by_reference : IsPlace line_rank l.reference ls (Err p.by_reference)
  pub by_isin : IsPlace isin_line_rank (isin_line_rank l) (lines_by_isin ls) (Err p.by_isin)
