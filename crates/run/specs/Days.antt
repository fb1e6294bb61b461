-- The day that is kept, and the account of its book.
use Rattle.std.specs.Prelude.{List}
use Rattle.curve.specs.declared.point.Point.{Point}
use Rattle.book.specs.declared.book.Book.{Book}
use Rattle.book.specs.Books.{lines_of}
use Rattle.rows.specs.declared.day.DayRow.{DayRow}
use Rattle.run.specs.declared.keepers.day.KeptDay.{KeptDay}
use Rattle.run.specs.Runs.{Account, account_of_day}

-- a day as its sheet has it
abbrev pub day_row : KeptDay → DayRow
day_row k = record { today = k.day.today; next = k.day.next; mode = k.mode; curve = k.curve }

-- the account of a book, by its day and the points of its curve
abbrev pub account_of_book : KeptDay → List Point → Book → Account
account_of_book day points book =
    account_of_day (day_row day) book.market.now points (lines_of book)
