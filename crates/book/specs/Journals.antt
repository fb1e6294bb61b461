-- What is kept of a journal that is worked through.
use Rattle.std.specs.Prelude.{◌≡◌, List}
use Rattle.register.specs.Contents.{loan_of}
use Rattle.account.specs.Settings.{Setting}
use Rattle.account.specs.Calls.{Answer, Event}
use Rattle.account.specs.Slots.{events}
use Rattle.account.specs.History.{book_room, WorkedThrough}
use Rattle.book.specs.declared.journal.Journal.{Journal}

-- its calls with their answers
abbrev pub events_of : Journal → List Event
events_of j = events j.slots.now

-- a journal is worked through, in the memory that it was lent
pub record WorksThroughJournal (s : Setting) (before after : Journal) (last : Answer) : Type 0 where
  pub worked :
      WorkedThrough s (book_room before.places.now before.by_isin.now)
      before.slots.now after.slots.now after.places.now after.by_isin.now last
  pub slots : loan_of after.slots ≡ loan_of before.slots
  pub places : loan_of after.places ≡ loan_of before.places
  pub by_isin : loan_of after.by_isin ≡ loan_of before.by_isin
