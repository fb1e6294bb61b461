use Rattle.book.specs.Books.{setting_for}
use Rattle.book.proofs.Working.{AnsweredUpTo}
use Rattle.book.proofs.book.Book.take_all.Given as goal

abbrev pub invariant-loop-slot : goal.invariant-loop-slot
invariant-loop-slot g l =
    AnsweredUpTo (setting_for g.C.Curve.reach g.C.Curve.rate g.N.NettingRule.charged l.curve l.rule l.initial.self) l.initial.self l.initial.slots l.slot-index l.self l.slots
