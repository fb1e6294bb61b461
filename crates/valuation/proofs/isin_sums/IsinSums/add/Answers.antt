use Rattle.account.specs.declared.scenario.Scenario.TheVariants.{AllTrades, WithoutToday, AfterNext}
use Rattle.account.specs.declared.scope.Scope.TheVariants.{Trades, FailedLines, HeldLines, CashOnlyLines}
use Rattle.valuation.proofs.isin_sums.IsinSums.add.Goals as goal

pub add-requires-clause-room : goal.add-requires-clause-room
add-requires-clause-room g c = c.requires.room (Trades AllTrades)

pub add-requires-2-clause-room : goal.add-requires-2-clause-room
add-requires-2-clause-room g c = c.requires.room (Trades WithoutToday)

pub add-requires-3-clause-room : goal.add-requires-3-clause-room
add-requires-3-clause-room g c = c.requires.room (Trades AfterNext)

pub add-requires-4-clause-room : goal.add-requires-4-clause-room
add-requires-4-clause-room g c = c.requires.room FailedLines

pub add-requires-5-clause-room : goal.add-requires-5-clause-room
add-requires-5-clause-room g c = c.requires.room HeldLines

pub add-requires-6-clause-room : goal.add-requires-6-clause-room
add-requires-6-clause-room g c = c.requires.room CashOnlyLines
