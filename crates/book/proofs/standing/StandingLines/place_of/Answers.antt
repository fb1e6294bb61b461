use Rattle.std.proofs.Common.{subst}
use Rattle.register.specs.Search.{IsPlace}
use Rattle.account.specs.Calls.{line_rank}
use Rattle.book.proofs.standing.StandingLines.place_of.Goals as goal

pub returns-clause-place : goal.returns-clause-place
returns-clause-place c = subst (λ t. IsPlace line_rank c.args.reference t.records c.place_of.result) c.self.view_is c.place_of.ensures.place
