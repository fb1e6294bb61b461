use Rattle.statement.proofs.SameText.{statement_law}
use Rattle.statement.proofs.laws.statement_laws_stand.Goals as goal

pub returns : goal.returns
returns c = statement_law
