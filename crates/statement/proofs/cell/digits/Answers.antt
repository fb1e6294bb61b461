use Rattle.statement.proofs.Digits.{digits_counted}
use Rattle.statement.proofs.cell.digits.Goals as goal

pub returns-clause-size : goal.returns-clause-size
returns-clause-size c = rw (c.from.ensures) (digits_counted c.args.number c.ranges.number.fits)
