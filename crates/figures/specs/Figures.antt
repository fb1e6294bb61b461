-- All that is worked out by the definitions, in one list.
use Rattle.figures.specs.WorkedFigures.{WorkedFigures}
use Rattle.run.specs.Example.{ExampleRuns}

-- quantities, trades, accounts and days, and whole runs
pub record AllWorked : Type 0 where
  pub figures : WorkedFigures
  pub runs : ExampleRuns
