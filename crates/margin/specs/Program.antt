-- What the program reads, and what it prints.
use Rattle.std.specs.Prelude.{ℕ, ◌+◌, List, [], ◌∷◌, ◌++◌, Option, Some, None, Ok, Err, option_map, option_and_then}
use Rattle.run.specs.Refusals.{Outcome, refusal_text}
use Rattle.run.specs.Runs.{most_bytes, run}
use Rattle.margin.specs.declared.request.Request.{Request}
use Rattle.margin.specs.declared.request.Request.TheVariants.{Run, Help, Unknown}
use Rattle.margin.specs.declared.program.TheConstants.{HELP, USAGE}
use Rattle.run.specs.declared.run.TheConstants.{MOST_STATEMENT}

-- on standard output: the statement, or the refusal as a line
unfoldable pub outcome_text : Outcome (List ℕ) → List ℕ
outcome_text (Ok statement) = statement
outcome_text (Err refusal) = refusal_text refusal ++ (10 ∷ [])

-- on standard error: nothing of a statement;
-- a refusal is told in words, which are not named here
unfoldable pub told_of : Outcome (List ℕ) → Option (List ℕ)
told_of (Ok statement) = Some []
told_of (Err refusal) = None

-- what the bytes of an input come to, however many they are
unfoldable pub input_outcome : List ℕ → Outcome (List ℕ)
input_outcome bytes = run bytes MOST_STATEMENT

-- what a call prints on standard output, where the input is known
unfoldable pub printed : Request → Option (List ℕ) → Option (List ℕ)
printed Run input = option_map (λ bytes. outcome_text (input_outcome bytes)) input
printed Help input = Some HELP.now
printed Unknown input = Some []

-- and on standard error
unfoldable pub told : Request → Option (List ℕ) → Option (List ℕ)
told Run input = option_and_then (λ bytes. told_of (input_outcome bytes)) input
told Help input = Some []
told Unknown input = Some USAGE.now

-- how many bytes of the input a call reads at most
abbrev pub most_read : Request → ℕ
most_read Run = most_bytes + 1
most_read Help = 0
most_read Unknown = 0
