-- What a curve means: a reach, and one rate for each term below it.
use Rattle.std.specs.Prelude.{ℕ, ◌<◌, ◌≤◌, ℤ, ◌≤ℤ◌, Ok, Err, Result, if◌then◌else◌, nat_lt}
use Rattle.quantities.specs.declared.refusal.Refusal.TheVariants.{NoRate}
use Rattle.quantities.specs.Refusals.{number}
use Rattle.quantities.specs.Ranges.{lowest_rate, highest_rate}

-- asked for a term, a curve answers its rate below its reach, and refuses any other term
abbrev pub rate_answer : ℕ → (ℕ → ℤ) → ℕ → Result ℤ ℕ
rate_answer reach rate term = if nat_lt term reach then Ok (rate term) else Err (number NoRate)

-- what every curve keeps to
pub record Discounting (reach : ℕ) (rate : ℕ → ℤ) : Type 0 where
  pub short : reach ≤ 65536
  pub low : (term : ℕ) → term < reach → lowest_rate ≤ℤ rate term
  pub high : (term : ℕ) → term < reach → rate term ≤ℤ highest_rate
