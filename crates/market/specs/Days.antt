-- The day of a margin: today, and the business day after it.
use Rattle.std.specs.Prelude.{ℕ, ◌+◌, Bool, ◌&&◌, Ok, Err, Result, if◌then◌else◌, nat_le}
use Rattle.quantities.specs.declared.refusal.Refusal.TheVariants.{Date}
use Rattle.quantities.specs.Refusals.{number}

-- the next business day is 1 to 10 days after today
abbrev pub is_next_day : ℕ → ℕ → Bool
is_next_day today next = nat_le (today + 1) next && nat_le next (today + 10)

-- both dates as they are where the second is the first one's next business day, refused elsewhere
abbrev pub day_answer : ℕ → ℕ → Result (ℕ × ℕ) ℕ
day_answer today next = if is_next_day today next then Ok (today, next) else Err (number Date)
