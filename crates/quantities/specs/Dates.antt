-- Dates are day numbers, and - stops at 0: a difference that would be negative is 0.
use Rattle.std.specs.Prelude.{ℕ, ◌+◌, ◌-◌, Bool, ◌&&◌, if◌then◌else◌, Ok, Err, Result, nat_le}
use Rattle.quantities.specs.declared.refusal.Refusal.TheVariants.{Date}
use Rattle.quantities.specs.Refusals.{number}

-- the term of a settlement date: the days from today to it, less one
abbrev pub term : ℕ → ℕ → ℕ
term today date = date - today - 1

-- a trade settles from today to 365 days later
abbrev pub settles_in_time : ℕ → ℕ → Bool
settles_in_time today date = nat_le today date && nat_le date (today + 365)

-- the date of any other line is today at the latest
abbrev pub is_past : ℕ → ℕ → Bool
is_past today date = nat_le date today

-- the date of a trade, refused outside its days
abbrev pub settlement_date : ℕ → ℕ → Result ℕ ℕ
settlement_date today date = if settles_in_time today date then Ok date else Err (number Date)

-- the date of any other line, refused outside its days
abbrev pub past_date : ℕ → ℕ → Result ℕ ℕ
past_date today date = if is_past today date then Ok date else Err (number Date)

-- the term of a trade, refused where its date is
abbrev pub term_answer : ℕ → ℕ → Result ℕ ℕ
term_answer today date =
    if settles_in_time today date then Ok (term today date) else Err (number Date)

-- the days that a bond has left
abbrev pub residual_life : ℕ → ℕ → ℕ
residual_life today maturity = maturity - today
