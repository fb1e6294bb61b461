-- The answer that is due to each call, by the lines that stand before it.
use Rattle.std.specs.Prelude.{◌≡◌, ℕ, ◌+◌, Bool, not, ◌&&◌, List, [], ◌∷◌, length, ◌==◌, nat_le, nat_lt, if◌then◌else◌, ⊤}
use Rattle.quantities.specs.declared.isin.Isin.{Isin}
use Rattle.quantities.specs.declared.refusal.Refusal.TheVariants.{Value, KeyPresent, Date, TitlesLimit, Full, NoPrice, NoPercentage, NoRate, NotStanding}
use Rattle.quantities.specs.Refusals.{number}
use Rattle.quantities.specs.Ranges.{most_cash, most_titles, highest_reference}
use Rattle.quantities.specs.Dates.{settles_in_time, is_past}
use Rattle.quantities.specs.Isins.{is_isin}
use Rattle.register.specs.Keys.{has_rank}
use Rattle.account.specs.declared.line.Line.{Line}
use Rattle.account.specs.declared.block.Block.{Block}
use Rattle.account.specs.declared.block.Block.TheVariants.{Trade, Failed, Held, CashOnly}
use Rattle.account.specs.declared.call.Call.{Call}
use Rattle.account.specs.declared.call.Call.TheVariants.{Enter, Withdraw, AskMargin}
use Rattle.account.specs.Lines.{block_name, is_same_block, is_trade, is_in_block, keep, sum_of}
use Rattle.account.specs.declared.block_name.BlockName.{BlockName}
use Rattle.account.specs.declared.block_name.BlockName.TheVariants.{Trade as trade, Failed as failed, Held as held, CashOnly as cash_only}
use Rattle.account.specs.Settings.{Setting, has_price, has_percentage, has_rate}
use Rattle.account.specs.Margin.{margin, rounded_amounts}
use Rattle.account.specs.Calls.{Answer, accepted, refused, given, Event, line_rank, lines_after}

-- cash-only lines have no titles, all others 1 to 2,000,000
abbrev pub has_titles : BlockName → ℕ → Bool
has_titles trade n = nat_le 1 n && nat_le n most_titles
has_titles failed n = nat_le 1 n && nat_le n most_titles
has_titles held n = nat_le 1 n && nat_le n most_titles
has_titles cash_only n = n == 0

-- each part of a line has its form and range
abbrev pub is_well_formed : Line → Bool
is_well_formed l =
    (nat_le 1 l.reference && nat_le l.reference highest_reference)
    && (is_isin l.isin.bytes
    && (has_titles (block_name l.block) l.titles && nat_le l.cash most_cash))

-- a trade settles from today to 365 days later, any other line is dated today at the latest
abbrev pub is_well_dated : ℕ → Block → Bool
is_well_dated today (Trade d) = settles_in_time today d
is_well_dated today (Failed d) = is_past today d
is_well_dated today (Held d) = is_past today d
is_well_dated today (CashOnly d) = is_past today d

-- the titles of an ISIN and block together, bought and sold
abbrev pub titles_of : Isin → BlockName → List Line → ℕ
titles_of i k ls = sum_of (λ l. l.titles) (keep (is_in_block i k) ls)

-- the titles that an ISIN and block would have with one more line
abbrev pub titles_with : Line → List Line → ℕ
titles_with l ls = titles_of l.isin (block_name l.block) ls + l.titles

-- what entering a line is answered, with room for so many lines
abbrev pub enter_answer : ℕ → ℕ → List Line → Line → Answer
enter_answer today room ls l =
    if not (is_well_formed l) then refused (number Value) l.reference
    else if has_rank line_rank l.reference ls then refused (number KeyPresent) l.reference
    else if not (is_well_dated today l.block) then refused (number Date) l.reference
    else if nat_lt most_titles (titles_with l ls) then refused (number TitlesLimit) l.reference
    else if nat_lt (length ls) room then accepted
    else refused (number Full) l.reference

-- what withdrawing a reference is answered
abbrev pub withdraw_answer : List Line → ℕ → Answer
withdraw_answer ls r =
    if r == 0 then refused (number Value) r
    else if has_rank line_rank r ls then accepted
    else refused (number NotStanding) r

-- the refusal of a line without price, percentage or rate, or 0: cash-only lines need none of
-- them, and only trades need a rate
abbrev pub fault : Setting → Line → ℕ
fault s l =
    if is_same_block (block_name l.block) cash_only then 0
    else if not (has_price s l.isin) then number NoPrice
    else if not (has_percentage s l.isin) then number NoPercentage
    else if is_trade l && not (has_rate s l) then number NoRate
    else 0

-- the first fault among lines, or else the margin of all
abbrev pub answer_among : Setting → List Line → List Line → Answer
answer_among s all [] = given (margin s all) (rounded_amounts all)
answer_among s all (l ∷ ls) =
    if fault s l == 0 then answer_among s all ls
    else refused (fault s l) l.reference

-- the answer to a margin; lines stand by reference, so the lowest one with a fault is refused
abbrev pub margin_answer : Setting → List Line → Answer
margin_answer s ls = answer_among s ls ls

-- the answer that is due to a call, by the lines that stand
abbrev pub due_answer : Setting → ℕ → List Line → Call → Answer
due_answer s room ls (Enter l) = enter_answer s.today room ls l
due_answer s room ls (Withdraw r) = withdraw_answer ls r
due_answer s room ls AskMargin = margin_answer s ls

-- each answer is the one that is due, by the lines that stand before it
abbrev pub EachDue : Setting → ℕ → List Line → List Event → Type 0
EachDue s room ls [] = ⊤
EachDue s room ls (e ∷ es) =
    (e.1 ≡ due_answer s room ls e.0) × EachDue s room (lines_after e.0 e.1 ls) es
