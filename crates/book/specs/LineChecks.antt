-- What the checks of a line answer.
use Rattle.std.specs.Prelude.{◌≡◌, ℕ, ◌≤◌, Bool, ◌&&◌, nat_le, List, Ok, Err, Result, IsTrue, IsFalse}
use Rattle.quantities.specs.declared.refusal.Refusal.{Refusal}
use Rattle.quantities.specs.Ranges.{most_cash, most_titles, highest_reference}
use Rattle.quantities.specs.Refusals.{number}
use Rattle.register.specs.Keys.{has_rank}
use Rattle.account.specs.declared.line.Line.{Line}
use Rattle.account.specs.Lines.{block_name, is_same_block, keep, sum_of}
use Rattle.account.specs.declared.block_name.BlockName.{BlockName}
use Rattle.account.specs.Calls.{refused, line_rank}
use Rattle.account.specs.Answers.{has_titles, is_well_formed, is_well_dated, titles_with, enter_answer}
use Rattle.book.specs.declared.standing.Places.{Places}
use Rattle.book.specs.Standing.{HasPlaces}

-- accepted where a test holds, and elsewhere refused by the number of a refusal
abbrev pub RefusesUnless : Bool → Refusal → Result (Unit {0}) Refusal → Type 0
RefusesUnless passes refusal (Ok _) = IsTrue passes
RefusesUnless passes refusal (Err e) = IsFalse passes × (number e ≡ number refusal)

-- each part of a line has its form and range, its ISIN left out
abbrev pub parts_fit : Line → Bool
parts_fit l =
    (nat_le 1 l.reference && nat_le l.reference highest_reference)
    && (has_titles (block_name l.block) l.titles && nat_le l.cash most_cash)

-- the titles of a block among lines
abbrev pub block_titles : BlockName → List Line → ℕ
block_titles k ls =
    sum_of (λ l. l.titles) (keep (λ l. is_same_block (block_name l.block) k) ls)

-- a line that passes every check, and only wants a place
pub record IsAdmissible (today : ℕ) (ls : List Line) (l : Line) : Type 0 where
  pub formed : IsTrue (is_well_formed l)
  pub new : IsFalse (has_rank line_rank l.reference ls)
  pub dated : IsTrue (is_well_dated today l.block)
  pub titles : titles_with l ls ≤ most_titles

-- a line is admitted with its places, or else refused as it is due whatever the room
abbrev pub AdmitsLine : ℕ → List Line → Line → Result Places Refusal → Type 0
AdmitsLine today ls l (Ok p) = IsAdmissible today ls l × HasPlaces l ls p
AdmitsLine today ls l (Err e) =
    (room : ℕ) → refused (number e) l.reference ≡ enter_answer today room ls l
