-- When a line is entered, when one is withdrawn and when a margin is given, and else with which
-- number the call is refused.
use Rattle.std.specs.Prelude.{◌≡◌, ◌≢◌, ℕ, ◌+◌, ◌<◌, ◌≤◌, ◌↔◌, List, ◌∷◌, ◌++◌, length, IsTrue}
use Rattle.std.specs.List.{Contains, AllByRecursion as Each}
use Rattle.quantities.specs.Ranges.{most_cash, most_titles, highest_reference}
use Rattle.quantities.specs.Isins.{is_isin}
use Rattle.quantities.specs.Tranches.{tranche_number}
use Rattle.market.specs.declared.price.Price.{Price}
use Rattle.market.specs.declared.percentage.Percentage.{Percentage}
use Rattle.account.specs.declared.line.Line.{Line}
use Rattle.account.specs.declared.block.Block.{Block}
use Rattle.account.specs.declared.block.Block.TheVariants.{Trade, Failed, Held, CashOnly}
use Rattle.account.specs.declared.block_name.BlockName.{BlockName}
use Rattle.account.specs.declared.block_name.BlockName.TheVariants.{Trade as trade, Failed as failed, Held as held, CashOnly as cash_only}
use Rattle.account.specs.Lines.{block_name, TwelveBytes}
use Rattle.account.specs.Settings.{Setting, tranche_of, line_term}
use Rattle.account.specs.Margin.{margin, rounded_amounts}
use Rattle.account.specs.Calls.{Answer, accepted, refused, given}
use Rattle.account.specs.Answers.{titles_with, enter_answer, withdraw_answer, margin_answer}
use Rattle.account.specs.Standing.{StandsUnder}

-- a cash-only line has no titles, any other 1 to 2,000,000
abbrev pub HasTitles : BlockName → ℕ → Type 0
HasTitles trade n = (1 ≤ n) × (n ≤ most_titles)
HasTitles failed n = (1 ≤ n) × (n ≤ most_titles)
HasTitles held n = (1 ≤ n) × (n ≤ most_titles)
HasTitles cash_only n = n ≡ 0

-- each part of a line is in its form and range
pub record IsInForm (l : Line) : Type 0 where
  pub reference : (1 ≤ l.reference) × (l.reference ≤ highest_reference)
  pub isin : IsTrue (is_isin l.isin.bytes)
  pub titles : HasTitles (block_name l.block) l.titles
  pub cash : l.cash ≤ most_cash

-- a trade settles from today to 365 days later, any other line is dated today at the latest
abbrev pub IsInItsDays : ℕ → Block → Type 0
IsInItsDays today (Trade d) = (today ≤ d) × (d ≤ today + 365)
IsInItsDays today (Failed d) = d ≤ today
IsInItsDays today (Held d) = d ≤ today
IsInItsDays today (CashOnly d) = d ≤ today

-- the form of a line is right, no line stands under its reference, it is dated within the days of
-- its block, and the titles of its ISIN and block with it are not too many
pub record CanStand (today : ℕ) (ls : List Line) (l : Line) : Type 0 where
  pub form : IsInForm l
  pub new : ¬ StandsUnder l.reference ls
  pub days : IsInItsDays today l.block
  pub titles : titles_with l ls ≤ most_titles

-- an enter is accepted where the line can stand and there is room for it; else it is refused for
-- the first of its form, its reference, its date, its titles and its room that is wrong
pub record IsEnterAnswer (today room : ℕ) (ls : List Line) (l : Line) (a : Answer) :
    Type 0 where
  pub is_accepted : (a ≡ accepted) ↔ (CanStand today ls l × (length ls < room))
  pub refused_4 : (a ≡ refused 4 l.reference) ↔ (¬ IsInForm l)
  pub refused_6 : (a ≡ refused 6 l.reference) ↔ (IsInForm l × StandsUnder l.reference ls)
  pub refused_7 :
      (a ≡ refused 7 l.reference)
      ↔ (IsInForm l × ¬ StandsUnder l.reference ls × ¬ IsInItsDays today l.block)
  pub refused_8 :
      (a ≡ refused 8 l.reference)
      ↔ (IsInForm l × ¬ StandsUnder l.reference ls × IsInItsDays today l.block
      × (most_titles < titles_with l ls))
  pub refused_9 : (a ≡ refused 9 l.reference) ↔ (CanStand today ls l × (room ≤ length ls))

-- a withdraw is accepted where a line stands under the reference, which is not 0
pub record IsWithdrawAnswer (ls : List Line) (r : ℕ) (a : Answer) : Type 0 where
  pub is_accepted : (a ≡ accepted) ↔ ((r ≢ 0) × StandsUnder r ls)
  pub refused_4 : (a ≡ refused 4 r) ↔ (r ≡ 0)
  pub refused_13 : (a ≡ refused 13 r) ↔ ((r ≢ 0) × ¬ StandsUnder r ls)

-- a line has a price: one of its ISIN
pub record IsPriced (s : Setting) (l : Line) : Type 0 where
  pub price : Price
  pub stands : Contains s.prices price
  pub isin : price.isin ≡ l.isin

-- a line has a percentage: one of the tranche of its ISIN
pub record HasPercentage (s : Setting) (l : Line) : Type 0 where
  pub percentage : Percentage
  pub stands : Contains s.percentages percentage
  pub tranche : tranche_number percentage.tranche ≡ tranche_of s l.isin

-- a line has a rate: the curve reaches beyond its term
abbrev pub IsRated : Setting → Line → Type 0
IsRated s l = line_term s l < s.reach

-- a line has what its block needs: cash-only lines need nothing, and only trades need a rate
pub record LacksNothing (s : Setting) (l : Line) : Type 0 where
  pub priced : block_name l.block ≢ cash_only → IsPriced s l
  pub percentage : block_name l.block ≢ cash_only → HasPercentage s l
  pub rated : block_name l.block ≡ trade → IsRated s l

-- a line that is not cash-only lacks a price
pub record LacksPrice (s : Setting) (l : Line) : Type 0 where
  pub with_titles : block_name l.block ≢ cash_only
  pub lacking : ¬ IsPriced s l

-- it has one, but lacks a percentage
pub record LacksPercentage (s : Setting) (l : Line) : Type 0 where
  pub with_titles : block_name l.block ≢ cash_only
  pub priced : IsPriced s l
  pub lacking : ¬ HasPercentage s l

-- a trade has both, but lacks a rate
pub record LacksRate (s : Setting) (l : Line) : Type 0 where
  pub is_trade : block_name l.block ≡ trade
  pub priced : IsPriced s l
  pub percentage : HasPercentage s l
  pub lacking : ¬ IsRated s l

-- a line of this reference lacks what is said, and no line before it lacks anything: as lines stand
-- by reference, it is the lowest one that lacks something
pub record FirstLacks (Lacks : Setting → Line → Type 0) (s : Setting) (ls : List Line) (r : ℕ) :
    Type 0 where
  pub before : List Line
  pub line : Line
  pub behind : List Line
  pub lines_are : ls ≡ before ++ (line ∷ behind)
  pub none_before : Each (LacksNothing s) before
  pub lacks : Lacks s line
  pub reference : line.reference ≡ r

-- a margin is given where no line lacks anything, and is that of those lines; else the call is
-- refused for the first line that lacks a price, a percentage or a rate
pub record IsMarginAnswer (s : Setting) (ls : List Line) (a : Answer) : Type 0 where
  pub is_given :
      (m k : ℕ) →
      (a ≡ given m k)
      ↔ (Each (LacksNothing s) ls × (m ≡ margin s ls) × (k ≡ rounded_amounts ls))
  pub refused_10 : (r : ℕ) → (a ≡ refused 10 r) ↔ FirstLacks LacksPrice s ls r
  pub refused_11 : (r : ℕ) → (a ≡ refused 11 r) ↔ FirstLacks LacksPercentage s ls r
  pub refused_12 : (r : ℕ) → (a ≡ refused 12 r) ↔ FirstLacks LacksRate s ls r
  pub not_accepted : a ≢ accepted

abbrev pub EnterLaw : Type 0
EnterLaw =
    (today room : ℕ) (ls : List Line) (l : Line) →
    IsEnterAnswer today room ls l (enter_answer today room ls l)

abbrev pub WithdrawLaw : Type 0
WithdrawLaw = (ls : List Line) (r : ℕ) → IsWithdrawAnswer ls r (withdraw_answer ls r)

abbrev pub MarginAnswerLaw : Type 0
MarginAnswerLaw =
    (s : Setting) (ls : List Line) → TwelveBytes ls → IsMarginAnswer s ls (margin_answer s ls)
