-- Lines, and the questions asked of them.
use Rattle.std.specs.Prelude.{◌≡◌, ℕ, ◌+◌, Bool, true, false, ◌&&◌, ◌||◌, List, [], ◌∷◌, replicate, ℤ, pos, ◌+ℤ◌, ◌==◌, if◌then◌else◌, ⊤}
use Rattle.std.specs.Str.{bytes_eq}
use Rattle.quantities.specs.declared.isin.Isin.{Isin}
use Rattle.register.specs.Bytes.{Bytes}
use Rattle.register.specs.Keys.{Ascends, inserted_by}
use Rattle.market.specs.Records.{isin_rank}
use Rattle.account.specs.declared.side.Side.{Side}
use Rattle.account.specs.declared.side.Side.TheVariants.{Bought, Sold}
use Rattle.account.specs.declared.block.Block.{Block}
use Rattle.account.specs.declared.block.Block.TheVariants.{Trade, Failed, Held, CashOnly}
use Rattle.account.specs.declared.block_name.BlockName.{BlockName}
use Rattle.account.specs.declared.block_name.BlockName.TheVariants.{Trade as trade, Failed as failed, Held as held, CashOnly as cash_only}
use Rattle.account.specs.declared.line.Line.{Line}

-- what a free place for a line may hold: a reference under which no line stands, and nothing else
abbrev pub free_line : Line
free_line =
    record {
      reference = 0;
      isin = record { bytes = replicate 12 0 };
      side = Bought;
      titles = 0;
      cash = 0;
      block = Trade 0;
    }

-- the block of a line, without its date
abbrev pub block_name : Block → BlockName
block_name (Trade d) = trade
block_name (Failed d) = failed
block_name (Held d) = held
block_name (CashOnly d) = cash_only

-- the block of a name, with a date
abbrev pub dated_block : BlockName → ℕ → Block
dated_block trade d = Trade d
dated_block failed d = Failed d
dated_block held d = Held d
dated_block cash_only d = CashOnly d

-- the date of a line, which for a trade is its settlement date
abbrev pub date : Block → ℕ
date (Trade d) = d
date (Failed d) = d
date (Held d) = d
date (CashOnly d) = d

-- whether two blocks are one
abbrev pub is_same_block : BlockName → BlockName → Bool
is_same_block trade trade = true
is_same_block failed failed = true
is_same_block held held = true
is_same_block cash_only cash_only = true
is_same_block j k = false

-- whether two sides are one
abbrev pub same_side : Side → Side → Bool
same_side Bought Bought = true
same_side Sold Sold = true
same_side s t = false

-- whether two ISINs are one
abbrev pub same_isin : Isin → Isin → Bool
same_isin i j = bytes_eq i.bytes j.bytes

-- a number of a bought line, and 0 of a sold one
abbrev pub if_bought : Side → ℕ → ℕ
if_bought Bought n = n
if_bought Sold n = 0

-- a number of a sold line, and 0 of a bought one
abbrev pub if_sold : Side → ℕ → ℕ
if_sold Bought n = 0
if_sold Sold n = n

-- whether a line is a trade
abbrev pub is_trade : Line → Bool
is_trade l = is_same_block (block_name l.block) trade

-- whether a line is of an ISIN and block
abbrev pub is_in_block : Isin → BlockName → Line → Bool
is_in_block i k l = same_isin l.isin i && is_same_block (block_name l.block) k

-- whether two lines are the same, their references left out
abbrev pub same_terms : Line → Line → Bool
same_terms a b =
    same_isin a.isin b.isin
    && (same_side a.side b.side
    && (a.titles == b.titles
    && (a.cash == b.cash
    && (is_same_block (block_name a.block) (block_name b.block) && date a.block == date b.block))))

-- keep, sum_of and any are the library's filter, sum_by and list_any, written out here so that an
-- auditor reads them beside the lines

-- those of a list that pass a test
abbrev pub keep : {X : Type 0} → (X → Bool) → List X → List X
keep p [] = []
keep p (x ∷ xs) = if p x then x ∷ keep p xs else keep p xs

-- a number of each, all added
abbrev pub sum_of : {X : Type 0} → (X → ℕ) → List X → ℕ
sum_of f [] = 0
sum_of f (x ∷ xs) = f x + sum_of f xs

-- the same of numbers that may be negative
abbrev pub sum_ℤ : {X : Type 0} → (X → ℤ) → List X → ℤ
sum_ℤ f [] = pos 0
sum_ℤ f (x ∷ xs) = f x +ℤ sum_ℤ f xs

-- whether one of a list passes a test
abbrev pub any : {X : Type 0} → (X → Bool) → List X → Bool
any p [] = false
any p (x ∷ xs) = p x || any p xs

-- whether an ISIN is among ISINs
abbrev pub has_isin : Isin → List Isin → Bool
has_isin i js = any (same_isin i) js

-- one more ISIN, in byte order and once only
abbrev pub with_isin : Isin → List Isin → List Isin
with_isin i js = if has_isin i js then js else inserted_by isin_rank i js

-- the ISINs that have a line, in byte order, each once
abbrev pub isins : List Line → List Isin
isins [] = []
isins (l ∷ ls) = with_isin l.isin (isins ls)

-- each line has an ISIN of twelve bytes
abbrev pub TwelveBytes : List Line → Type 0
TwelveBytes [] = ⊤
TwelveBytes (l ∷ ls) = Bytes 12 l.isin.bytes × TwelveBytes ls

-- the ISINs of lines ascend in byte order, and are just those that the lines have
abbrev pub IsinsLaw : Type 0
IsinsLaw =
    (ls : List Line) → TwelveBytes ls →
    Ascends isin_rank (isins ls)
    × ((i : Isin) → has_isin i (isins ls) ≡ any (λ l. same_isin i l.isin) ls)
