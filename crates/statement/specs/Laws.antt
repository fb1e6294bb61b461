-- What is known of a statement by its text.
use Rattle.std.specs.Prelude.{◌≡◌, ◌≢◌, ℕ, ◌^◌, ◌<◌, List, [], ◌∷◌, length, FitsSigned, ⊤}
use Rattle.std.specs.Int.{w64}
use Rattle.account.specs.declared.row.Row.{Row}
use Rattle.account.specs.declared.margin.Margin.{Margin}
use Rattle.statement.specs.Statements.{statement_text}

-- bytes without the two that end a cell, the semicolon and the line feed
abbrev pub IsCell : List ℕ → Type 0
IsCell [] = ⊤
IsCell (b ∷ bs) = ((b ≢ 59) × (b ≢ 10)) × IsCell bs

-- a row with an ISIN of twelve bytes that are a cell, and amounts of 64 bits
pub record RowFits (r : Row) : Type 0 where
  pub twelve : length r.isin.bytes ≡ 12
  pub cell : IsCell r.isin.bytes
  pub initial : r.initial_margin < 2 ^ 64
  pub variation : FitsSigned w64 r.variation_margin

-- the same of each row
abbrev pub EachRowFits : List Row → Type 0
EachRowFits [] = ⊤
EachRowFits (r ∷ rs) = RowFits r × EachRowFits rs

-- a margin of 64 bits and its count of 32
pub record MarginFits (m : Margin) : Type 0 where
  pub cents : m.cents < 2 ^ 64
  pub rounded : m.rounded_amounts < 2 ^ 32

-- the text of a statement is of one list of rows and of one margin: no others have the same text
abbrev pub StatementLaw : Type 0
StatementLaw =
    (rows others : List Row) (margin other : Margin) →
    EachRowFits rows → EachRowFits others → MarginFits margin → MarginFits other →
    statement_text rows margin.cents margin.rounded_amounts
    ≡ statement_text others other.cents other.rounded_amounts →
    (rows ≡ others) × (margin ≡ other)
