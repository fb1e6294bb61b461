-- Lines by their ISINs.
use Rattle.std.specs.Prelude.{◌≡◌, ℕ, ◌+◌, ◌-◌, ◌*◌, ◌^◌, ◌<◌, Bool, List, [], ◌∷◌, take, drop, IsTrue, IsFalse, ⊤}
use Rattle.std.specs.List.{AllByRecursion}
use Rattle.quantities.specs.declared.isin.Isin.{Isin}
use Rattle.register.specs.Bytes.{Bytes}
use Rattle.register.specs.Keys.{Ascends, inserted_by}
use Rattle.register.specs.Places.{records_at}
use Rattle.market.specs.Records.{isin_rank}
use Rattle.account.specs.declared.block.Block.TheVariants.{Trade}
use Rattle.account.specs.declared.line.Line.{Line}
use Rattle.account.specs.declared.side.Side.TheVariants.{Bought}
use Rattle.account.specs.declared.isin_reference.IsinReference.{IsinReference}
use Rattle.account.specs.Calls.{line_rank}
use Rattle.account.specs.Lines.{same_isin, keep}

-- ISINs come in byte order, and the references of one ISIN in theirs
abbrev pub reference_rank : IsinReference → ℕ
reference_rank k = isin_rank k.isin * 2 ^ 32 + k.reference

-- so do lines
abbrev pub isin_line_rank : Line → ℕ
isin_line_rank l = isin_rank l.isin * 2 ^ 32 + l.reference

-- lines by ISIN, and those of an ISIN by reference
abbrev pub lines_by_isin : List Line → List Line
lines_by_isin [] = []
lines_by_isin (l ∷ ls) = inserted_by isin_line_rank l (lines_by_isin ls)

-- what is read past the end of lines
abbrev pub no_line : Line
no_line =
    record {
      reference = 0;
      isin = record { bytes = [] };
      side = Bought;
      titles = 0;
      cash = 0;
      block = Trade 0;
    }

-- the lines that stand at places
abbrev pub lines_at : List ℕ → List Line → List Line
lines_at places ls = records_at no_line ls places

-- the lines beside a rank: the one before it and its own, or the first two
abbrev pub lines_beside : ℕ → List Line → List Line
lines_beside rank ls = take 2 (drop (rank - 1) ls)

-- the first line, if there is one, is of another ISIN
abbrev pub OtherFirst : Isin → List Line → Type 0
OtherFirst i [] = ⊤
OtherFirst i (l ∷ ls) = IsFalse (same_isin l.isin i)

-- those of a list that pass a test stand at its end
abbrev pub StandAtEnd : {X : Type 0} → (X → Bool) → List X → Type 0
StandAtEnd p [] = ⊤
StandAtEnd p (x ∷ xs) =
    (IsTrue (p x) → AllByRecursion (λ y. IsTrue (p y)) xs) × StandAtEnd p xs

-- those of a list that pass a test stand at its front
abbrev pub StandAtFront : {X : Type 0} → (X → Bool) → List X → Type 0
StandAtFront p [] = ⊤
StandAtFront p (x ∷ xs) =
    (IsFalse (p x) → AllByRecursion (λ y. IsFalse (p y)) xs) × StandAtFront p xs

-- the lines of an ISIN stand together on both sides of a place
pub record StandTogether (i : Isin) (before after : List Line) : Type 0 where
  pub at_end : StandAtEnd (λ l. same_isin l.isin i) before
  pub at_front : StandAtFront (λ l. same_isin l.isin i) after

-- an ISIN of twelve bytes, and a reference of 32 bits: an ISIN outweighs every reference
abbrev pub FitsKey : Line → Type 0
FitsKey l = (l.reference < 2 ^ 32) × Bytes 12 l.isin.bytes

-- each reference has 32 bits
abbrev pub SmallReferences : List Line → Type 0
SmallReferences [] = ⊤
SmallReferences (l ∷ ls) = (l.reference < 2 ^ 32) × SmallReferences ls

-- lines that stand by reference: by ISIN they rise, and each ISIN has the lines that it had, in
-- their order
pub record StandsByIsin (ls : List Line) : Type 0 where
  pub rises : Ascends isin_line_rank (lines_by_isin ls)
  pub same_lines :
      (i : Isin) →
      keep (λ l. same_isin l.isin i) (lines_by_isin ls) ≡ keep (λ l. same_isin l.isin i) ls

abbrev pub ByIsinLaw : Type 0
ByIsinLaw = (ls : List Line) → Ascends line_rank ls → SmallReferences ls → StandsByIsin ls
