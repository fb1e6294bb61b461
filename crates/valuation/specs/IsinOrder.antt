-- Lines that come ISIN by ISIN, in byte order.
use Rattle.std.specs.Prelude.{ℕ, ◌≤◌, List, [], ◌∷◌, ⊤}
use Rattle.std.specs.Coded.{×_prop, Unit-prop, le_prop}
use Rattle.market.specs.Records.{isin_rank}
use Rattle.account.specs.declared.line.Line.{Line}

-- the ISINs of lines go up in byte order, from a rank on
abbrev pub Rises : ℕ → List Line → Type 0
Rises n [] = ⊤
Rises n (l ∷ ls) = (n ≤ isin_rank l.isin) × Rises (isin_rank l.isin) ls

pub Rises-prop : (n : ℕ) (ls : List Line) → IsProp (Rises n ls)
Rises-prop n [] = Unit-prop
Rises-prop n (l ∷ ls) = ×_prop le_prop (Rises-prop (isin_rank l.isin) ls)
