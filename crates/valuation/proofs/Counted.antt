-- Each line is of one block; and how many are of one ISIN.
use Rattle.std.proofs.Common.{◌≡◌, ℕ, ◌+◌, Bool, true, false, cond, ◌&&◌, List, [], ◌∷◌, length, refl, ap, arith}
use Rattle.std.specs.List.{list_all}
use Rattle.std.proofs.lemmas.Bool.{and_parts}
use Rattle.quantities.specs.declared.isin.Isin.{Isin}
use Rattle.account.specs.declared.line.Line.{Line}
use Rattle.account.specs.Lines.{block_name, is_same_block, same_isin, is_in_block, keep}
use Rattle.account.specs.declared.block_name.BlockName.{BlockName}
use Rattle.account.specs.declared.block_name.BlockName.TheVariants.{Trade as trade, Failed as failed, Held as held, CashOnly as cash_only}

-- how many lines are of an ISIN
abbrev pub isin_line_count : Isin → List Line → ℕ
isin_line_count i ls = length (keep (λ l. same_isin l.isin i) ls)

length_first : {X : Type 0} (p : X → Bool) (x : X) (xs : List X) → length (keep p (x ∷ xs)) ≡ cond (p x) 1 0 + length (keep p xs)
length_first p x xs = go (p x)
  where
    go : (b : Bool) → length (cond b (x ∷ keep p xs) (keep p xs)) ≡ cond b 1 0 + length (keep p xs)
    go true = omega arith
    go false = omega arith

pub of_blocks : (i : Isin) (ls : List Line) → length (keep (is_in_block i trade) ls) + (length (keep (is_in_block i failed) ls) + (length (keep (is_in_block i held) ls) + length (keep (is_in_block i cash_only) ls))) ≡ isin_line_count i ls
of_blocks i [] = refl
of_blocks i (l ∷ ls) =
    omega (
      arith,
      length_first (is_in_block i trade) l ls,
      length_first (is_in_block i failed) l ls,
      length_first (is_in_block i held) l ls,
      length_first (is_in_block i cash_only) l ls,
      length_first (λ m. same_isin m.isin i) l ls,
      go (same_isin l.isin i) (block_name l.block),
      of_blocks i ls,
    )
  where
    go : (b : Bool) (k : BlockName) → cond (b && is_same_block k trade) 1 0 + (cond (b && is_same_block k failed) 1 0 + (cond (b && is_same_block k held) 1 0 + cond (b && is_same_block k cash_only) 1 0)) ≡ cond b 1 0
    go true trade = refl
    go true failed = refl
    go true held = refl
    go true cash_only = refl
    go false k = refl

-- lines of one ISIN are all of it
pub all_counted : (i : Isin) (xs : List Line) → list_all (λ l. same_isin l.isin i) xs ≡ true → isin_line_count i xs ≡ length xs
all_counted i [] h = refl
all_counted i (x ∷ xs) h =
    let p = and_parts (same_isin x.isin i) (list_all (λ l. same_isin l.isin i) xs) h in
    omega (arith, length_first (λ l. same_isin l.isin i) x xs, ap {B = ℕ} (λ b. cond b 1 0) p.0, all_counted i xs p.1)
