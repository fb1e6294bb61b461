-- Books with the same lines, whatever their references and order, have one margin and as many rounded amounts.
use Rattle.std.proofs.Common.{◌≡◌, ℕ, ◌+◌, min, Bool, true, false, cond, List, [], ◌∷◌, length, pos, sym, refl, ap, ◌∙◌, ap₂, inl, arith}
use Rattle.std.proofs.lemmas.Int.{ints}
use Rattle.quantities.specs.declared.isin.Isin.{Isin}
use Rattle.account.specs.declared.line.Line.{Line}
use Rattle.account.specs.Lines.{same_isin, is_trade, is_in_block, keep, sum_of, isins}
use Rattle.account.specs.declared.block_name.BlockName.{BlockName}
use Rattle.account.specs.declared.block_name.BlockName.TheVariants.{Trade as trade, Failed as failed, Held as held}
use Rattle.account.specs.Margin.{two_if_any, rounded_amounts_at, rounded_amounts}
use Rattle.account.specs.Calls.{given}
use Rattle.account.specs.Joint.{IsJointBook, HaveSameLines, SameLinesLaw}
use Rattle.account.proofs.Sums.{count, same_sum, sum_pos}
use Rattle.account.proofs.Terms.{bare, same_isin_decides, Adds, joint_adds, adds_ℕ}
use Rattle.account.proofs.Isins.{same_isin_itself, isins_count}
use Rattle.account.proofs.Answered.{parts, joint_law}

kept_long : (p : Line → Bool) (ls : List Line) → length (keep p ls) ≡ sum_of (λ l. cond (p l) 1 0) ls
kept_long p [] = refl
kept_long p (l ∷ ls) = go (p l) (kept_long p ls)
  where
    go : (b : Bool) {n : ℕ} → length (keep p ls) ≡ n → length (cond b (l ∷ keep p ls) (keep p ls)) ≡ cond b 1 0 + n
    go true e = omega (arith, e)
    go false e = omega (arith, e)

two_by_length : (xs ys : List Line) → length xs ≡ length ys → two_if_any xs ≡ two_if_any ys
two_by_length [] [] e = refl
two_by_length [] (y ∷ ys) e = absurd (omega arith)
two_by_length (x ∷ xs) [] e = absurd (omega arith)
two_by_length (x ∷ xs) (y ∷ ys) e = refl

same_at : (f g : Isin → ℕ) → ((i : Isin) → f i ≡ g i) → (is : List Isin) → sum_of f is ≡ sum_of g is
same_at f g h [] = refl
same_at f g h (i ∷ is) = ap₂ ◌+◌ (h i) (same_at f g h is)

-- a book is the joint book of one with the same lines and one without lines
module _ (a b : List Line) (same : HaveSameLines a b) where
  joint : IsJointBook a [] b
  joint x = omega (arith, same x)

  adds : Adds a [] b
  adds = joint_adds a [] b joint

  as_many : (p : Line → Bool) → ((l : Line) → p (bare l) ≡ p l) → length (keep p b) ≡ length (keep p a)
  as_many p kept = omega (arith, adds_ℕ adds (λ l. cond (p l) 1 0) (λ l. ap (λ t. cond t 1 0) (kept l)), kept_long p a, kept_long p b)

  two_alike : (i : Isin) (k : BlockName) → two_if_any (keep (is_in_block i k) b) ≡ two_if_any (keep (is_in_block i k) a)
  two_alike i k = two_by_length _ _ (as_many (is_in_block i k) (λ l. refl))

  rounded_alike_at : (i : Isin) → rounded_amounts_at b i ≡ rounded_amounts_at a i
  rounded_alike_at i = ap₂ ◌+◌ (two_alike i trade) (ap₂ ◌+◌ (two_alike i failed) (two_alike i held))

  isins_alike : (x : Isin) → count same_isin x (isins b) ≡ count same_isin x (isins a)
  isins_alike x = isins_count x b ∙ ap (min 1) (let e = adds_ℕ adds (λ l. cond (same_isin x l.isin) 1 0) (λ l. refl) in omega (arith, e)) ∙ sym (isins_count x a)

  over_isins : sum_of (rounded_amounts_at a) (isins b) ≡ sum_of (rounded_amounts_at a) (isins a)
  over_isins =
      let f : Isin → ℕ = rounded_amounts_at a in
      let e = same_sum same_isin same_isin_itself (λ x y z e. ap (same_isin z) ((same_isin_decides x y).0 e)) (λ i. pos (f i)) (λ x y e. ap (λ i. pos (f i)) ((same_isin_decides x y).0 e)) (isins b) (isins a) (λ x. inl (isins_alike x)) in
      omega (arith, ints, e, sum_pos f (isins b), sum_pos f (isins a))

  rounded_alike : rounded_amounts b ≡ rounded_amounts a
  rounded_alike =
      ap₂ ◌+◌ (same_at (rounded_amounts_at b) (rounded_amounts_at a) rounded_alike_at (isins b) ∙ over_isins) (as_many is_trade (λ l. refl))

pub same_lines_law : SameLinesLaw
same_lines_law s a b m k net same e =
    let there = joint_law s a [] b m k 0 0 net (joint a b same) e refl in
    let back = joint_law s b [] a there.0 there.1 0 0 net (joint b a (λ x. sym (same x))) there.2 refl in
    let one = parts s a m k e in
    let two = parts s a back.0 back.1 back.2 in
    let other = parts s b there.0 there.1 there.2 in
    there.2 ∙ ap₂ given (let p = there.3 in let q = back.3 in omega (arith, one.0, two.0)) (other.1 ∙ rounded_alike a b same ∙ sym one.1)
