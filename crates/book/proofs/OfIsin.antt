-- The lines of an ISIN among those that stand.
use Rattle.std.proofs.Common.{◌≡◌, ℕ, zero, suc, ◌+◌, ◌-◌, ◌<◌, Bool, true, false, cond, ◌&&◌, List, [], ◌∷◌, length, take, drop, sym, refl, ap, ◌∙◌, subst, ⊎_elim, arith}
use Rattle.std.proofs.lemmas.Bool.{true≢false, and_parts, cases_Bool, cond-false}
use Rattle.quantities.specs.declared.isin.Isin.{Isin}
use Rattle.quantities.specs.Isins.{is_isin}
use Rattle.register.specs.Keys.{Ascends}
use Rattle.account.specs.declared.line.Line.{Line}
use Rattle.account.specs.Lines.{block_name, is_same_block, same_isin, is_in_block, keep, any, sum_of}
use Rattle.account.specs.declared.block_name.BlockName.{BlockName}
use Rattle.account.specs.Answers.{is_well_formed, is_well_dated, titles_of}
use Rattle.account.specs.Calls.{line_rank}
use Rattle.account.specs.ByIsin.{lines_beside, lines_by_isin}
use Rattle.account.specs.Valid.{all_valid}
use Rattle.account.proofs.Formed.{formed_parts}
use Rattle.account.proofs.Terms.{same_isin_decides}
use Rattle.account.proofs.ByIsin.{same_isin_kept}
use Rattle.book.specs.LineChecks.{block_titles}

-- an ISIN that stands already is one
known : (today : ℕ) (i : Isin) (ls : List Line) → all_valid today ls ≡ true → 0 < length (keep (λ l. same_isin l.isin i) ls) → is_isin i.bytes ≡ true
known today i [] t h = absurd (omega arith)
known today i (l ∷ ls) t h =
    let p = and_parts (is_well_formed l && is_well_dated today l.block) (all_valid today ls) t in
    ⊎_elim
    (λ (e : same_isin l.isin i ≡ true). ap (λ j. is_isin j.bytes) (sym ((same_isin_decides l.isin i).0 e)) ∙ (formed_parts l (and_parts (is_well_formed l) _ p.0).0).isin)
    (λ (e : same_isin l.isin i ≡ false). known today i ls p.1 (subst (λ ms. 0 < length ms) (cond-false (same_isin l.isin i) _ _ e) h))
    (cases_Bool (same_isin l.isin i))

-- ---- one that passes a test among a part of a list is among the list, and is kept
any_taken : {X : Type 0} (p : X → Bool) (n : ℕ) (xs : List X) → any p (take n xs) ≡ true → any p xs ≡ true
any_taken p zero xs h = absurd (true≢false (sym h))
any_taken p (suc n) [] h = h
any_taken p (suc n) (x ∷ xs) h = ⊎_elim
    (λ (e : p x ≡ true). rw e refl)
    (λ (e : p x ≡ false). rw e (any_taken p n xs (rw e at h)))
    (cases_Bool (p x))

any_dropped : {X : Type 0} (p : X → Bool) (n : ℕ) (xs : List X) → any p (drop n xs) ≡ true → any p xs ≡ true
any_dropped p zero xs h = h
any_dropped p (suc n) [] h = h
any_dropped p (suc n) (x ∷ xs) h = ⊎_elim
    (λ (e : p x ≡ true). rw e refl)
    (λ (e : p x ≡ false). rw e (any_dropped p n xs h))
    (cases_Bool (p x))

any_kept : {X : Type 0} (p : X → Bool) (xs : List X) → any p xs ≡ true → 0 < length (keep p xs)
any_kept p [] h = absurd (true≢false (sym h))
any_kept p (x ∷ xs) h = ⊎_elim
    (λ (e : p x ≡ true). rw e (omega arith))
    (λ (e : p x ≡ false). rw e (any_kept p xs (rw e at h)))
    (cases_Bool (p x))

-- an ISIN that a line beside a rank has is one
pub known_beside : (today : ℕ) (i : Isin) (ls : List Line) (rank : ℕ) → all_valid today ls ≡ true → Ascends line_rank ls → any (λ l. same_isin l.isin i) (lines_beside rank (lines_by_isin ls)) ≡ true → is_isin i.bytes ≡ true
known_beside today i ls rank t up h =
    let is = λ (l : Line). same_isin l.isin i in
    let sorted = lines_by_isin ls in
    known today i ls t (subst (λ ms. 0 < length ms) (same_isin_kept i ls up) (any_kept is sorted (any_dropped is (rank - 1) sorted (any_taken is 2 (drop (rank - 1) sorted) h))))

-- the titles of a block among the lines of an ISIN are those of the two
split_titles : (i : Isin) (k : BlockName) (ls : List Line) → block_titles k (keep (λ l. same_isin l.isin i) ls) ≡ titles_of i k ls
split_titles i k [] = refl
split_titles i k (l ∷ ls) = go (same_isin l.isin i) (is_same_block (block_name l.block) k) refl (split_titles i k ls)
  where
    go : (a b : Bool) → is_same_block (block_name l.block) k ≡ b → block_titles k (keep (λ m. same_isin m.isin i) ls) ≡ titles_of i k ls →
        block_titles k (cond a (l ∷ keep (λ m. same_isin m.isin i) ls) (keep (λ m. same_isin m.isin i) ls)) ≡ sum_of (λ m. m.titles) (cond (a && b) (l ∷ keep (is_in_block i k) ls) (keep (is_in_block i k) ls))
    go true true q e = rw q (ap (λ n. l.titles + n) e)
    go true false q e = rw q e
    go false b q e = e

pub titles_by_isin : (i : Isin) (k : BlockName) (ls same : List Line) → Ascends line_rank ls → same ≡ keep (λ l. same_isin l.isin i) (lines_by_isin ls) → block_titles k same ≡ titles_of i k ls
titles_by_isin i k ls same up e = ap (block_titles k) (e ∙ same_isin_kept i ls up) ∙ split_titles i k ls
