-- Lines by ISIN stand together on both sides of a place that one more would have.
use Rattle.std.proofs.Common.{◌≡◌, ℕ, ◌+◌, ◌*◌, ◌^◌, ◌<◌, ◌≤◌, Bool, true, false, ltb, List, [], ◌∷◌, take, drop, sym, ap, ◌∙◌, subst, ⊎_elim, arith}
use Rattle.std.specs.List.{AllByRecursion as All}
use Rattle.std.proofs.ByRecursion.{All-weaker}
use Rattle.std.proofs.lemmas.Bool.{true≢false, cases_Bool, cond_both, ltb-true, ltb-false}
use Rattle.quantities.specs.declared.isin.Isin.{Isin}
use Rattle.register.specs.Bytes.{Bytes}
use Rattle.register.specs.Keys.{Ascends, below_rank, from_rank}
use Rattle.register.specs.Search.{SplitsAt}
use Rattle.market.specs.Records.{isin_rank}
use Rattle.account.specs.declared.line.Line.{Line}
use Rattle.account.specs.Lines.{same_isin, TwelveBytes}
use Rattle.account.specs.Valid.{all_valid}
use Rattle.account.specs.ByIsin.{isin_line_rank, lines_by_isin, FitsKey, SmallReferences, StandAtEnd, StandAtFront, StandTogether}
use Rattle.account.proofs.Formed.{taken_bytes}
use Rattle.account.proofs.Terms.{same_isin_decides}
use Rattle.account.proofs.Ordered.{ranks_apart}
use Rattle.account.proofs.Sorted.{Rises, rises}
use Rattle.account.proofs.ByIsin.{taken_small, all_by_isin}

taken_fit : (today : ℕ) (ls : List Line) → all_valid today ls ≡ true → All FitsKey ls
taken_fit today ls t = go ls (taken_small today ls t) (taken_bytes today ls t)
  where
    go : (ls : List Line) → SmallReferences ls → TwelveBytes ls → All FitsKey ls
    go [] s b = tt
    go (l ∷ ls) s b = ((s.0, b.0), go ls s.1 b.1)

pub by_isin_fit : (today : ℕ) (ls : List Line) → all_valid today ls ≡ true → All FitsKey (lines_by_isin ls)
by_isin_fit today ls t = all_by_isin FitsKey ls (taken_fit today ls t)

-- a line whose rank is among those of an ISIN is of the ISIN
between : (i : Isin) (l : Line) → Bytes 12 i.bytes → FitsKey l → isin_rank i * 2 ^ 32 ≤ isin_line_rank l → isin_line_rank l < isin_rank i * 2 ^ 32 + 2 ^ 32 → same_isin l.isin i ≡ true
between i l b w low high =
    ⊎_elim (λ e. e) (λ (e : same_isin l.isin i ≡ false). let small = w.0 in absurd (ranks_apart l.isin i w.1 b e (omega arith))) (cases_Bool (same_isin l.isin i))

module _ (i : Isin) (n : ℕ) (b : Bytes 12 i.bytes) (low : isin_rank i * 2 ^ 32 ≤ n) (high : n < isin_rank i * 2 ^ 32 + 2 ^ 32) where
  abbrev is : Line → Bool
  is x = same_isin x.isin i

  -- ---- before the place
  within : (x : Line) (xs : List Line) → is x ≡ true → All (λ y. isin_line_rank x < isin_line_rank y) xs → All FitsKey xs → All (λ y. is y ≡ true) (below_rank isin_line_rank n xs)
  within x [] e a w = tt
  within x (y ∷ ys) e a w =
      cond_both (ltb (isin_line_rank y) n) (y ∷ below_rank isin_line_rank n ys) [] (All (λ y. is y ≡ true))
      (λ q. let l = ltb-true _ _ q in let up = a.0 in let same = ap isin_rank ((same_isin_decides x.isin i).0 e) in (between i y b w.0 (omega arith) (omega arith), within x ys e a.1 w.1))
      (λ q. tt)

  at_end_below : (xs : List Line) → Rises isin_line_rank xs → All FitsKey xs → StandAtEnd is (below_rank isin_line_rank n xs)
  at_end_below [] up w = tt
  at_end_below (x ∷ xs) up w =
      cond_both (ltb (isin_line_rank x) n) (x ∷ below_rank isin_line_rank n xs) [] (StandAtEnd is)
      (λ q. (λ e. within x xs e up.0 w.1, at_end_below xs up.1 w.1))
      (λ q. tt)

  -- ---- from the place on
  beyond : (x : Line) (xs : List Line) → is x ≡ false → FitsKey x → n ≤ isin_line_rank x → All (λ y. isin_line_rank x < isin_line_rank y) xs → All FitsKey xs → All (λ y. is y ≡ false) xs
  beyond x [] e v m a w = tt
  beyond x (y ∷ ys) e v m a w = (
    ⊎_elim
        (λ (q : is y ≡ true).
        let up = a.0 in
        let same = ap isin_rank ((same_isin_decides y.isin i).0 q) in
        let small = w.0.0 in
        absurd (true≢false (sym (between i x b v (omega arith) (omega arith)) ∙ e)))
        (λ q. q)
        (cases_Bool (is y)),
    beyond x ys e v m a.1 w.1,
  )

  at_front_above : (xs : List Line) → All (λ x. n ≤ isin_line_rank x) xs → Rises isin_line_rank xs → All FitsKey xs → StandAtFront is xs
  at_front_above [] m up w = tt
  at_front_above (x ∷ xs) m up w = (λ e. beyond x xs e w.0 m.0 up.0 w.1, at_front_above xs m.1 up.1 w.1)

  at_front_from : (xs : List Line) → Rises isin_line_rank xs → All FitsKey xs → StandAtFront is (from_rank isin_line_rank n xs)
  at_front_from [] up w = tt
  at_front_from (x ∷ xs) up w =
      cond_both (ltb (isin_line_rank x) n) (from_rank isin_line_rank n xs) (x ∷ xs) (StandAtFront is)
      (λ q. at_front_from xs up.1 w.1)
      (λ q. let m = ltb-false _ _ q in at_front_above (x ∷ xs) (m, All-weaker (λ y. isin_line_rank x < isin_line_rank y) (λ y. n ≤ isin_line_rank y) (λ y u. omega arith) xs up.0) up w)

pub beside_place : (l : Line) (xs : List Line) (p : ℕ) → FitsKey l → All FitsKey xs → Ascends isin_line_rank xs → SplitsAt isin_line_rank (isin_line_rank l) xs p →
    StandTogether l.isin (take p xs) (drop p xs)
beside_place l xs p v w up parts =
    let small = v.0 in
    let far = rises isin_line_rank xs up in
    record {
      at_end = subst (StandAtEnd (λ x. same_isin x.isin l.isin)) (sym parts.below) (at_end_below l.isin (isin_line_rank l) v.1 (omega arith) (omega arith) xs far w);
      at_front = subst (StandAtFront (λ x. same_isin x.isin l.isin)) (sym parts.from) (at_front_from l.isin (isin_line_rank l) v.1 (omega arith) (omega arith) xs far w);
    }
