-- The ISINs of a list of lines, each once. So a sum over more ISINs is the same where what is added is 0, and a trade is counted at one ISIN only.
use Rattle.std.proofs.Common.{◌≡◌, ℕ, ◌+◌, ◌*◌, ◌≤◌, min, Bool, true, false, cond, ◌&&◌, ◌||◌, ltb, List, [], ◌∷◌, length, ℤ, pos, sym, refl, ap, subst, inl, inr, ⊎_elim, mul-le-mul_right, arith}
use Rattle.std.proofs.lemmas.Bool.{and_parts, cases_eq, cases_Bool, cond_both}
use Rattle.quantities.specs.declared.isin.Isin.{Isin}
use Rattle.register.specs.Keys.{inserted_by}
use Rattle.market.specs.Records.{isin_rank}
use Rattle.account.specs.declared.line.Line.{Line}
use Rattle.account.specs.Lines.{same_isin, is_trade, is_in_block, keep, sum_of, sum_ℤ, any, has_isin, with_isin, isins}
use Rattle.account.specs.declared.block_name.BlockName.{BlockName}
use Rattle.account.specs.declared.block_name.BlockName.TheVariants.{Trade as trade}
use Rattle.account.proofs.Sums.{one_if, sum_zero, sum_plus, sum_le, count, same_sum}
use Rattle.account.proofs.Terms.{same_isin_decides}

pub same_isin_itself : (i : Isin) → same_isin i i ≡ true
same_isin_itself i = (same_isin_decides i i).1 refl

-- ---- how often an ISIN stands among ISINs
pub any_count : {X : Type 0} (p : X → Bool) (xs : List X) → one_if (any p xs) ≡ min 1 (sum_of (λ x. cond (p x) 1 0) xs)
any_count p [] = refl
any_count p (x ∷ xs) = go (p x) (any p xs) (any_count p xs)
  where
    go : (b c : Bool) → one_if c ≡ min 1 (sum_of (λ y. cond (p y) 1 0) xs) → one_if (b || c) ≡ min 1 (cond b 1 0 + sum_of (λ y. cond (p y) 1 0) xs)
    go true c h = omega arith
    go false c h = omega arith

inserted_count : (x i : Isin) (js : List Isin) → count same_isin x (inserted_by isin_rank i js) ≡ one_if (same_isin x i) + count same_isin x js
inserted_count x i [] = refl
inserted_count x i (j ∷ js) =
    cond_both (ltb (isin_rank i) (isin_rank j)) (i ∷ (j ∷ js)) (j ∷ inserted_by isin_rank i js) (λ ks. count same_isin x ks ≡ one_if (same_isin x i) + count same_isin x (j ∷ js))
    (λ e. refl) (λ e. omega (arith, inserted_count x i js))

with_itself : (i : Isin) (js : List Isin) → count same_isin i js ≤ 1 → count same_isin i (with_isin i js) ≡ 1
with_itself i js h =
    cond_both (has_isin i js) js (inserted_by isin_rank i js) (λ ks. count same_isin i ks ≡ 1) (λ e. omega (arith, any_count (same_isin i) js, ap one_if e))
    (λ e. omega (arith, any_count (same_isin i) js, ap one_if e, inserted_count i i js, ap one_if (same_isin_itself i)))

with_other : (x i : Isin) (js : List Isin) → same_isin x i ≡ false → count same_isin x (with_isin i js) ≡ count same_isin x js
with_other x i js h =
    cond_both (has_isin i js) js (inserted_by isin_rank i js) (λ ks. count same_isin x ks ≡ count same_isin x js) (λ e. refl)
    (λ e. omega (arith, inserted_count x i js, ap one_if h))

-- how many lines are of an ISIN
abbrev pub lines_of : Isin → List Line → ℕ
lines_of x ls = sum_of (λ l. cond (same_isin x l.isin) 1 0) ls

pub isins_count : (x : Isin) (ls : List Line) → count same_isin x (isins ls) ≡ min 1 (lines_of x ls)
isins_count x [] = omega arith
isins_count x (l ∷ ls) =
    ⊎_elim
    (λ e. let one = subst (λ i. count same_isin x (with_isin i (isins ls)) ≡ 1) ((same_isin_decides x l.isin).0 e) (with_itself x (isins ls) (omega (arith, isins_count x ls))) in
    omega (arith, ap one_if e, one))
    (λ e. omega (arith, ap one_if e, with_other x l.isin (isins ls) e, isins_count x ls))
    (cases_Bool (same_isin x l.isin))

pub kept_none : (i : Isin) (k : BlockName) (ls : List Line) → lines_of i ls ≡ 0 → keep (is_in_block i k) ls ≡ []
kept_none i k [] h = refl
kept_none i k (l ∷ ls) h =
    cond_both (is_in_block i k l) (l ∷ keep (is_in_block i k) ls) (keep (is_in_block i k) ls) (λ ks. ks ≡ [])
    (λ e. let here : i ≡ l.isin = sym ((same_isin_decides l.isin i).0 (and_parts _ _ e).0) in
    absurd (omega (arith, ap one_if ((same_isin_decides i l.isin).1 here))))
    (λ e. kept_none i k ls (omega arith))

-- ---- a sum over the ISINs of more lines
pub sum_over : (f : Isin → ℤ) (ls more : List Line) → ((x : Isin) → lines_of x ls ≡ 0 → f x ≡ pos 0) → ((x : Isin) → lines_of x ls ≤ lines_of x more) → sum_ℤ f (isins more) ≡ sum_ℤ f (isins ls)
sum_over f ls more off le =
    same_sum same_isin same_isin_itself (λ x y z e. ap (same_isin z) ((same_isin_decides x y).0 e)) f (λ x y e. ap f ((same_isin_decides x y).0 e)) (isins more) (isins ls)
    (λ x. ⊎_elim (λ e. inr (off x e)) (λ n. inl (omega (arith, isins_count x more, isins_count x ls, le x))) (cases_eq (lines_of x ls) 0))

-- ---- the lines of each ISIN are lines
one_isin : (x : Isin) (n : ℕ) (is : List Isin) → sum_of (λ i. cond (same_isin x i) n 0) is ≤ count same_isin x is * n
one_isin x n [] = omega arith
one_isin x n (i ∷ is) = omega (arith, go (same_isin x i), one_isin x n is)
  where
    go : (b : Bool) → cond b n 0 ≤ cond b 1 0 * n
    go true = omega arith
    go false = omega arith

-- a number of each line is counted at one ISIN at most
pub once_each : (f : Line → ℕ) (ls all : List Line) → sum_of (λ i. sum_of (λ l. cond (same_isin l.isin i) (f l) 0) ls) (isins all) ≤ sum_of f ls
once_each f [] all = omega (arith, sum_zero (isins all))
once_each f (l ∷ ls) all =
    let once : count same_isin l.isin (isins all) ≤ 1 = omega (arith, isins_count l.isin all) in
    omega (
      arith,
      sum_plus (λ i. cond (same_isin l.isin i) (f l) 0) (λ i. sum_of (λ m. cond (same_isin m.isin i) (f m) 0) ls) (isins all),
      one_isin l.isin (f l) (isins all),
      mul-le-mul_right (f l) once,
      once_each f ls all,
    )

abbrev pub trade_one : Line → ℕ
trade_one l = cond (is_trade l) 1 0

pub trades_bound : (ls all : List Line) → sum_of (λ i. sum_of trade_one (keep (is_in_block i trade) ls)) (isins all) ≤ length (keep is_trade ls)
trades_bound ls all = omega (arith, sum_le _ _ (isins all) (λ i. kept i ls), once_each trade_one ls all, long ls)
  where
    kept : (i : Isin) (ms : List Line) → sum_of trade_one (keep (is_in_block i trade) ms) ≤ sum_of (λ l. cond (same_isin l.isin i) (trade_one l) 0) ms
    kept i [] = omega arith
    kept i (m ∷ ms) = omega (arith, go (same_isin m.isin i) (is_trade m) (keep (is_in_block i trade) ms), kept i ms)
      where
        go : (a b : Bool) (ks : List Line) → sum_of trade_one (cond (a && b) (m ∷ ks) ks) ≤ cond a (trade_one m) 0 + sum_of trade_one ks
        go true true ks = omega arith
        go true false ks = omega arith
        go false b ks = omega arith

    long : (ms : List Line) → sum_of trade_one ms ≤ length (keep is_trade ms)
    long [] = omega arith
    long (m ∷ ms) = omega (arith, go (is_trade m) (keep is_trade ms), long ms)
      where
        go : (b : Bool) (ks : List Line) → cond b 1 0 + length ks ≤ length (cond b (m ∷ ks) ks)
        go true ks = omega arith
        go false ks = omega arith
