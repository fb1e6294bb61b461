-- The rows of lines by ISIN are those of the lines.
use Rattle.std.proofs.Common.{◌≡◌, suc, ◌+◌, Bool, true, false, cond, ◌&&◌, ◌||◌, ltb, List, [], ◌∷◌, ◌++◌, length, sym, refl, ap, ◌∙◌, ap₂, subst, ⊎_elim}
use Rattle.std.proofs.lemmas.Bool.{true≢false, cases_Bool, cond_both}
use Rattle.quantities.specs.declared.isin.Isin.{Isin}
use Rattle.register.specs.Bytes.{Bytes}
use Rattle.register.specs.Keys.{Ascends, inserted_by}
use Rattle.market.specs.Records.{isin_rank}
use Rattle.account.specs.declared.line.Line.{Line}
use Rattle.account.specs.Lines.{block_name, is_same_block, same_isin, is_trade, is_in_block, keep, sum_of, has_isin, with_isin, isins, TwelveBytes}
use Rattle.account.specs.declared.block_name.BlockName.{BlockName}
use Rattle.account.specs.declared.block_name.BlockName.TheVariants.{Trade as trade, Failed as failed, Held as held, CashOnly as cash_only}
use Rattle.account.specs.Settings.{Setting}
use Rattle.account.specs.Rows.{if_any, block_row, block_rows, rows_of_isins, statement_rows}
use Rattle.account.specs.Margin.{total, margin, two_if_any, rounded_amounts_at, rounded_amounts}
use Rattle.account.specs.Calls.{line_rank}
use Rattle.account.specs.ByIsin.{isin_line_rank, lines_by_isin}
use Rattle.account.proofs.Terms.{same_isin_decides}
use Rattle.account.proofs.Ordered.{ranks_apart}
use Rattle.account.proofs.Sorted.{swapped}
use Rattle.account.proofs.ByIsin.{same_isin_kept}

-- ---- a test within an ISIN
keep_both : (p q : Line → Bool) (ls : List Line) → keep (λ l. p l && q l) ls ≡ keep (λ l. p l && q l) (keep p ls)
keep_both p q [] = refl
keep_both p q (l ∷ ls) = ⊎_elim
    (λ (e : p l ≡ true). rw (e, e) (ap (λ ks. cond (q l) (l ∷ ks) ks) (keep_both p q ls)))
    (λ (e : p l ≡ false). rw e (keep_both p q ls))
    (cases_Bool (p l))

pub of_kept : (i : Isin) (k : BlockName) (ls : List Line) → Ascends line_rank ls → keep (is_in_block i k) (lines_by_isin ls) ≡ keep (is_in_block i k) ls
of_kept i k ls up =
    let both = keep_both (λ l. same_isin l.isin i) (λ l. is_same_block (block_name l.block) k) in
    both (lines_by_isin ls) ∙ ap (keep (is_in_block i k)) (same_isin_kept i ls up) ∙ sym (both ls)

-- ---- the ISINs
has_inserted : (i j : Isin) (js : List Isin) → has_isin i (inserted_by isin_rank j js) ≡ (same_isin i j || has_isin i js)
has_inserted i j [] = refl
has_inserted i j (k ∷ ks) = ⊎_elim
    (λ (q : ltb (isin_rank j) (isin_rank k) ≡ true). rw q refl)
    (λ (q : ltb (isin_rank j) (isin_rank k) ≡ false). rw q (ap (λ b. same_isin i k || b) (has_inserted i j ks) ∙ go (same_isin i k) (same_isin i j) (has_isin i ks)))
    (cases_Bool (ltb (isin_rank j) (isin_rank k)))
  where
    go : (a b c : Bool) → (a || (b || c)) ≡ (b || (a || c))
    go true true c = refl
    go true false c = refl
    go false true c = refl
    go false false c = refl

has_with : (i j : Isin) (js : List Isin) → same_isin i j ≡ false → has_isin i (with_isin j js) ≡ has_isin i js
has_with i j js e =
    cond_both (has_isin j js) js (inserted_by isin_rank j js) (λ ks. has_isin i ks ≡ has_isin i js) (λ q. refl) (λ q. has_inserted i j js ∙ ap (λ b. b || has_isin i js) e)

with_swapped : (i j : Isin) (js : List Isin) → Bytes 12 i.bytes → Bytes 12 j.bytes → with_isin i (with_isin j js) ≡ with_isin j (with_isin i js)
with_swapped i j js a b = ⊎_elim
    (λ (e : same_isin i j ≡ true). subst (λ k. with_isin i (with_isin k js) ≡ with_isin k (with_isin i js)) ((same_isin_decides i j).0 e) refl)
    (λ (e : same_isin i j ≡ false).
    let f : same_isin j i ≡ false = not_true (same_isin j i) (λ q. true≢false (sym ((same_isin_decides i j).1 (sym ((same_isin_decides j i).0 q))) ∙ e)) in
    apart e (has_with i j js e) (has_with j i js f))
    (cases_Bool (same_isin i j))
  where
    not_true : (c : Bool) → (c ≡ true → ⊥) → c ≡ false
    not_true true h = absurd (h refl)
    not_true false h = refl

    apart : same_isin i j ≡ false → has_isin i (with_isin j js) ≡ has_isin i js → has_isin j (with_isin i js) ≡ has_isin j js → with_isin i (with_isin j js) ≡ with_isin j (with_isin i js)
    apart e p q = ⊎_elim
        (λ (h : has_isin i js ≡ true). ⊎_elim (λ (g : has_isin j js ≡ true). rw (p, q, h, g) refl) (λ (g : has_isin j js ≡ false). rw (p, q, h, g) refl) (cases_Bool (has_isin j js)))
        (λ (h : has_isin i js ≡ false). ⊎_elim
        (λ (g : has_isin j js ≡ true). rw (p, q, h, g) refl)
        (λ (g : has_isin j js ≡ false). rw (p, q, h, g) (swapped isin_rank i j js (ranks_apart i j a b e)))
        (cases_Bool (has_isin j js)))
        (cases_Bool (has_isin i js))

isins_inserted : (l : Line) (ls : List Line) → Bytes 12 l.isin.bytes → TwelveBytes ls → isins (inserted_by isin_line_rank l ls) ≡ with_isin l.isin (isins ls)
isins_inserted l [] a b = refl
isins_inserted l (x ∷ xs) a b = ⊎_elim
    (λ (q : ltb (isin_line_rank l) (isin_line_rank x) ≡ true). rw q refl)
    (λ (q : ltb (isin_line_rank l) (isin_line_rank x) ≡ false). rw q (ap (with_isin x.isin) (isins_inserted l xs a b.1) ∙ with_swapped x.isin l.isin (isins xs) b.0 a))
    (cases_Bool (ltb (isin_line_rank l) (isin_line_rank x)))

pub twelve_by_isin : (ls : List Line) → TwelveBytes ls → TwelveBytes (lines_by_isin ls)
twelve_by_isin [] b = tt
twelve_by_isin (l ∷ ls) b = inserted l (lines_by_isin ls) b.0 (twelve_by_isin ls b.1)
  where
    inserted : (x : Line) (xs : List Line) → Bytes 12 x.isin.bytes → TwelveBytes xs → TwelveBytes (inserted_by isin_line_rank x xs)
    inserted x [] a c = (a, tt)
    inserted x (y ∷ ys) a c = cond_both (ltb (isin_line_rank x) (isin_line_rank y)) (x ∷ (y ∷ ys)) (y ∷ inserted_by isin_line_rank x ys) TwelveBytes (λ q. (a, c)) (λ q. (c.0, inserted x ys a c.1))

pub isins_same : (ls : List Line) → TwelveBytes ls → isins (lines_by_isin ls) ≡ isins ls
isins_same [] b = refl
isins_same (l ∷ ls) b = isins_inserted l (lines_by_isin ls) b.0 (twelve_by_isin ls b.1) ∙ ap (with_isin l.isin) (isins_same ls b.1)

-- ---- the rows, the margin and its count
module _ (ls : List Line) (up : Ascends line_rank ls) (twelve : TwelveBytes ls) where
  rows_within : (s : Setting) (is : List Isin) → rows_of_isins s (lines_by_isin ls) is ≡ rows_of_isins s ls is
  rows_within s [] = refl
  rows_within s (i ∷ is) = ap₂ ◌++◌ (ap₂ ◌++◌ (block trade) (ap₂ ◌++◌ (block failed) (ap₂ ◌++◌ (block held) (block cash_only)))) (rows_within s is)
    where
      block : (k : BlockName) → block_rows s (lines_by_isin ls) i k ≡ block_rows s ls i k
      block k = ap (λ ks. if_any ks (block_row s i k ks)) (of_kept i k ls up)

  pub rows_same : (s : Setting) → statement_rows s (lines_by_isin ls) ≡ statement_rows s ls
  rows_same s = rows_within s (isins (lines_by_isin ls)) ∙ ap (rows_of_isins s ls) (isins_same ls twelve)

  pub margin_same : (s : Setting) → margin s (lines_by_isin ls) ≡ margin s ls
  margin_same s = ap total (rows_same s)

  rounded_within : (is : List Isin) → sum_of (rounded_amounts_at (lines_by_isin ls)) is ≡ sum_of (rounded_amounts_at ls) is
  rounded_within [] = refl
  rounded_within (i ∷ is) = ap₂ ◌+◌ (ap₂ ◌+◌ (two trade) (ap₂ ◌+◌ (two failed) (two held))) (rounded_within is)
    where
      two : (k : BlockName) → two_if_any (keep (is_in_block i k) (lines_by_isin ls)) ≡ two_if_any (keep (is_in_block i k) ls)
      two k = ap two_if_any (of_kept i k ls up)

  pub rounded_same : rounded_amounts (lines_by_isin ls) ≡ rounded_amounts ls
  rounded_same = ap₂ ◌+◌ (rounded_within (isins (lines_by_isin ls)) ∙ ap (sum_of (rounded_amounts_at ls)) (isins_same ls twelve)) (count_same is_trade ls)
    where
      count_inserted : (p : Line → Bool) (x : Line) (xs : List Line) → length (keep p (inserted_by isin_line_rank x xs)) ≡ length (keep p (x ∷ xs))
      count_inserted p x [] = refl
      count_inserted p x (y ∷ ys) = ⊎_elim
          (λ (q : ltb (isin_line_rank x) (isin_line_rank y) ≡ true). rw q refl)
          (λ (q : ltb (isin_line_rank x) (isin_line_rank y) ≡ false). rw q (go (p x) (p y) (keep p (inserted_by isin_line_rank x ys)) (keep p ys) (count_inserted p x ys)))
          (cases_Bool (ltb (isin_line_rank x) (isin_line_rank y)))
        where
          go : (a b : Bool) (ks ms : List Line) → length ks ≡ length (cond a (x ∷ ms) ms) → length (cond b (y ∷ ks) ks) ≡ length (cond a (x ∷ cond b (y ∷ ms) ms) (cond b (y ∷ ms) ms))
          go true true ks ms e = ap suc e
          go true false ks ms e = e
          go false true ks ms e = ap suc e
          go false false ks ms e = e

      count_same : (p : Line → Bool) (ms : List Line) → length (keep p (lines_by_isin ms)) ≡ length (keep p ms)
      count_same p [] = refl
      count_same p (m ∷ ms) = count_inserted p m (lines_by_isin ms) ∙ one_more (p m) (keep p (lines_by_isin ms)) (keep p ms) (count_same p ms)
        where
          one_more : (a : Bool) (ks ns : List Line) → length ks ≡ length ns → length (cond a (m ∷ ks) ks) ≡ length (cond a (m ∷ ns) ns)
          one_more true ks ns e = ap suc e
          one_more false ks ns e = e
