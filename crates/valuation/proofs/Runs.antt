-- Lines whose ISINs go up: those of the first ISIN, and those that come after them.
use Rattle.std.proofs.Common.{◌≡◌, ℕ, ◌<◌, ◌≤◌, Bool, true, false, cond, ltb, List, [], ◌∷◌, ◌++◌, length, refl, ap, ◌∙◌, ap₂, subst, ⊎_elim, append-nil, arith}
use Rattle.std.specs.List.{AllByRecursion as All, list_all}
use Rattle.std.proofs.lemmas.Bool.{and_parts, cases_Bool, cond_both, cond-true, cond-false, lt-ltb}
use Rattle.quantities.specs.declared.isin.Isin.{Isin}
use Rattle.register.specs.Bytes.{Bytes}
use Rattle.register.specs.Keys.{inserted_by}
use Rattle.market.specs.Records.{isin_rank}
use Rattle.account.specs.declared.line.Line.{Line}
use Rattle.account.specs.Lines.{same_isin, is_in_block, keep, has_isin, with_isin, isins, TwelveBytes}
use Rattle.account.specs.declared.block_name.BlockName.{BlockName}
use Rattle.account.specs.declared.block_name.BlockName.TheVariants.{Trade as trade, Failed as failed, Held as held, CashOnly as cash_only}
use Rattle.account.specs.Settings.{Setting}
use Rattle.account.specs.Rows.{block_row, if_any, block_rows, isin_rows, rows_of_isins, statement_rows}
use Rattle.account.proofs.Ordered.{ranks_apart}
use Rattle.account.proofs.Terms.{same_isin_decides}
use Rattle.account.specs.ByIsin.{OtherFirst}
use Rattle.valuation.specs.IsinOrder.{Rises}

-- each line is of the ISIN
abbrev pub EachOf : Isin → List Line → Type 0
EachOf i [] = Unit {0}
EachOf i (l ∷ ls) = (l.isin ≡ i) × EachOf i ls

pub each_of : (i : Isin) (ls : List Line) → list_all (λ l. same_isin l.isin i) ls ≡ true → EachOf i ls
each_of i [] h = tt
each_of i (l ∷ ls) h = let p = and_parts (same_isin l.isin i) (list_all (λ m. same_isin m.isin i) ls) h in ((same_isin_decides l.isin i).0 p.0, each_of i ls p.1)

-- each line is of an ISIN that comes after that one
abbrev pub EachAfter : Isin → List Line → Type 0
EachAfter i [] = Unit {0}
EachAfter i (l ∷ ls) = (isin_rank i < isin_rank l.isin) × EachAfter i ls

-- ---- what stands after the lines of an ISIN
rises_on : (n : ℕ) (i : Isin) (ls ms : List Line) → EachOf i ls → 1 ≤ length ls → Rises n (ls ++ ms) → Rises (isin_rank i) ms
rises_on n i [] ms e h r = absurd (omega arith)
rises_on n i (l ∷ []) ms e h r = subst (λ j. Rises (isin_rank j) ms) e.0 r.1
rises_on n i (l ∷ (k ∷ ls)) ms e h r = rises_on (isin_rank l.isin) i (k ∷ ls) ms e.1 (omega arith) r.1

all_after : (n : ℕ) (i : Isin) (ls : List Line) → isin_rank i < n → Rises n ls → EachAfter i ls
all_after n i [] h r = tt
all_after n i (l ∷ ls) h r = (omega (arith, r.0), all_after (isin_rank l.isin) i ls (omega (arith, r.0)) r.1)

other_after : (i : Isin) (ls : List Line) → Bytes 12 i.bytes → TwelveBytes ls → OtherFirst i ls → Rises (isin_rank i) ls → EachAfter i ls
other_after i [] b t o r = tt
other_after i (l ∷ ls) b t o r =
    let above : isin_rank i < isin_rank l.isin = omega (arith, ranks_apart l.isin i t.0 b o, r.0) in
    (above, all_after (isin_rank l.isin) i ls above r.1)

-- ---- of an ISIN before others, the lines are those before
apart : (i j : Isin) → isin_rank i < isin_rank j → same_isin i j ≡ false
apart i j h = ⊎_elim (λ e. let d = ap isin_rank ((same_isin_decides i j).0 e) in absurd (omega arith)) (λ e. e) (cases_Bool (same_isin i j))

apart_back : (i j : Isin) → isin_rank i < isin_rank j → same_isin j i ≡ false
apart_back i j h = ⊎_elim (λ e. let d = ap isin_rank ((same_isin_decides j i).0 e) in absurd (omega arith)) (λ e. e) (cases_Bool (same_isin j i))

pub kept_joined : (p : Line → Bool) (ls ms : List Line) → keep p (ls ++ ms) ≡ keep p ls ++ keep p ms
kept_joined p [] ms = refl
kept_joined p (l ∷ ls) ms = ap (λ ks. cond (p l) (l ∷ ks) ks) (kept_joined p ls ms) ∙ go (p l)
  where
    go : (b : Bool) → cond b (l ∷ (keep p ls ++ keep p ms)) (keep p ls ++ keep p ms) ≡ cond b (l ∷ keep p ls) (keep p ls) ++ keep p ms
    go true = refl
    go false = refl

none_after : (i : Isin) (k : BlockName) (ls : List Line) → EachAfter i ls → keep (is_in_block i k) ls ≡ []
none_after i k [] h = refl
none_after i k (l ∷ ls) h = let e = apart_back i l.isin h.0 in rw e (none_after i k ls h.1)

none_before : (i j : Isin) (k : BlockName) (ls : List Line) → isin_rank i < isin_rank j → EachOf i ls → keep (is_in_block j k) ls ≡ []
none_before i j k [] h e = refl
none_before i j k (l ∷ ls) h e =
    let d : same_isin l.isin j ≡ false = ap (λ h. same_isin h j) e.0 ∙ apart i j h in
    rw d (none_before i j k ls h e.1)

-- ---- their ISINs
abbrev Above : Isin → List Isin → Type 0
Above i js = All (λ j. isin_rank i < isin_rank j) js

above_inserted : (i j : Isin) (js : List Isin) → isin_rank i < isin_rank j → Above i js → Above i (inserted_by isin_rank j js)
above_inserted i j [] h a = (h, tt)
above_inserted i j (k ∷ js) h a = cond_both (ltb (isin_rank j) (isin_rank k)) (j ∷ (k ∷ js)) (k ∷ inserted_by isin_rank j js) (Above i) (λ _. (h, a)) (λ _. (a.0, above_inserted i j js h a.1))

above_isins : (i : Isin) (ls : List Line) → EachAfter i ls → Above i (isins ls)
above_isins i [] h = tt
above_isins i (l ∷ ls) h =
    let a = above_isins i ls h.1 in
    cond_both (has_isin l.isin (isins ls)) (isins ls) (inserted_by isin_rank l.isin (isins ls)) (Above i) (λ _. a) (λ _. above_inserted i l.isin (isins ls) h.0 a)

not_among : (i : Isin) (js : List Isin) → Above i js → has_isin i js ≡ false
not_among i [] a = refl
not_among i (j ∷ js) a = let e = apart i j a.0 in rw e (not_among i js a.1)

put_first : (i : Isin) (js : List Isin) → Above i js → inserted_by isin_rank i js ≡ i ∷ js
put_first i [] a = refl
put_first i (j ∷ js) a = cond-true _ _ _ (lt-ltb _ _ a.0)

with_first : (i : Isin) (js : List Isin) → Above i js → with_isin i js ≡ i ∷ js
with_first i js a = cond-false _ js (inserted_by isin_rank i js) (not_among i js a) ∙ put_first i js a

with_again : (i : Isin) (js : List Isin) → with_isin i (i ∷ js) ≡ i ∷ js
with_again i js = let e = (same_isin_decides i i).1 refl in rw e

run_isins : (i : Isin) (ls ms : List Line) → EachOf i ls → 1 ≤ length ls → EachAfter i ms → isins (ls ++ ms) ≡ i ∷ isins ms
run_isins i [] ms e h a = absurd (omega arith)
run_isins i (l ∷ []) ms e h a = ap (λ j. with_isin j (isins ms)) e.0 ∙ with_first i (isins ms) (above_isins i ms a)
run_isins i (l ∷ (k ∷ ls)) ms e h a = ap₂ with_isin e.0 (run_isins i (k ∷ ls) ms e.1 (omega arith) a) ∙ with_again i (isins ms)

-- ---- their rows
module _ (s : Setting) (i : Isin) (ls ms : List Line) (e : EachOf i ls) (a : EachAfter i ms) where
  kept_here : (k : BlockName) → keep (is_in_block i k) (ls ++ ms) ≡ keep (is_in_block i k) ls
  kept_here k = kept_joined (is_in_block i k) ls ms ∙ ap (λ ks. keep (is_in_block i k) ls ++ ks) (none_after i k ms a) ∙ append-nil _

  kept_there : (j : Isin) (k : BlockName) → isin_rank i < isin_rank j → keep (is_in_block j k) (ls ++ ms) ≡ keep (is_in_block j k) ms
  kept_there j k h = kept_joined (is_in_block j k) ls ms ∙ ap (λ ks. ks ++ keep (is_in_block j k) ms) (none_before i j k ls h e)

  rows_of : (j : Isin) (xs ys : List Line) → ((k : BlockName) → keep (is_in_block j k) xs ≡ keep (is_in_block j k) ys) → isin_rows s xs j ≡ isin_rows s ys j
  rows_of j xs ys same = ap₂ ◌++◌ (block trade) (ap₂ ◌++◌ (block failed) (ap₂ ◌++◌ (block held) (block cash_only)))
    where
      block : (k : BlockName) → block_rows s xs j k ≡ block_rows s ys j k
      block k = ap (λ ks. if_any ks (block_row s j k ks)) (same k)

  rows_there : (js : List Isin) → Above i js → rows_of_isins s (ls ++ ms) js ≡ rows_of_isins s ms js
  rows_there [] h = refl
  rows_there (j ∷ js) h = ap₂ ◌++◌ (rows_of j (ls ++ ms) ms (λ k. kept_there j k h.0)) (rows_there js h.1)

  -- the rows of the first ISIN, and then those of the lines that come after
  pub rows_parted : 1 ≤ length ls → statement_rows s (ls ++ ms) ≡ isin_rows s ls i ++ statement_rows s ms
  rows_parted h =
      ap (rows_of_isins s (ls ++ ms)) (run_isins i ls ms e h a)
      ∙ ap₂ ◌++◌ (rows_of i (ls ++ ms) ls kept_here) (rows_there (isins ms) (above_isins i ms a))

-- the rest comes after
pub rest_after : (n : ℕ) (i : Isin) (ls ms : List Line) → TwelveBytes ls → TwelveBytes ms → EachOf i ls → 1 ≤ length ls → OtherFirst i ms → Rises n (ls ++ ms) → EachAfter i ms
rest_after n i ls ms b t e h o r = other_after i ms (twelve ls b e h) t o (rises_on n i ls ms e h r)
  where
    twelve : (ks : List Line) → TwelveBytes ks → EachOf i ks → 1 ≤ length ks → Bytes 12 i.bytes
    twelve [] b e h = absurd (omega arith)
    twelve (k ∷ ks) b e h = subst (λ j. Bytes 12 j.bytes) e.0 b.0
