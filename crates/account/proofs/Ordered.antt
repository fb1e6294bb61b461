-- The ISINs of lines ascend: of two ISINs of twelve bytes that differ, one has the lower rank.
use Rattle.std.proofs.Common.{◌≡◌, ℕ, zero, suc, ◌<◌, Bool, true, false, ltb, List, [], ◌∷◌, length, sym, refl, ap, ◌∙◌, ap₂, ⊎_elim, arith}
use native.Mathlib.Numerals.{unary_clauses}
use Rattle.std.proofs.lemmas.Bool.{cases_order, lt-ltb, le-ltb, eq-eqb, ltb-true, ltb-false, cond_both, or_parts, both_ways}
use Rattle.quantities.specs.declared.isin.Isin.{Isin}
use Rattle.register.specs.Bytes.{Bytes, is_before}
use Rattle.register.specs.Keys.{Ascends, inserted_by}
use Rattle.register.proofs.Bytes.{byte_order}
use Rattle.market.specs.Records.{isin_rank}
use Rattle.account.specs.declared.line.Line.{Line}
use Rattle.account.specs.Lines.{same_isin, any, has_isin, isins, TwelveBytes, IsinsLaw}
use Rattle.account.proofs.Sums.{one_if}
use Rattle.account.proofs.Terms.{same_isin_decides}
use Rattle.account.proofs.Isins.{any_count, isins_count}

-- ---- ranks tell ISINs apart
before_same : (xs ys : List ℕ) → length xs ≡ length ys → is_before xs ys ≡ false → is_before ys xs ≡ false → xs ≡ ys
before_same [] [] e h k = refl
before_same [] (y ∷ ys) e h k = absurd (omega arith)
before_same (x ∷ xs) [] e h k = absurd (omega arith)
before_same (x ∷ xs) (y ∷ ys) e h k =
    ⊎_elim
    (λ (q : x ≡ y).
    let a = le-ltb x y (omega arith) in
    let b = le-ltb y x (omega arith) in
    let c = eq-eqb x y q in
    let d = eq-eqb y x (sym q) in
    ap₂ ◌∷◌ q (before_same xs ys (omega arith) (rw (a, c) at h) (rw (b, d) at k)))
    (⊎_elim (λ (w : x < y). let a = lt-ltb x y w in absurd (both_ways true (rw a at h) refl)) (λ (w : y < x). let a = lt-ltb y x w in absurd (both_ways true (rw a at k) refl)))
    (cases_order x y)

pub ranks_apart : (i j : Isin) → Bytes 12 i.bytes → Bytes 12 j.bytes → same_isin i j ≡ false → isin_rank i ≡ isin_rank j → ⊥
ranks_apart i j h k d e =
    let a : is_before i.bytes j.bytes ≡ false = sym (byte_order 12 i.bytes j.bytes h k) ∙ le-ltb _ _ (omega arith) in
    let b : is_before j.bytes i.bytes ≡ false = sym (byte_order 12 j.bytes i.bytes k h) ∙ le-ltb _ _ (omega arith) in
    let same = before_same i.bytes j.bytes (h.many ∙ sym k.many) a b in
    both_ways (same_isin i j) d ((same_isin_decides i j).1 (ap (λ bs. record { bytes = bs }) same))

-- ---- one more ISIN
abbrev Each : List Isin → Type 0
Each [] = Unit {0}
Each (j ∷ js) = Bytes 12 j.bytes × Each js

-- what stands first has a rank above n
abbrev From : ℕ → List Isin → Type 0
From n [] = Unit {0}
From n (j ∷ js) = n < isin_rank j

abbrev Rising : List Isin → Type 0
Rising [] = Unit {0}
Rising (j ∷ js) = From (isin_rank j) js × Rising js

rising_ascends : (js : List Isin) → Rising js → Ascends isin_rank js
rising_ascends [] r k d l = absurd (omega arith)
rising_ascends (i ∷ []) r k d l = absurd (omega arith)
rising_ascends (i ∷ (j ∷ js)) r zero d l = r.0
rising_ascends (i ∷ (j ∷ js)) r (suc k) d l = simp unary_clauses (simp unary_clauses at (rising_ascends (j ∷ js) r.1 k d (omega arith)))

from_inserted : (n : ℕ) (i : Isin) (js : List Isin) → n < isin_rank i → From n js → From n (inserted_by isin_rank i js)
from_inserted n i [] h f = h
from_inserted n i (j ∷ js) h f = cond_both (ltb (isin_rank i) (isin_rank j)) (i ∷ (j ∷ js)) (j ∷ inserted_by isin_rank i js) (From n) (λ e. h) (λ e. f)

rising_inserted : (i : Isin) (js : List Isin) → Bytes 12 i.bytes → Each js → has_isin i js ≡ false → Rising js → Rising (inserted_by isin_rank i js)
rising_inserted i [] b each h r = (tt, tt)
rising_inserted i (j ∷ js) b each h r =
    let p = or_parts _ _ h in
    let apart = ranks_apart i j b each.0 p.0 in
    cond_both (ltb (isin_rank i) (isin_rank j)) (i ∷ (j ∷ js)) (j ∷ inserted_by isin_rank i js) Rising (λ e. (ltb-true _ _ e, r))
    (λ e. (from_inserted (isin_rank j) i js (omega (arith, apart, ltb-false _ _ e)) r.0, rising_inserted i js b each.1 p.1 r.1))

each_inserted : (i : Isin) (js : List Isin) → Bytes 12 i.bytes → Each js → Each (inserted_by isin_rank i js)
each_inserted i [] b each = (b, tt)
each_inserted i (j ∷ js) b each =
    cond_both (ltb (isin_rank i) (isin_rank j)) (i ∷ (j ∷ js)) (j ∷ inserted_by isin_rank i js) Each (λ e. (b, each)) (λ e. (each.0, each_inserted i js b each.1))

-- ---- the ISINs of lines
each_isins : (ls : List Line) → TwelveBytes ls → Each (isins ls)
each_isins [] b = tt
each_isins (l ∷ ls) b =
    cond_both (has_isin l.isin (isins ls)) (isins ls) (inserted_by isin_rank l.isin (isins ls)) Each (λ e. each_isins ls b.1) (λ e. each_inserted l.isin (isins ls) b.0 (each_isins ls b.1))

rising_isins : (ls : List Line) → TwelveBytes ls → Rising (isins ls)
rising_isins [] b = tt
rising_isins (l ∷ ls) b =
    cond_both (has_isin l.isin (isins ls)) (isins ls) (inserted_by isin_rank l.isin (isins ls)) Rising (λ e. rising_isins ls b.1)
    (λ e. rising_inserted l.isin (isins ls) b.0 (each_isins ls b.1) e (rising_isins ls b.1))

-- an ISIN stands there where a line has it
members : (i : Isin) (ls : List Line) → has_isin i (isins ls) ≡ any (λ l. same_isin i l.isin) ls
members i ls = go _ _ (omega (arith, any_count (same_isin i) (isins ls), any_count (λ (l : Line). same_isin i l.isin) ls, isins_count i ls))
  where
    go : (a b : Bool) → one_if a ≡ one_if b → a ≡ b
    go true true e = refl
    go true false e = absurd (omega arith)
    go false true e = absurd (omega arith)
    go false false e = refl

pub isins_law : IsinsLaw
isins_law ls b = (rising_ascends (isins ls) (rising_isins ls b), λ i. members i ls)
