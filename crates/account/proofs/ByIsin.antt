-- A book's lines by ISIN: what entering and withdrawing do to them, and that each ISIN has the lines that it had.
use Rattle.std.proofs.Common.{◌≡◌, ℕ, suc, ◌^◌, ◌<◌, true, false, ◌&&◌, eqb, ltb, leb, List, [], ◌∷◌, length, Some, sym, refl, ap, ◌∙◌, subst, ⊎_elim, arith}
use Rattle.std.proofs.lemmas.Bool.{true≢false, and_parts, cases_Bool, eq-eqb, ne_eqb, eqb-true, eqb-false, leb-true}
use Rattle.std.specs.List.{AllByRecursion as All}
use Rattle.std.proofs.ByRecursion.{All-weaker}
use Rattle.quantities.specs.declared.isin.Isin.{Isin}
use Rattle.quantities.specs.Ranges.{highest_reference}
use Rattle.register.specs.Keys.{Ascends, found_by, has_rank, inserted_by, without}
use Rattle.register.proofs.Found.{found_inserted, others_inserted}
use Rattle.market.specs.Records.{isin_rank}
use Rattle.account.specs.declared.line.Line.{Line}
use Rattle.account.specs.Lines.{same_isin, keep}
use Rattle.account.specs.Calls.{line_rank}
use Rattle.account.specs.Answers.{is_well_formed, is_well_dated}
use Rattle.account.specs.Valid.{all_valid}
use Rattle.account.specs.ByIsin.{isin_line_rank, lines_by_isin, SmallReferences, ByIsinLaw}
use Rattle.account.proofs.Terms.{same_isin_decides}
use Rattle.account.proofs.Sorted.{inserted_long, swapped, all_inserted, Rises, rises, ascends, rises_inserted, Sorted, sorted_inserted, gone_inserted, kept_inserted, absent_inserted, test_failed, test_passed}

pub formed_small : (l : Line) → is_well_formed l ≡ true → l.reference < 2 ^ 32
formed_small l h =
    let a = and_parts (leb 1 l.reference && leb l.reference highest_reference) _ h in
    let b = leb-true l.reference highest_reference (and_parts (leb 1 l.reference) _ a.0).1 in
    omega arith

pub taken_small : (today : ℕ) (ls : List Line) → all_valid today ls ≡ true → SmallReferences ls
taken_small today [] t = tt
taken_small today (l ∷ ls) t =
    let p = and_parts (is_well_formed l && is_well_dated today l.block) (all_valid today ls) t in
    (formed_small l (and_parts (is_well_formed l) _ p.0).0, taken_small today ls p.1)

-- ---- lines of two references have two ranks
one_reference : (a b : Line) → a.reference < 2 ^ 32 → b.reference < 2 ^ 32 → isin_line_rank a ≡ isin_line_rank b → a.reference ≡ b.reference
one_reference a b l m e = omega (arith, e)

apart : (a b : Line) → a.reference < 2 ^ 32 → b.reference < 2 ^ 32 → eqb a.reference b.reference ≡ false → eqb (isin_line_rank a) (isin_line_rank b) ≡ false
apart a b l m e = ne_eqb _ _ (λ q. eqb-false a.reference b.reference e (one_reference a b l m q))

pub by_isin_long : (ls : List Line) → length (lines_by_isin ls) ≡ length ls
by_isin_long [] = refl
by_isin_long (l ∷ ls) = inserted_long isin_line_rank l (lines_by_isin ls) ∙ ap suc (by_isin_long ls)

pub all_by_isin : (P : Line → Type 0) (ls : List Line) → All P ls → All P (lines_by_isin ls)
all_by_isin P [] a = tt
all_by_isin P (l ∷ ls) a = all_inserted isin_line_rank P l (lines_by_isin ls) a.0 (all_by_isin P ls a.1)

sorted_by_isin : (ls : List Line) → Sorted isin_line_rank (lines_by_isin ls)
sorted_by_isin [] = tt
sorted_by_isin (l ∷ ls) = sorted_inserted isin_line_rank l (lines_by_isin ls) (sorted_by_isin ls)

-- ---- a line is entered
pub absent : (l : Line) (ls : List Line) → l.reference < 2 ^ 32 → SmallReferences ls → has_rank line_rank l.reference ls ≡ false → has_rank isin_line_rank (isin_line_rank l) (lines_by_isin ls) ≡ false
absent l [] b s h = refl
absent l (x ∷ xs) b s h = ⊎_elim
    (λ (g : eqb x.reference l.reference ≡ true). absurd (true≢false (rw g at h)))
    (λ (g : eqb x.reference l.reference ≡ false). absent_inserted isin_line_rank (isin_line_rank l) x (lines_by_isin xs) (apart x l s.0 b g) (absent l xs b s.1 (rw g at h)))
    (cases_Bool (eqb x.reference l.reference))

pub entered : (l : Line) (ls : List Line) → l.reference < 2 ^ 32 → SmallReferences ls → has_rank line_rank l.reference ls ≡ false →
    lines_by_isin (inserted_by line_rank l ls) ≡ inserted_by isin_line_rank l (lines_by_isin ls)
entered l [] b s h = refl
entered l (x ∷ xs) b s h = ⊎_elim
    (λ (g : eqb x.reference l.reference ≡ true). absurd (true≢false (rw g at h)))
    (λ (g : eqb x.reference l.reference ≡ false). ⊎_elim
    (λ (q : ltb l.reference x.reference ≡ true). rw q refl)
    (λ (q : ltb l.reference x.reference ≡ false).
    rw q (ap (inserted_by isin_line_rank x) (entered l xs b s.1 (rw g at h))
    ∙ swapped isin_line_rank x l (lines_by_isin xs) (λ e. eqb-false x.reference l.reference g (one_reference x l s.0 b e))))
    (cases_Bool (ltb l.reference x.reference)))
    (cases_Bool (eqb x.reference l.reference))

-- ---- a line is withdrawn: its reference and its rank pick out the same line
abbrev Alike : ℕ → ℕ → List Line → Type 0
Alike r k ls = All (λ x. eqb x.reference r ≡ eqb (isin_line_rank x) k) ls

found_reference : (r : ℕ) (l : Line) (ls : List Line) → found_by line_rank r ls ≡ Some l → l.reference ≡ r
found_reference r l [] h = absurd (grind arith)
found_reference r l (x ∷ xs) h = ⊎_elim
    (λ (g : eqb x.reference r ≡ true). let q : Some x ≡ Some l = rw g at h in let e : x ≡ l = cc in ap (λ y. y.reference) (sym e) ∙ eqb-true x.reference r g)
    (λ (g : eqb x.reference r ≡ false). found_reference r l xs (rw g at h))
    (cases_Bool (eqb x.reference r))

found_small : (r : ℕ) (l : Line) (ls : List Line) → SmallReferences ls → found_by line_rank r ls ≡ Some l → l.reference < 2 ^ 32
found_small r l [] s h = absurd (grind arith)
found_small r l (x ∷ xs) s h = ⊎_elim
    (λ (g : eqb x.reference r ≡ true). let q : Some x ≡ Some l = rw g at h in let e : x ≡ l = cc in subst (λ y. y.reference < 2 ^ 32) e s.0)
    (λ (g : eqb x.reference r ≡ false). found_small r l xs s.1 (rw g at h))
    (cases_Bool (eqb x.reference r))

others : (r : ℕ) (l : Line) (ls : List Line) → l.reference ≡ r → l.reference < 2 ^ 32 → SmallReferences ls → All (λ x. r < x.reference) ls → Alike r (isin_line_rank l) ls
others r l [] e b s a = tt
others r l (x ∷ xs) e b s a =
    let no : eqb x.reference l.reference ≡ false = ne_eqb _ _ (λ q. let up = a.0 in absurd (omega arith)) in
    (ne_eqb _ _ (λ q. let up = a.0 in absurd (omega arith)) ∙ sym (apart x l s.0 b no), others r l xs e b s.1 a.1)

alike : (r : ℕ) (l : Line) (ls : List Line) → SmallReferences ls → Rises line_rank ls → found_by line_rank r ls ≡ Some l → Alike r (isin_line_rank l) ls
alike r l [] s a h = tt
alike r l (x ∷ xs) s a h = ⊎_elim
    (λ (g : eqb x.reference r ≡ true).
    let q : Some x ≡ Some l = rw g at h in
    let e : x ≡ l = cc in
    let n : x.reference ≡ r = eqb-true x.reference r g in
    let here : eqb (isin_line_rank x) (isin_line_rank l) ≡ true = eq-eqb _ _ (ap isin_line_rank e) in
    (g ∙ sym here, others r l xs (ap (λ y. y.reference) (sym e) ∙ n) (subst (λ y. y.reference < 2 ^ 32) e s.0) s.1 (All-weaker (λ y. x.reference < y.reference) (λ y. r < y.reference) (λ y u. omega arith) xs a.0)))
    (λ (g : eqb x.reference r ≡ false).
    let t : found_by line_rank r xs ≡ Some l = rw g at h in
    let n = found_reference r l xs t in
    let no : eqb x.reference l.reference ≡ false = ne_eqb _ _ (λ q. eqb-false x.reference r g (q ∙ n)) in
    (g ∙ sym (apart x l s.0 (found_small r l xs s.1 t) no), alike r l xs s.1 a.1 t))
    (cases_Bool (eqb x.reference r))

gone_alike : (r k : ℕ) (ls : List Line) → Alike r k ls → lines_by_isin (without line_rank r ls) ≡ without isin_line_rank k (lines_by_isin ls)
gone_alike r k [] a = refl
gone_alike r k (x ∷ xs) a = ⊎_elim
    (λ (g : eqb x.reference r ≡ true). rw g (gone_alike r k xs a.1 ∙ sym (gone_inserted isin_line_rank k x (lines_by_isin xs) (sym a.0 ∙ g))))
    (λ (g : eqb x.reference r ≡ false).
    rw g (ap (inserted_by isin_line_rank x) (gone_alike r k xs a.1) ∙ sym (kept_inserted isin_line_rank k x (lines_by_isin xs) (sorted_by_isin xs) (sym a.0 ∙ g))))
    (cases_Bool (eqb x.reference r))

pub withdrawn : (r : ℕ) (l : Line) (ls : List Line) → SmallReferences ls → Ascends line_rank ls → found_by line_rank r ls ≡ Some l →
    lines_by_isin (without line_rank r ls) ≡ without isin_line_rank (isin_line_rank l) (lines_by_isin ls)
withdrawn r l ls s up h = gone_alike r (isin_line_rank l) ls (alike r l ls s (rises line_rank ls up) h)

-- ---- each ISIN has the lines that it had
kept_in : (i : Isin) (ls : List Line) → Rises line_rank ls → keep (λ l. same_isin l.isin i) (lines_by_isin ls) ≡ keep (λ l. same_isin l.isin i) ls
kept_in i [] a = refl
kept_in i (x ∷ xs) a = ⊎_elim
    (λ (g : same_isin x.isin i ≡ true).
    let here = (same_isin_decides x.isin i).0 g in
    let later = all_by_isin (λ y. x.reference < y.reference) xs a.0 in
    rw g (test_passed isin_line_rank (λ l. same_isin l.isin i) x (lines_by_isin xs) g
    (All-weaker (λ y. x.reference < y.reference) (λ y. same_isin y.isin i ≡ true → isin_line_rank x < isin_line_rank y)
    (λ y u t. let one = ap isin_rank here in let two = ap isin_rank ((same_isin_decides y.isin i).0 t) in omega arith) (lines_by_isin xs) later)
    ∙ ap (λ zs. x ∷ zs) (kept_in i xs a.1)))
    (λ (g : same_isin x.isin i ≡ false). rw g (test_failed isin_line_rank (λ l. same_isin l.isin i) x (lines_by_isin xs) g ∙ kept_in i xs a.1))
    (cases_Bool (same_isin x.isin i))

pub same_isin_kept : (i : Isin) (ls : List Line) → Ascends line_rank ls → keep (λ l. same_isin l.isin i) (lines_by_isin ls) ≡ keep (λ l. same_isin l.isin i) ls
same_isin_kept i ls up = kept_in i ls (rises line_rank ls up)

-- ---- the line that stands by its reference stands by its ISIN
no_rank : (n : ℕ) (ls : List Line) → All (λ y. n < y.reference) ls → has_rank line_rank n ls ≡ false
no_rank n [] a = refl
no_rank n (x ∷ xs) a = rw (ne_eqb x.reference n (λ q. let l = a.0 in absurd (omega arith))) (no_rank n xs a.1)

found_in : (r : ℕ) (l : Line) (ls : List Line) → SmallReferences ls → Rises line_rank ls → found_by line_rank r ls ≡ Some l → found_by isin_line_rank (isin_line_rank l) (lines_by_isin ls) ≡ Some l
found_in r l [] s a h = absurd (grind arith)
found_in r l (x ∷ xs) s a h = ⊎_elim
    (λ (g : eqb x.reference r ≡ true).
    let q : Some x ≡ Some l = rw g at h in
    let e : x ≡ l = cc in
    subst (λ y. found_by isin_line_rank (isin_line_rank y) (lines_by_isin (x ∷ xs)) ≡ Some y) e
    (found_inserted isin_line_rank x (lines_by_isin xs) (absent x xs s.0 s.1 (no_rank x.reference xs a.0))))
    (λ (g : eqb x.reference r ≡ false).
    let t : found_by line_rank r xs ≡ Some l = rw g at h in
    let n = found_reference r l xs t in
    others_inserted isin_line_rank x (lines_by_isin xs) (isin_line_rank l) (λ e. eqb-false x.reference r g (sym (one_reference l x (found_small r l xs s.1 t) s.0 e) ∙ n))
    ∙ found_in r l xs s.1 a.1 t)
    (cases_Bool (eqb x.reference r))

pub present : (r : ℕ) (l : Line) (ls : List Line) → SmallReferences ls → Ascends line_rank ls → found_by line_rank r ls ≡ Some l → found_by isin_line_rank (isin_line_rank l) (lines_by_isin ls) ≡ Some l
present r l ls s up h = found_in r l ls s (rises line_rank ls up) h

-- ---- by ISIN no rank stands twice
rises_by_isin : (ls : List Line) → SmallReferences ls → Rises line_rank ls → Rises isin_line_rank (lines_by_isin ls)
rises_by_isin [] s a = tt
rises_by_isin (x ∷ xs) s a =
    rises_inserted isin_line_rank x (lines_by_isin xs)
    (all_by_isin (λ y. isin_line_rank x ≡ isin_line_rank y → ⊥) xs (differ xs s.1 a.0)) (rises_by_isin xs s.1 a.1)
  where
    differ : (ys : List Line) → SmallReferences ys → All (λ y. x.reference < y.reference) ys → All (λ y. isin_line_rank x ≡ isin_line_rank y → ⊥) ys
    differ [] t b = tt
    differ (y ∷ ys) t b = (λ e. let same = one_reference x y s.0 t.0 e in let up = b.0 in absurd (omega arith), differ ys t.1 b.1)

pub by_isin_law : ByIsinLaw
by_isin_law ls up s =
    record { rises = ascends isin_line_rank (lines_by_isin ls) (rises_by_isin ls s (rises line_rank ls up)); same_lines = λ i. same_isin_kept i ls up }
