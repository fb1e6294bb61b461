-- What a book has checked holds on as lines come and go.
use Rattle.std.proofs.Common.{◌≡◌, ℕ, ◌+◌, ◌≤◌, true, cond, ◌&&◌, eqb, ltb, List, [], ◌∷◌, length, sym, refl, ap, subst, ap₂, ⊎_elim, arith}
use Rattle.std.proofs.lemmas.Bool.{and_parts, and_from, cond_both, cases_Bool}
use Rattle.quantities.specs.declared.isin.Isin.{Isin}
use Rattle.quantities.specs.Ranges.{most_titles}
use Rattle.register.specs.Changes.{insert_after}
use Rattle.register.specs.Keys.{has_rank, inserted_by, without}
use Rattle.account.specs.declared.line.Line.{Line}
use Rattle.account.specs.Lines.{block_name, is_same_block, same_isin, is_in_block}
use Rattle.account.specs.declared.block_name.BlockName.{BlockName}
use Rattle.account.specs.Calls.{line_rank}
use Rattle.account.specs.Answers.{is_well_formed, is_well_dated, titles_of, titles_with}
use Rattle.account.proofs.Sums.{sum_first}
use Rattle.account.proofs.Terms.{same_isin_decides, same_kind_is}
use Rattle.account.specs.Valid.{all_valid}
use Rattle.book.specs.LineChecks.{IsAdmissible}

-- ---- each line has its form and days
taken_inserted : (today : ℕ) (l : Line) (ls : List Line) → (is_well_formed l && is_well_dated today l.block) ≡ true → all_valid today ls ≡ true → all_valid today (inserted_by line_rank l ls) ≡ true
taken_inserted today l [] h t = and_from _ _ h refl
taken_inserted today l (x ∷ xs) h t =
    let p = and_parts (is_well_formed x && is_well_dated today x.block) (all_valid today xs) t in
    cond_both (ltb l.reference x.reference) (l ∷ (x ∷ xs)) (x ∷ inserted_by line_rank l xs) (λ ms. all_valid today ms ≡ true)
    (λ e. and_from (is_well_formed l && is_well_dated today l.block) (all_valid today (x ∷ xs)) h t)
    (λ e. and_from (is_well_formed x && is_well_dated today x.block) (all_valid today (inserted_by line_rank l xs)) p.0 (taken_inserted today l xs h p.1))

pub taken_without : (today r : ℕ) (ls : List Line) → all_valid today ls ≡ true → all_valid today (without line_rank r ls) ≡ true
taken_without today r [] t = refl
taken_without today r (x ∷ xs) t =
    let p = and_parts (is_well_formed x && is_well_dated today x.block) (all_valid today xs) t in
    cond_both (eqb x.reference r) (without line_rank r xs) (x ∷ without line_rank r xs) (λ ms. all_valid today ms ≡ true) (λ e. taken_without today r xs p.1)
    (λ e. and_from (is_well_formed x && is_well_dated today x.block) (all_valid today (without line_rank r xs)) p.0 (taken_without today r xs p.1))

-- ---- the titles of each ISIN and block
pub titles_first : (i : Isin) (k : BlockName) (l : Line) (ls : List Line) → titles_of i k (l ∷ ls) ≡ cond (is_in_block i k l) l.titles 0 + titles_of i k ls
titles_first i k l ls = sum_first (λ x. x.titles) (is_in_block i k) l ls

pub titles_inserted : (i : Isin) (k : BlockName) (l : Line) (ls : List Line) → titles_of i k (inserted_by line_rank l ls) ≡ cond (is_in_block i k l) l.titles 0 + titles_of i k ls
titles_inserted i k l [] = titles_first i k l []
titles_inserted i k l (x ∷ xs) =
    cond_both (ltb l.reference x.reference) (l ∷ (x ∷ xs)) (x ∷ inserted_by line_rank l xs) (λ ms. titles_of i k ms ≡ cond (is_in_block i k l) l.titles 0 + titles_of i k (x ∷ xs))
    (λ e. titles_first i k l (x ∷ xs))
    (λ e. omega (arith, titles_first i k x (inserted_by line_rank l xs), titles_first i k x xs, titles_inserted i k l xs))

pub titles_without : (i : Isin) (k : BlockName) (r : ℕ) (ls : List Line) → titles_of i k (without line_rank r ls) ≤ titles_of i k ls
titles_without i k r [] = omega arith
titles_without i k r (x ∷ xs) =
    cond_both (eqb x.reference r) (without line_rank r xs) (x ∷ without line_rank r xs) (λ ms. titles_of i k ms ≤ titles_of i k (x ∷ xs))
    (λ e. omega (arith, titles_first i k x xs, titles_without i k r xs))
    (λ e. omega (arith, titles_first i k x (without line_rank r xs), titles_first i k x xs, titles_without i k r xs))

pub titles_admitted : (today : ℕ) (l : Line) (ls : List Line) → IsAdmissible today ls l → (i : Isin) (k : BlockName) → titles_of i k ls ≤ most_titles → titles_of i k (inserted_by line_rank l ls) ≤ most_titles
titles_admitted today l ls a i k h =
    ⊎_elim
    (λ e. let p = and_parts (same_isin l.isin i) (is_same_block (block_name l.block) k) e in
    let t : titles_with l ls ≡ titles_of i k ls + l.titles = ap₂ (λ j m. titles_of j m ls + l.titles) ((same_isin_decides l.isin i).0 p.0) (same_kind_is (block_name l.block) k p.1) in
    omega (arith, titles_inserted i k l ls, ap (λ b. cond b l.titles 0) e, t, a.titles))
    (λ e. omega (arith, titles_inserted i k l ls, ap (λ b. cond b l.titles 0) e))
    (cases_Bool (is_in_block i k l))

-- ---- after an insertion
after_insert : (P : List Line → Type 0) (room : ℕ) (l : Line) (ls : List Line) → P ls → P (inserted_by line_rank l ls) → P (insert_after line_rank room l ls)
after_insert P room l ls before after =
    cond_both (has_rank line_rank l.reference ls) ls _ P (λ e. before) (λ e. cond_both (ltb (length ls) room) (inserted_by line_rank l ls) ls P (λ d. after) (λ d. before))

module _ (today room : ℕ) (l : Line) (ls after : List Line) (a : IsAdmissible today ls l) (leaves : after ≡ insert_after line_rank room l ls) where
  pub insert_taken : all_valid today ls ≡ true → all_valid today after ≡ true
  insert_taken t =
      subst (λ ms. all_valid today ms ≡ true) (sym leaves)
      (after_insert (λ ms. all_valid today ms ≡ true) room l ls t (taken_inserted today l ls (and_from (is_well_formed l) (is_well_dated today l.block) a.formed a.dated) t))

  pub insert_titles : ((i : Isin) (k : BlockName) → titles_of i k ls ≤ most_titles) → (i : Isin) (k : BlockName) → titles_of i k after ≤ most_titles
  insert_titles h i k =
      subst (λ ms. titles_of i k ms ≤ most_titles) (sym leaves) (after_insert (λ ms. titles_of i k ms ≤ most_titles) room l ls (h i k) (titles_admitted today l ls a i k (h i k)))
