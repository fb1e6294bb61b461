-- Lines of an ISIN that stand together on both sides of a rank.
use Rattle.std.proofs.Common.{◌≡◌, ℕ, zero, suc, ◌+◌, ◌-◌, ◌<◌, ◌≤◌, Bool, true, false, ltb, List, [], ◌∷◌, ◌++◌, length, get_or, take, drop, sym, refl, ap, ap₂, ◌∙◌, subst, ⊎_elim, arith}
use Rattle.std.proofs.lemmas.Bool.{true≢false, and_parts, cases_Bool, cond-true, cond-false, lt-ltb, le-ltb}
use Rattle.std.proofs.lemmas.List.{take-append-drop, take-take, drop-take, drop-append-le}
use Rattle.std.proofs.ByRecursion.{All-get_or}
use Rattle.std.specs.List.{AllByRecursion as All, list_all}
use Rattle.quantities.specs.declared.isin.Isin.{Isin}
use Rattle.account.specs.declared.line.Line.{Line}
use Rattle.account.specs.Lines.{same_isin, keep, any}
use Rattle.account.specs.ByIsin.{no_line, OtherFirst, StandAtEnd, StandAtFront, StandTogether}

module _ (i : Isin) where
  abbrev is : Line → Bool
  is l = same_isin l.isin i

  all_kept : (ls : List Line) → list_all is ls ≡ true → keep is ls ≡ ls
  all_kept [] h = refl
  all_kept (l ∷ ls) h = let q = and_parts (is l) (list_all is ls) h in cond-true (is l) _ _ q.0 ∙ ap (λ ms. l ∷ ms) (all_kept ls q.1)

  none_kept : (ls : List Line) → All (λ l. is l ≡ false) ls → keep is ls ≡ []
  none_kept [] a = refl
  none_kept (l ∷ ls) a = cond-false (is l) _ _ a.0 ∙ none_kept ls a.1

  pub kept_joined : (ls ms : List Line) → keep is (ls ++ ms) ≡ keep is ls ++ keep is ms
  kept_joined [] ms = refl
  kept_joined (l ∷ ls) ms = ⊎_elim
      (λ (e : is l ≡ true). rw e (ap (λ ks. l ∷ ks) (kept_joined ls ms)))
      (λ (e : is l ≡ false). rw e (kept_joined ls ms))
      (cases_Bool (is l))

  leading_kept : (n : ℕ) (ls : List Line) → StandAtFront is ls → list_all is (take n ls) ≡ true → OtherFirst i (drop n ls) → take n ls ≡ keep is ls
  leading_kept zero [] s h o = refl
  leading_kept (suc n) [] s h o = refl
  leading_kept zero (l ∷ ls) s h o = sym (none_kept (l ∷ ls) (o, s.0 o))
  leading_kept (suc n) (l ∷ ls) s h o =
      let q = and_parts (is l) (list_all is (take n ls)) h in
      ap (λ ms. l ∷ ms) (leading_kept n ls s.1 q.1 o) ∙ sym (cond-true (is l) _ _ q.0)

  trailing_kept : (n : ℕ) (ls : List Line) → n ≤ length ls → StandAtEnd is ls → list_all is (drop n ls) ≡ true → ((k : ℕ) → suc k ≡ n → is (get_or ls k no_line) ≡ false) → drop n ls ≡ keep is ls
  trailing_kept zero ls m s h o = sym (all_kept ls h)
  trailing_kept (suc n) [] m s h o = absurd (omega arith)
  trailing_kept (suc zero) (l ∷ ls) m s h o = sym (cond-false (is l) _ _ (o 0 refl) ∙ all_kept ls h)
  trailing_kept (suc (suc n)) (l ∷ ls) m s h o =
      ⊎_elim
      (λ (e : is l ≡ true). absurd (true≢false (sym (All-get_or (λ y. is y ≡ true) ls n no_line (omega arith) (s.0 e)) ∙ o (suc n) refl)))
      (λ (e : is l ≡ false). trailing_kept (suc n) ls (omega arith) s.1 h (λ k q. o (suc k) (ap suc q)) ∙ sym (cond-false (is l) _ _ e))
      (cases_Bool (is l))

  -- the lines of an ISIN in front of two, and in front of the second
  pub counted_beside : (ls : List Line) (a b : ℕ) → length ls ≤ 2 → a ≤ length ls → list_all is (take a ls) ≡ true → OtherFirst i (drop a ls) → b ≤ length (drop 1 ls) → list_all is (take b (drop 1 ls)) ≡ true → OtherFirst i (drop b (drop 1 ls)) →
      ltb 0 (a + b) ≡ any is ls
  counted_beside [] a b few m h o n g p = le-ltb 0 (a + b) (omega arith)
  counted_beside (l ∷ ls) (suc a) b few m h o n g p =
      lt-ltb 0 (suc a + b) (omega arith) ∙ sym (rw ((and_parts (is l) (list_all is (take a ls)) h).0) refl)
  counted_beside (l ∷ []) zero b few m h o n g p = le-ltb 0 (0 + b) (omega arith) ∙ sym (rw o refl)
  counted_beside (l ∷ k ∷ []) zero zero few m h o n g p = sym (rw (o, p) refl)
  counted_beside (l ∷ k ∷ []) zero (suc b) few m h o n g p =
      lt-ltb 0 (0 + suc b) (omega arith) ∙ sym (rw (o, (and_parts (is k) (list_all is (take b [])) g).0) refl)
  counted_beside (l ∷ k ∷ j ∷ ls) zero b few m h o n g p = absurd (omega (arith, few))

  taken_on : (r b : ℕ) (ls : List Line) → take (r + b) ls ≡ take r ls ++ take b (drop r ls)
  taken_on r b ls = sym (take-append-drop r (take (r + b) ls)) ∙ ap₂ ◌++◌ (take-take r (r + b) ls (omega arith)) (drop-take r b ls)

  pub together_kept : (a b r : ℕ) (ls before after : List Line) → before ≡ take r ls → after ≡ drop r ls → StandTogether i (take r ls) (drop r ls) →
      a ≤ length before → list_all is (drop a before) ≡ true → (0 < a → is (get_or before (a - 1) no_line) ≡ false) → list_all is (take b after) ≡ true → OtherFirst i (drop b after) → drop a (take (r + b) ls) ≡ keep is ls
  together_kept a b r ls before after e f s m h o k p =
      ap (drop a) (taken_on r b ls ∙ ap₂ (λ xs ys. xs ++ take b ys) (sym e) (sym f))
      ∙ drop-append-le a before (take b after) m
      ∙ ap₂ ◌++◌
      (trailing_kept a before m (subst (StandAtEnd is) (sym e) s.at_end) h (λ j g. let q : a - 1 ≡ j = omega arith in ap (λ n. is (get_or before n no_line)) (sym q) ∙ o (omega arith)))
      (leading_kept b after (subst (StandAtFront is) (sym f) s.at_front) k p)
      ∙ sym (kept_joined before after)
      ∙ ap (keep is) (ap₂ ◌++◌ e f ∙ take-append-drop r ls)
