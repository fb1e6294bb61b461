-- What the answers to entering and withdrawing say of the line, check by check.
use Rattle.std.proofs.Common.{◌≡◌, ℕ, ◌+◌, ◌<◌, ◌≤◌, Bool, true, false, cond, not, ◌&&◌, ◌↔◌, eqb, ltb, leb, List, [], ◌∷◌, length, Decides, sym, refl, ◌∙◌, inl, inr, ⊎_elim, arith}
use Rattle.std.proofs.lemmas.Bool.{true≢false, cases_Bool, cond-true, cond-false, and_parts, and_from, both_ways, leb-true, le-leb, ltb-true, ltb-false, eqb-true, eq-eqb, eqb-false}
use Rattle.quantities.specs.Ranges.{most_titles}
use Rattle.register.specs.Keys.{has_rank}
use Rattle.account.specs.declared.line.Line.{Line}
use Rattle.account.specs.declared.block.Block.{Block}
use Rattle.account.specs.declared.block.Block.TheVariants.{Trade, Failed, Held, CashOnly}
use Rattle.account.specs.declared.block_name.BlockName.{BlockName}
use Rattle.account.specs.declared.block_name.BlockName.TheVariants.{Trade as trade, Failed as failed, Held as held, CashOnly as cash_only}
use Rattle.account.specs.Lines.{block_name}
use Rattle.account.specs.Calls.{accepted, refused, line_rank}
use Rattle.account.specs.Answers.{has_titles, is_well_formed, is_well_dated, titles_with}
use Rattle.account.specs.Standing.{StandsUnder}
use Rattle.account.specs.Checks.{HasTitles, IsInForm, IsInItsDays, EnterLaw, WithdrawLaw}

-- ---- each test decides what it is about
between : (low n high : ℕ) → Decides (leb low n && leb n high) ((low ≤ n) × (n ≤ high))
between low n high =
    (λ h. let p = and_parts (leb low n) (leb n high) h in (leb-true low n p.0, leb-true n high p.1), λ h. and_from (leb low n) (leb n high) (le-leb low n h.0) (le-leb n high h.1))

at_most : (n high : ℕ) → Decides (leb n high) (n ≤ high)
at_most n high = (leb-true n high, le-leb n high)

titles_decide : (k : BlockName) (n : ℕ) → Decides (has_titles k n) (HasTitles k n)
titles_decide trade n = between 1 n most_titles
titles_decide failed n = between 1 n most_titles
titles_decide held n = between 1 n most_titles
titles_decide cash_only n = (eqb-true n 0, eq-eqb n 0)

form_decides : (l : Line) → Decides (is_well_formed l) (IsInForm l)
form_decides l = (
  λ h.
      let p = and_parts _ _ h in
      let q = and_parts _ _ p.1 in
      let r = and_parts _ _ q.1 in
      record { reference = (between 1 l.reference _).0 p.0; isin = q.0; titles = (titles_decide (block_name l.block) l.titles).0 r.0; cash = leb-true l.cash _ r.1 },
  λ f. and_from _ _ ((between 1 l.reference _).1 f.reference) (and_from _ _ f.isin (and_from _ _ ((titles_decide (block_name l.block) l.titles).1 f.titles) (le-leb l.cash _ f.cash))),
)

pub days_decide : (today : ℕ) (b : Block) → Decides (is_well_dated today b) (IsInItsDays today b)
days_decide today (Trade d) = between today d (today + 365)
days_decide today (Failed d) = at_most d today
days_decide today (Held d) = at_most d today
days_decide today (CashOnly d) = at_most d today

under_decides : (r : ℕ) (ls : List Line) → Decides (has_rank line_rank r ls) (StandsUnder r ls)
under_decides r [] = (λ h. absurd (true≢false (sym h)), λ h. absurd h)
under_decides r (l ∷ ls) = ⊎_elim
    (λ (g : eqb l.reference r ≡ true). (λ h. inl (eqb-true l.reference r g), λ h. rw g refl))
    (λ (g : eqb l.reference r ≡ false). (
      λ h. inr ((under_decides r ls).0 (rw g at h)),
      ⊎_elim (λ e. absurd (eqb-false l.reference r g e)) (λ h. rw g ((under_decides r ls).1 h)),
    ))
    (cases_Bool (eqb l.reference r))

-- ---- a test that passes or fails
pub record Parts (b : Bool) (P N : Type 0) : Type 0 where
  pub yes : b ≡ true → P
  pub no : b ≡ false → N
  pub apart : P → N → ⊥

pub parted : {P : Type 0} (b : Bool) → Decides b P → Parts b P (P → ⊥)
parted b d = record { yes = d.0; no = λ e p. both_ways b e (d.1 p); apart = λ p n. n p }

pub not_parted : {P : Type 0} (b : Bool) → Decides b P → Parts (not b) (P → ⊥) P
not_parted true d = record { yes = λ e. absurd (true≢false (sym e)); no = λ e. d.0 refl; apart = λ n p. n p }
not_parted false d = record { yes = λ e p. true≢false (sym (d.1 p)); no = λ e. absurd (true≢false e); apart = λ n p. n p }

less_parted : (m n : ℕ) → Parts (ltb m n) (m < n) (n ≤ m)
less_parted m n = record { yes = ltb-true m n; no = ltb-false m n; apart = λ l h. omega arith }

module _ {A : Type 0} {b : Bool} {P N : Type 0} (t : Parts b P N) {x rest : A} where
  -- an answer for a test that passes, and one for a test that does not
  pub here : (rest ≡ x → ⊥) → (cond b x rest ≡ x) ↔ P
  here other = (
    λ e. ⊎_elim t.yes (λ f. absurd (other (sym (cond-false b x rest f) ∙ e))) (cases_Bool b),
    λ p. ⊎_elim (cond-true b x rest) (λ f. absurd (t.apart p (t.no f))) (cases_Bool b),
  )

  pub beyond : {C : Type 0} {y : A} → (x ≡ y → ⊥) → (rest ≡ y) ↔ C → (cond b x rest ≡ y) ↔ (N × C)
  beyond {C} {y} other more = (
    λ e. ⊎_elim (λ p. absurd (other (sym (cond-true b x rest p) ∙ e))) (λ f. (t.no f, more.0 (sym (cond-false b x rest f) ∙ e))) (cases_Bool b),
    λ q. ⊎_elim (λ p. absurd (t.apart (t.yes p) q.0)) (λ f. cond-false b x rest f ∙ more.1 q.1) (cases_Bool b),
  )

  -- what an answer is at the end of the checks
  pub last : (x ≡ rest → ⊥) → (cond b x rest ≡ rest) ↔ N
  last other = (
    λ e. ⊎_elim (λ p. absurd (other (sym (cond-true b x rest p) ∙ e))) t.no (cases_Bool b),
    λ n. ⊎_elim (λ p. absurd (t.apart (t.yes p) n)) (cond-false b x rest) (cases_Bool b),
  )

  -- the same answer for a test that passes and beyond it
  pub unless : {C : Type 0} → (rest ≡ x) ↔ C → (cond b x rest ≡ x) ↔ (N → C)
  unless more = (
    λ e n. ⊎_elim (λ p. absurd (t.apart (t.yes p) n)) (λ f. more.0 (sym (cond-false b x rest f) ∙ e)) (cases_Bool b),
    λ h. ⊎_elim (cond-true b x rest) (λ f. cond-false b x rest f ∙ more.1 (h (t.no f))) (cases_Bool b),
  )

pub neither : {A : Type 0} {x rest y : A} (b : Bool) → (x ≡ y → ⊥) → (rest ≡ y → ⊥) → cond b x rest ≡ y → ⊥
neither true h k e = h e
neither false h k e = k e

differ : (m n r : ℕ) → eqb m n ≡ false → refused m r ≡ refused n r → ⊥
differ m n r d e = eqb-false m n d cc

pub never : {n r : ℕ} → accepted ≡ refused n r → ⊥
never e = cc

pub enter_law : EnterLaw
enter_law today room ls l =
    let r = l.reference in
    let f = not_parted (is_well_formed l) (form_decides l) in
    let h = parted (has_rank line_rank r ls) (under_decides r ls) in
    let d = not_parted (is_well_dated today l.block) (days_decide today l.block) in
    let t = less_parted most_titles (titles_with l ls) in
    let m = less_parted (length ls) room in
    let taken = beyond f (λ e. never (sym e)) (beyond h (λ e. never (sym e)) (beyond d (λ e. never (sym e)) (beyond t (λ e. never (sym e)) (here m (λ e. never (sym e)))))) in
    let full = beyond f (differ 4 9 r refl) (beyond h (differ 6 9 r refl) (beyond d (differ 7 9 r refl) (beyond t (differ 8 9 r refl) (last m never)))) in
    let many =
    beyond f (differ 4 8 r refl) (beyond h (differ 6 8 r refl) (beyond d (differ 7 8 r refl) (here t (neither _ never (differ 9 8 r refl))))) in
    let late =
    beyond f (differ 4 7 r refl) (beyond h (differ 6 7 r refl) (here d (neither _ (differ 8 7 r refl) (neither _ never (differ 9 7 r refl))))) in
    record {
      is_accepted = (
        λ e. let p = taken.0 e in (record { form = p.0; new = p.1.0; days = p.1.1.0; titles = p.1.1.1.0 }, p.1.1.1.1),
        λ p. taken.1 (p.0.form, (p.0.new, (p.0.days, (p.0.titles, p.1)))),
      );
      refused_4 = here f (neither _ (differ 6 4 r refl) (neither _ (differ 7 4 r refl) (neither _ (differ 8 4 r refl) (neither _ never (differ 9 4 r refl)))));
      refused_6 = beyond f (differ 4 6 r refl) (here h (neither _ (differ 7 6 r refl) (neither _ (differ 8 6 r refl) (neither _ never (differ 9 6 r refl)))));
      refused_7 = (λ e. let p = late.0 e in (p.0, p.1.0, p.1.1), λ p. late.1 (p.0, (p.1, p.2)));
      refused_8 = (λ e. let p = many.0 e in (p.0, p.1.0, p.1.1.0, p.1.1.1), λ p. many.1 (p.0, (p.1, (p.2, p.3))));
      refused_9 = (
        λ e. let p = full.0 e in (record { form = p.0; new = p.1.0; days = p.1.1.0; titles = p.1.1.1.0 }, p.1.1.1.1),
        λ p. full.1 (p.0.form, (p.0.new, (p.0.days, (p.0.titles, p.1)))),
      );
    }

pub withdraw_law : WithdrawLaw
withdraw_law ls r =
    let z = parted (eqb r 0) (eqb-true r 0, eq-eqb r 0) in
    let h = parted (has_rank line_rank r ls) (under_decides r ls) in
    record {
      is_accepted = beyond z (λ e. never (sym e)) (here h (λ e. never (sym e)));
      refused_4 = here z (neither _ never (differ 13 4 r refl));
      refused_13 = beyond z (differ 4 13 r refl) (last h never);
    }
