-- What the answer to a margin says of the lines: given where none lacks anything, and else refused for the first that does.
use Rattle.std.proofs.Common.{◌≡◌, ◌≢◌, ℕ, zero, suc, ◌<◌, Bool, true, false, cond, not, ◌&&◌, ◌↔◌, eqb, List, [], ◌∷◌, ◌++◌, length, get_or, sym, refl, ap, ap₂, ◌∙◌, subst, ⊎_elim, arith}
use Rattle.std.proofs.lemmas.Bool.{cases_Bool, both_ways, and_parts, ltb-true, lt-ltb, eqb-true, eqb-false, eq-eqb, ne_eqb}
use Rattle.std.specs.List.{Contains, AllByRecursion as Each}
use Rattle.quantities.specs.declared.isin.Isin.{Isin}
use Rattle.register.specs.Bytes.{Bytes}
use Rattle.register.specs.Keys.{has_rank}
use Rattle.market.specs.Records.{isin_rank, price_rank, percentage_rank}
use Rattle.account.specs.declared.line.Line.{Line}
use Rattle.account.specs.declared.block_name.BlockName.TheVariants.{Trade as trade, CashOnly as cash_only}
use Rattle.account.specs.Lines.{block_name, is_same_block, is_trade, same_isin, TwelveBytes}
use Rattle.account.specs.Settings.{Setting, has_price, has_percentage, has_rate, tranche_of}
use Rattle.account.specs.Calls.{accepted, refused, given}
use Rattle.account.specs.Answers.{fault, answer_among}
use Rattle.account.specs.Checks.{IsPriced, HasPercentage, IsRated, LacksNothing, LacksPrice, LacksPercentage, LacksRate, FirstLacks, MarginAnswerLaw}
use Rattle.account.proofs.Answered.{faults, answered, faultless, parts}
use Rattle.account.proofs.Checks.{Parts, parted, not_parted, here, beyond, unless, neither, never, last}
use Rattle.account.proofs.Formed.{isin_bytes}
use Rattle.account.proofs.Ordered.{ranks_apart}
use Rattle.account.proofs.Terms.{same_isin_decides, same_kind_is}

-- ---- a rank is found just where a record of it stands
module _ {X : Type 0} (f : X → ℕ) (k : ℕ) where
  ranked : (xs : List X) → has_rank f k xs ≡ true → (x : X) × (Contains xs x × (f x ≡ k))
  ranked [] h = absurd (both_ways false refl h)
  ranked (x ∷ xs) h = ⊎_elim
      (λ (q : eqb (f x) k ≡ true). (x, ((0, omega arith, refl), eqb-true (f x) k q)))
      (λ (q : eqb (f x) k ≡ false). let r = ranked xs (rw q at h) in let c = r.1.0 in (r.0, ((suc c.0, omega (arith, c.1), c.2), r.1.1)))
      (cases_Bool (eqb (f x) k))

  found : (x : X) (xs : List X) (n : ℕ) → n < length xs → get_or xs n x ≡ x → f x ≡ k → has_rank f k xs ≡ true
  found x [] n l e r = absurd (omega arith)
  found x (y ∷ ys) zero l e r = rw (eq-eqb (f y) k (ap f e ∙ r)) refl
  found x (y ∷ ys) (suc n) l e r = ⊎_elim
      (λ (q : eqb (f y) k ≡ true). rw q refl)
      (λ (q : eqb (f y) k ≡ false). rw q (found x ys n (omega arith) e r))
      (cases_Bool (eqb (f y) k))

-- ISINs of one rank are one
isin_is : (i j : Isin) → Bytes 12 i.bytes → Bytes 12 j.bytes → isin_rank i ≡ isin_rank j → i ≡ j
isin_is i j h k e = ⊎_elim (same_isin_decides i j).0 (λ d. absurd (ranks_apart i j h k d e)) (cases_Bool (same_isin i j))

-- ---- what a line lacks, by its fault
module _ (s : Setting) (l : Line) (twelve : Bytes 12 l.isin.bytes) where
  cash : Parts (is_same_block (block_name l.block) cash_only) (block_name l.block ≡ cash_only) (block_name l.block ≢ cash_only)
  cash = parted _ (same_kind_is (block_name l.block) cash_only, λ e. ap (λ k. is_same_block k cash_only) e)

  price : Parts (not (has_price s l.isin)) (IsPriced s l → ⊥) (IsPriced s l)
  price = not_parted (has_price s l.isin) (
    λ h. let p = ranked price_rank (isin_rank l.isin) s.prices h in record { price = p.0; stands = p.1.0; isin = isin_is p.0.isin l.isin (isin_bytes p.0.isin.bytes p.0.valid) twelve p.1.1 },
    λ p. let c = p.stands in found price_rank (isin_rank l.isin) p.price s.prices c.0 c.1 c.2 (ap isin_rank p.isin),
  )

  percentage : Parts (not (has_percentage s l.isin)) (HasPercentage s l → ⊥) (HasPercentage s l)
  percentage = not_parted (has_percentage s l.isin) (
    λ h. let p = ranked percentage_rank (tranche_of s l.isin) s.percentages h in record { percentage = p.0; stands = p.1.0; tranche = p.1.1 },
    λ p. let c = p.stands in found percentage_rank (tranche_of s l.isin) p.percentage s.percentages c.0 c.1 c.2 p.tranche,
  )

  rate : Parts (is_trade l && not (has_rate s l)) ((block_name l.block ≡ trade) × (IsRated s l → ⊥)) (block_name l.block ≡ trade → IsRated s l)
  rate =
      let r = not_parted (has_rate s l) (ltb-true _ _, lt-ltb _ _) in
      record {
        yes = λ e. let p = and_parts _ _ e in (same_kind_is (block_name l.block) trade p.0, r.yes p.1);
        no = λ e t. r.no (rw (ap (λ k. is_same_block k trade) t) at e);
        apart = λ p n. p.1 (n p.0);
      }

  trade_apart : block_name l.block ≡ trade → block_name l.block ≢ cash_only
  trade_apart t c = cc

  apart : (m n : ℕ) → eqb m n ≡ false → m ≢ n
  apart m n e = eqb-false m n e

  lacks_nothing : (fault s l ≡ 0) ↔ LacksNothing s l
  lacks_nothing =
      let w = unless cash (beyond price (apart 10 0 refl) (beyond percentage (apart 11 0 refl) (last rate (apart 12 0 refl)))) in (
        λ e. record { priced = λ n. (w.0 e n).0; percentage = λ n. (w.0 e n).1.0; rated = λ t. (w.0 e (trade_apart t)).1.1 t },
        λ h. w.1 (λ n. (h.priced n, (h.percentage n, h.rated))),
      )

  lacks_price : (fault s l ≡ 10) ↔ LacksPrice s l
  lacks_price =
      let w = beyond cash (apart 0 10 refl) (here price (neither _ (apart 11 10 refl) (neither _ (apart 12 10 refl) (apart 0 10 refl)))) in
      (λ e. record { with_titles = (w.0 e).0; lacking = (w.0 e).1 }, λ h. w.1 (h.with_titles, h.lacking))

  lacks_percentage : (fault s l ≡ 11) ↔ LacksPercentage s l
  lacks_percentage =
      let w = beyond cash (apart 0 11 refl) (beyond price (apart 10 11 refl) (here percentage (neither _ (apart 12 11 refl) (apart 0 11 refl)))) in (
        λ e. let p = w.0 e in record { with_titles = p.0; priced = p.1.0; lacking = p.1.1 },
        λ h. w.1 (h.with_titles, (h.priced, h.lacking)),
      )

  lacks_rate : (fault s l ≡ 12) ↔ LacksRate s l
  lacks_rate =
      let w = beyond cash (apart 0 12 refl) (beyond price (apart 10 12 refl) (beyond percentage (apart 11 12 refl) (here rate (apart 0 12 refl)))) in (
        λ e. let p = w.0 e in record { is_trade = p.1.1.1.0; priced = p.1.0; percentage = p.1.1.0; lacking = p.1.1.1.1 },
        λ h. w.1 (trade_apart h.is_trade, (h.priced, (h.percentage, (h.is_trade, h.lacking)))),
      )

-- ---- the answer among lines
module _ (s : Setting) where
  none_lacks : (ls : List Line) → TwelveBytes ls → (faults s ls ≡ 0) ↔ Each (LacksNothing s) ls
  none_lacks [] t = (λ e. tt, λ h. refl)
  none_lacks (l ∷ ls) t =
      let here = lacks_nothing s l t.0 in
      let more = none_lacks ls t.1 in
      (λ e. (here.0 (omega arith), more.0 (omega arith)), λ h. omega (arith, here.1 h.0, more.1 h.1))

  module _ (all : List Line) where
    never_accepted : (ls : List Line) → answer_among s all ls ≡ accepted → ⊥
    never_accepted [] e = cc
    never_accepted (l ∷ ls) e = neither (eqb (fault s l) 0) (never_accepted ls) (λ q. never (sym q)) e

    module _ (Lacks : Setting → Line → Type 0) (n : ℕ) (some : n ≢ 0) (lacks : (l : Line) → Bytes 12 l.isin.bytes → (fault s l ≡ n) ↔ Lacks s l) where
      first_lacking : (ls : List Line) (r : ℕ) → TwelveBytes ls → answer_among s all ls ≡ refused n r → FirstLacks Lacks s ls r
      first_lacking [] r t e = let z : ◌≡◌ {A = ℕ} 0 1 = cc in absurd (omega arith)
      first_lacking (l ∷ ls) r t e = go (eqb (fault s l) 0) refl e (first_lacking ls r t.1)
        where
          go : (b : Bool) → eqb (fault s l) 0 ≡ b → cond b (answer_among s all ls) (refused (fault s l) l.reference) ≡ refused n r → (answer_among s all ls ≡ refused n r → FirstLacks Lacks s ls r) → FirstLacks Lacks s (l ∷ ls) r
          go true q e rest =
              let f = rest e in
              record {
                before = l ∷ f.before;
                line = f.line;
                behind = f.behind;
                lines_are = ap (λ ms. l ∷ ms) f.lines_are;
                none_before = ((lacks_nothing s l t.0).0 (eqb-true (fault s l) 0 q), f.none_before);
                lacks = f.lacks;
                reference = f.reference;
              }
          go false q e rest = record { before = []; line = l; behind = ls; lines_are = refl; none_before = tt; lacks = (lacks l t.0).0 cc; reference = cc }

      refused_at : (before : List Line) (l : Line) (behind : List Line) → TwelveBytes (before ++ (l ∷ behind)) → Each (LacksNothing s) before → Lacks s l → answer_among s all (before ++ (l ∷ behind)) ≡ refused n l.reference
      refused_at [] l behind t h w =
          let here = (lacks l t.0).1 w in
          rw (ne_eqb (fault s l) 0 (λ z. some (sym here ∙ z))) (ap (λ m. refused m l.reference) here)
      refused_at (b ∷ bs) l behind t h w = rw (eq-eqb (fault s b) 0 ((lacks_nothing s b t.0).1 h.0)) (refused_at bs l behind t.1 h.1 w)

      refused_first : (ls : List Line) → TwelveBytes ls → (r : ℕ) → (answer_among s all ls ≡ refused n r) ↔ FirstLacks Lacks s ls r
      refused_first ls t r = (
        first_lacking ls r t,
        λ f. ap (answer_among s all) f.lines_are
            ∙ refused_at f.before f.line f.behind (subst TwelveBytes f.lines_are t) f.none_before f.lacks ∙ ap (refused n) f.reference,
      )

pub margin_answer_law : MarginAnswerLaw
margin_answer_law s ls t = record {
  is_given = λ m k. (
    λ e. let p = parts s ls m k e in ((none_lacks s ls t).0 (faultless s ls ls m k e), p.0, p.1),
    λ h. answered s ls ls ((none_lacks s ls t).1 h.0) ∙ sym (ap₂ given h.1 h.2),
  );
  refused_10 = refused_first s ls LacksPrice 10 (eqb-false 10 0 refl) (lacks_price s) ls t;
  refused_11 = refused_first s ls LacksPercentage 11 (eqb-false 11 0 refl) (lacks_percentage s) ls t;
  refused_12 = refused_first s ls LacksRate 12 (eqb-false 12 0 refl) (lacks_rate s) ls t;
  not_accepted = never_accepted s ls ls;
}
