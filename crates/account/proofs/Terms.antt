-- Lines with the same terms: all that a definition reads of them is the same.
use Rattle.std.proofs.Common.{◌≡◌, ℕ, ◌+◌, Bool, true, cond, List, ℤ, pos, ◌+ℤ◌, Decides, sym, refl, ap, ◌∙◌, ap₂, arith}
use Rattle.std.proofs.lemmas.Int.{ints}
use Rattle.std.proofs.lemmas.Slice.Eq.{bytes_eq-Decides}
use Rattle.std.proofs.lemmas.Bool.{and_parts, and_from, eqb-true, eq-eqb}
use Rattle.quantities.specs.declared.isin.Isin.{Isin}
use Rattle.account.specs.declared.side.Side.{Side}
use Rattle.account.specs.declared.side.Side.TheVariants.{Bought, Sold}
use Rattle.account.specs.declared.block.Block.{Block}
use Rattle.account.specs.declared.block.Block.TheVariants.{Trade, Failed, Held, CashOnly}
use Rattle.account.specs.declared.line.Line.{Line}
use Rattle.account.specs.Lines.{block_name, date, is_same_block, same_side, same_isin, same_terms, keep, sum_of, sum_ℤ}
use Rattle.account.specs.declared.block_name.BlockName.{BlockName}
use Rattle.account.specs.declared.block_name.BlockName.TheVariants.{Trade as trade, Failed as failed, Held as held, CashOnly as cash_only}
use Rattle.account.specs.Joint.{IsJointBook}
use Rattle.account.proofs.Sums.{joint_sum, sum_pos, sum_kept}

pub same_isin_decides : (i j : Isin) → Decides (same_isin i j) (i ≡ j)
same_isin_decides i j =
    (λ e. ap (λ bs. record { bytes = bs }) ((bytes_eq-Decides i.bytes j.bytes).0 e), λ e. (bytes_eq-Decides i.bytes j.bytes).1 (ap (λ k. k.bytes) e))

same_side_is : (s t : Side) → same_side s t ≡ true → s ≡ t
same_side_is Bought Bought h = refl
same_side_is Bought Sold h = cc
same_side_is Sold Bought h = cc
same_side_is Sold Sold h = refl

same_side_itself : (s : Side) → same_side s s ≡ true
same_side_itself Bought = refl
same_side_itself Sold = refl

pub same_kind_itself : (k : BlockName) → is_same_block k k ≡ true
same_kind_itself trade = refl
same_kind_itself failed = refl
same_kind_itself held = refl
same_kind_itself cash_only = refl

pub same_kind_is : (j k : BlockName) → is_same_block j k ≡ true → j ≡ k
same_kind_is trade trade h = refl
same_kind_is trade failed h = cc
same_kind_is trade held h = cc
same_kind_is trade cash_only h = cc
same_kind_is failed trade h = cc
same_kind_is failed failed h = refl
same_kind_is failed held h = cc
same_kind_is failed cash_only h = cc
same_kind_is held trade h = cc
same_kind_is held failed h = cc
same_kind_is held held h = refl
same_kind_is held cash_only h = cc
same_kind_is cash_only trade h = cc
same_kind_is cash_only failed h = cc
same_kind_is cash_only held h = cc
same_kind_is cash_only cash_only h = refl

same_block : (p q : Block) → is_same_block (block_name p) (block_name q) ≡ true → date p ≡ date q → p ≡ q
same_block (Trade d) (Trade e) k h = cc
same_block (Trade d) (Failed e) k h = cc
same_block (Trade d) (Held e) k h = cc
same_block (Trade d) (CashOnly e) k h = cc
same_block (Failed d) (Trade e) k h = cc
same_block (Failed d) (Failed e) k h = cc
same_block (Failed d) (Held e) k h = cc
same_block (Failed d) (CashOnly e) k h = cc
same_block (Held d) (Trade e) k h = cc
same_block (Held d) (Failed e) k h = cc
same_block (Held d) (Held e) k h = cc
same_block (Held d) (CashOnly e) k h = cc
same_block (CashOnly d) (Trade e) k h = cc
same_block (CashOnly d) (Failed e) k h = cc
same_block (CashOnly d) (Held e) k h = cc
same_block (CashOnly d) (CashOnly e) k h = cc

-- the line, with its reference taken away
abbrev pub bare : Line → Line
bare l = record { reference = 0; isin = l.isin; side = l.side; titles = l.titles; cash = l.cash; block = l.block }

pub same_bare : (x y : Line) → same_terms x y ≡ true → bare x ≡ bare y
same_bare x y h =
    let a = and_parts _ _ h in
    let b = and_parts _ _ a.1 in
    let c = and_parts _ _ b.1 in
    let d = and_parts _ _ c.1 in
    let e = and_parts _ _ d.1 in
    let i : x.isin ≡ y.isin = (same_isin_decides x.isin y.isin).0 a.0 in
    let s : x.side ≡ y.side = same_side_is x.side y.side b.0 in
    let t : x.titles ≡ y.titles = eqb-true x.titles y.titles c.0 in
    let m : x.cash ≡ y.cash = eqb-true x.cash y.cash d.0 in
    let k : x.block ≡ y.block = same_block x.block y.block e.0 (eqb-true (date x.block) (date y.block) e.1) in
    λ j. record { reference = 0; isin = i j; side = s j; titles = t j; cash = m j; block = k j }

same_terms_itself : (x : Line) → same_terms x x ≡ true
same_terms_itself x =
    and_from _ _ ((same_isin_decides x.isin x.isin).1 refl) (and_from _ _ (same_side_itself x.side) (and_from _ _ (eq-eqb x.titles x.titles refl)
    (and_from _ _ (eq-eqb x.cash x.cash refl) (and_from _ _ (same_kind_itself (block_name x.block)) (eq-eqb (date x.block) (date x.block) refl)))))

same_terms_alike : (x y z : Line) → same_terms x y ≡ true → same_terms z x ≡ same_terms z y
same_terms_alike x y z h = ap (same_terms z) (same_bare x y h)

-- lists of lines whose sums add up, of all that does not read the reference
pub record Adds (a b c : List Line) : Type 0 where
  pub sums : (f : Line → ℤ) → ((l : Line) → f (bare l) ≡ f l) → sum_ℤ f c ≡ sum_ℤ f a +ℤ sum_ℤ f b

pub joint_adds : (a b c : List Line) → IsJointBook a b c → Adds a b c
joint_adds a b c j = record { sums = λ f same. joint_sum same_terms same_terms_itself same_terms_alike f (λ x y h. sym (same x) ∙ ap f (same_bare x y h) ∙ same y) a b c j }

pub adds_ℕ : {a b c : List Line} → Adds a b c → (f : Line → ℕ) → ((l : Line) → f (bare l) ≡ f l) → sum_of f c ≡ sum_of f a + sum_of f b
adds_ℕ {a} {b} {c} add f same = omega (arith, ints, add.sums (λ l. pos (f l)) (λ l. ap pos (same l)), sum_pos f a, sum_pos f b, sum_pos f c)

pub adds_kept : {a b c : List Line} (p : Line → Bool) → ((l : Line) → p (bare l) ≡ p l) → Adds a b c → Adds (keep p a) (keep p b) (keep p c)
adds_kept {a} {b} {c} p kp add =
    record { sums = λ f kf. omega (arith, ints, add.sums (λ l. cond (p l) (f l) (pos 0)) (λ l. ap₂ (λ t z. cond t z (pos 0)) (kp l) (kf l)), sum_kept f p a, sum_kept f p b, sum_kept f p c) }
