-- What a joint book is charged is at most what the two books are.
use Rattle.std.proofs.Common.{◌≡◌, ℕ, ◌+◌, ◌-◌, ◌*◌, ◌<◌, ◌≤◌, cond, List, ℤ, pos, negsuc, ◌+ℤ◌, ◌-ℤ◌, ◌≤ℤ◌, sym, refl, ap, ◌∙◌, subst₂, mul-le-mul_right, mul-add, arith}
use lib.Signed.{lt_z}
use borrow.Author.Differences.{up, down}
use Rattle.std.proofs.lemmas.Int.{ints}
use Rattle.std.proofs.lemmas.Bool.{cond_both}
use Rattle.quantities.specs.declared.isin.Isin.{Isin}
use Rattle.quantities.specs.Rounding.{round_up, round_down_signed}
use Rattle.quantities.specs.Amounts.{initial_margin, value_numerator, market_value}
use Rattle.netting.specs.Rules.{Netting, both_sides}
use Rattle.account.specs.declared.line.Line.{Line}
use Rattle.account.specs.Lines.{same_isin, if_bought, if_sold, is_in_block, keep, sum_ℤ, isins}
use Rattle.account.specs.declared.block_name.BlockName.{BlockName}
use Rattle.account.specs.declared.block_name.BlockName.TheVariants.{Trade as trade, Failed as failed, Held as held, CashOnly as cash_only}
use Rattle.account.specs.Settings.{Setting, unit_price, percentage_of}
use Rattle.account.specs.Charges.{titles_bought, titles_sold, cash_rounded_up, cash_rounded_down, market_value_of, is_not_today, is_after_next}
use Rattle.account.specs.Rows.{statement_rows}
use Rattle.account.specs.Margin.{not_below_zero, block_sum}
use Rattle.account.specs.Joint.{IsJointBook, JointBound}
use Rattle.account.proofs.Sums.{sum_at_most}
use Rattle.account.proofs.Terms.{Adds, joint_adds, adds_ℕ, adds_kept}
use Rattle.account.proofs.Isins.{lines_of, kept_none, sum_over}
use Rattle.account.proofs.Blocks.{larger, lines_charge, largest, worst_charge, value_is, block_charge, charge_none, block_sum_is}

-- ---- amounts
initial_joint : (q q₁ q₂ price pct : ℕ) → q ≤ q₁ + q₂ → initial_margin q price pct ≤ initial_margin q₁ price pct + initial_margin q₂ price pct
initial_joint q q₁ q₂ price pct h =
    let m : q * price * pct ≤ (q₁ + q₂) * price * pct = mul-le-mul_right pct (mul-le-mul_right price h) in
    go (q * price * pct) (q₁ * price * pct) (q₂ * price * pct) (omega arith)
  where
    go : (x y z : ℕ) → x ≤ y + z → round_up x 100000 ≤ round_up y 100000 + round_up z 100000
    go x y z h = omega arith

floor_is : (z : ℤ) → (10 * up (round_down_signed z 10) + down z ≤ 10 * down (round_down_signed z 10) + up z) × (10 * down (round_down_signed z 10) + up z < 10 * up (round_down_signed z 10) + down z + 10)
floor_is (pos n) = omega arith
floor_is (negsuc n) = omega arith

market_joint : (p b b₁ b₂ s s₁ s₂ : ℕ) → b ≡ b₁ + b₂ → s ≡ s₁ + s₂ → (market_value p b₁ s₁ +ℤ market_value p b₂ s₂) ≤ℤ market_value p b s
market_joint p b b₁ b₂ s s₁ s₂ e f =
    let pb : p * b ≡ p * b₁ + p * b₂ = ap (λ k. p * k) e ∙ mul-add p b₁ b₂ in
    let ps : p * s ≡ p * s₁ + p * s₂ = ap (λ k. p * k) f ∙ mul-add p s₁ s₂ in
    go (value_numerator p b s) (value_numerator p b₁ s₁) (value_numerator p b₂ s₂) (omega (arith, ints, value_is p b s, value_is p b₁ s₁, value_is p b₂ s₂))
  where
    go : (z z₁ z₂ : ℤ) → z ≡ z₁ +ℤ z₂ → (round_down_signed z₁ 10 +ℤ round_down_signed z₂ 10) ≤ℤ round_down_signed z 10
    go z z₁ z₂ e = omega (arith, ints, floor_is z, floor_is z₁, floor_is z₂)

less_joint : (n n₁ n₂ u u₁ u₂ v v₁ v₂ : ℕ) (m m₁ m₂ : ℤ) → n ≤ n₁ + n₂ → (m₁ +ℤ m₂) ≤ℤ m → u ≡ u₁ + u₂ → v ≡ v₁ + v₂ → (pos n -ℤ ((m -ℤ pos u) +ℤ pos v)) ≤ℤ ((pos n₁ -ℤ ((m₁ -ℤ pos u₁) +ℤ pos v₁)) +ℤ (pos n₂ -ℤ ((m₂ -ℤ pos u₂) +ℤ pos v₂)))
less_joint n n₁ n₂ u u₁ u₂ v v₁ v₂ m m₁ m₂ hn hm hu hv = omega (arith, ints)

larger_is : (x y : ℤ) → (x ≤ℤ larger x y) × (y ≤ℤ larger x y)
larger_is x y = cond_both (lt_z x y) y x (λ z. (x ≤ℤ z) × (y ≤ℤ z)) (λ e. omega (arith, ints)) (λ e. omega (arith, ints))

larger_joint : (a b c : List Line) (F G : List Line → ℤ) → F c ≤ℤ (F a +ℤ F b) → G c ≤ℤ (G a +ℤ G b) → larger (F c) (G c) ≤ℤ (larger (F a) (G a) +ℤ larger (F b) (G b))
larger_joint a b c F G h k =
    cond_both (lt_z (F c) (G c)) (G c) (F c) (λ z. z ≤ℤ (larger (F a) (G a) +ℤ larger (F b) (G b)))
    (λ e. omega (arith, ints, larger_is (F a) (G a), larger_is (F b) (G b))) (λ e. omega (arith, ints, larger_is (F a) (G a), larger_is (F b) (G b)))

not_below_is : (z : ℤ) → not_below_zero z ≡ up z
not_below_is (pos n) = refl
not_below_is (negsuc n) = refl

not_below_joint : (z x y : ℤ) → z ≤ℤ (x +ℤ y) → not_below_zero z ≤ not_below_zero x + not_below_zero y
not_below_joint (pos n) x y h = omega (arith, ints, not_below_is x, not_below_is y)
not_below_joint (negsuc n) x y h = omega arith

minus_joint : (u u₁ u₂ v v₁ v₂ : ℕ) → u ≡ u₁ + u₂ → v ≡ v₁ + v₂ → (pos (u - v) -ℤ pos 0) ≤ℤ ((pos (u₁ - v₁) -ℤ pos 0) +ℤ (pos (u₂ - v₂) -ℤ pos 0))
minus_joint u u₁ u₂ v v₁ v₂ e f = let h : u - v ≤ (u₁ - v₁) + (u₂ - v₂) = omega arith in omega (arith, ints)

same_joint : {z z' x x' y y' : ℤ} → z ≡ z' → x ≡ x' → y ≡ y' → z' ≤ℤ (x' +ℤ y') → z ≤ℤ (x +ℤ y)
same_joint p q r h = omega (arith, ints)

-- ---- a charge
charge_joint : {a b c : List Line} (s : Setting) (rule : ℕ → ℕ → ℕ) → ((b s c t : ℕ) → rule (b + c) (s + t) ≤ rule b s + rule c t) → (i : Isin) → Adds a b c → lines_charge s rule i c ≤ℤ (lines_charge s rule i a +ℤ lines_charge s rule i b)
charge_joint {a} {b} {c} s rule together i add =
    let bs : titles_bought c ≡ titles_bought a + titles_bought b = adds_ℕ add (λ l. if_bought l.side l.titles) (λ l. refl) in
    let ss : titles_sold c ≡ titles_sold a + titles_sold b = adds_ℕ add (λ l. if_sold l.side l.titles) (λ l. refl) in
    let q : rule (titles_bought c) (titles_sold c) ≤ rule (titles_bought a) (titles_sold a) + rule (titles_bought b) (titles_sold b) = subst₂ (λ x y. rule x y ≤ rule (titles_bought a) (titles_sold a) + rule (titles_bought b) (titles_sold b)) (sym bs) (sym ss) (together (titles_bought a) (titles_sold a) (titles_bought b) (titles_sold b)) in
    less_joint _ _ _ _ _ _ _ _ _ (market_value_of s i c) (market_value_of s i a) (market_value_of s i b)
    (initial_joint _ _ _ (unit_price s i) (percentage_of s i) q) (market_joint (unit_price s i) _ _ _ _ _ _ bs ss)
    (adds_ℕ add (λ l. if_bought l.side (cash_rounded_up s l)) (λ l. refl)) (adds_ℕ add (λ l. if_sold l.side (cash_rounded_down s l)) (λ l. refl))

module _ (s : Setting) (a b c : List Line) (net : Netting s.charged) (j : IsJointBook a b c) where
  adds : Adds a b c
  adds = joint_adds a b c j

  adds_of : (i : Isin) (k : BlockName) → Adds (keep (is_in_block i k) a) (keep (is_in_block i k) b) (keep (is_in_block i k) c)
  adds_of i k = adds_kept (is_in_block i k) (λ l. refl) adds

  more : (x : Isin) → lines_of x c ≡ lines_of x a + lines_of x b
  more x = adds_ℕ adds (λ l. cond (same_isin x l.isin) 1 0) (λ l. refl)

  largest_joint : (i : Isin) → largest s i (keep (is_in_block i trade) c) ≤ℤ (largest s i (keep (is_in_block i trade) a) +ℤ largest s i (keep (is_in_block i trade) b))
  largest_joint i =
      let F : List Line → ℤ = lines_charge s s.charged i in
      let one : List Line → ℤ = λ ls. F (keep (is_in_block i trade) ls) in
      let two : List Line → ℤ = λ ls. F (keep (is_not_today s) (keep (is_in_block i trade) ls)) in
      let three : List Line → ℤ = λ ls. F (keep (is_after_next s) (keep (is_in_block i trade) ls)) in
      larger_joint a b c (λ ls. larger (one ls) (two ls)) three
      (larger_joint a b c one two (charge_joint s s.charged net.together i (adds_of i trade))
      (charge_joint s s.charged net.together i (adds_kept (is_not_today s) (λ l. refl) (adds_of i trade))))
      (charge_joint s s.charged net.together i (adds_kept (is_after_next s) (λ l. refl) (adds_of i trade)))

  isin_joint : (k : BlockName) (i : Isin) → block_charge s c k i ≤ℤ (block_charge s a k i +ℤ block_charge s b k i)
  isin_joint trade i =
      same_joint (worst_charge s i (keep (is_in_block i trade) c)) (worst_charge s i (keep (is_in_block i trade) a)) (worst_charge s i (keep (is_in_block i trade) b)) (largest_joint i)
  isin_joint failed i = charge_joint s both_sides (λ x y z w. omega arith) i (adds_of i failed)
  isin_joint held i = charge_joint s both_sides (λ x y z w. omega arith) i (adds_of i held)
  isin_joint cash_only i =
      let add = adds_ℕ (adds_of i cash_only) in
      minus_joint _ _ _ _ _ _ (add (λ l. if_bought l.side l.cash) (λ l. refl)) (add (λ l. if_sold l.side l.cash) (λ l. refl))

  -- the joint book has the ISINs of both, and an ISIN without lines is charged nothing
  over_more : (ls : List Line) (k : BlockName) → ((x : Isin) → lines_of x ls ≤ lines_of x c) → sum_ℤ (block_charge s ls k) (isins c) ≡ sum_ℤ (block_charge s ls k) (isins ls)
  over_more ls k le = sum_over (block_charge s ls k) ls c (λ i h. charge_none s net ls k i (kept_none i k ls h)) le

  block_joint : (k : BlockName) → block_sum k (statement_rows s c) ≤ block_sum k (statement_rows s a) + block_sum k (statement_rows s b)
  block_joint k =
      let h = not_below_joint (sum_ℤ (block_charge s c k) (isins c)) (sum_ℤ (block_charge s a k) (isins a)) (sum_ℤ (block_charge s b k) (isins b))
      (subst₂ (λ x y. sum_ℤ (block_charge s c k) (isins c) ≤ℤ (x +ℤ y)) (over_more a k (λ x. omega (arith, more x))) (over_more b k (λ x. omega (arith, more x)))
      (sum_at_most (block_charge s c k) (block_charge s a k) (block_charge s b k) (isin_joint k) (isins c))) in
      go (block_sum_is s net c k) (block_sum_is s net a k) (block_sum_is s net b k) h
    where
      go : {z z' x x' y y' : ℕ} → z ≡ z' → x ≡ x' → y ≡ y' → z' ≤ x' + y' → z ≤ x + y
      go p q r h = omega arith

pub joint_bound : JointBound
joint_bound s a b c net j = let h = block_joint s a b c net j in go _ _ _ _ _ _ _ _ _ _ _ _ (h trade) (h failed) (h held) (h cash_only)
  where
    go : (w w₁ w₂ x x₁ x₂ y y₁ y₂ z z₁ z₂ : ℕ) → w ≤ w₁ + w₂ → x ≤ x₁ + x₂ → y ≤ y₁ + y₂ → z ≤ z₁ + z₂ → w + (x + (y + z)) ≤ (w₁ + (x₁ + (y₁ + z₁))) + (w₂ + (x₂ + (y₂ + z₂)))
    go w w₁ w₂ x x₁ x₂ y y₁ y₂ z z₁ z₂ p q r t = omega arith
