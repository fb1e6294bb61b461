-- The margin is near the exact margin, by one cent for each rounded amount.
use Rattle.std.proofs.Common.{◌≡◌, ℕ, suc, ◌+◌, ◌/◌, ◌<◌, ◌≤◌, Bool, true, false, cond, List, [], ◌∷◌, ℤ, pos, negsuc, ◌+ℤ◌, ◌-ℤ◌, neg_ℤ, ◌≤ℤ◌, sym, refl, ap, ◌∙◌, subst, mul-le-mul, arith}
use borrow.Author.Differences.{le_out}
use Rattle.std.proofs.lemmas.Int.{ints}
use Rattle.std.proofs.lemmas.Bool.{false≢true, and_parts, cond_both}
use Rattle.quantities.specs.declared.isin.Isin.{Isin}
use Rattle.quantities.specs.Rounding.{round_up, round_down_signed}
use Rattle.quantities.specs.Amounts.{present_numerator, present_denominator, initial_numerator, value_numerator}
use Rattle.netting.specs.Rules.{Netting, both_sides}
use Rattle.curve.specs.Curves.{Discounting}
use Rattle.account.specs.declared.line.Line.{Line}
use Rattle.account.specs.declared.side.Side.{Side}
use Rattle.account.specs.declared.side.Side.TheVariants.{Bought, Sold}
use Rattle.account.specs.Lines.{block_name, is_same_block, if_bought, if_sold, is_trade, is_in_block, keep, sum_of, sum_ℤ, isins}
use Rattle.account.specs.declared.block_name.BlockName.{BlockName}
use Rattle.account.specs.declared.block_name.BlockName.TheVariants.{Trade as trade, Failed as failed, Held as held, CashOnly as cash_only}
use Rattle.account.specs.Settings.{Setting, unit_price, percentage_of, line_term, line_rate}
use Rattle.account.specs.Charges.{titles_bought, titles_sold, cash_rounded_up, cash_rounded_down, cash_charged, cash_credited, initial_margin_of, market_value_of, variation_margin_of, is_not_today, is_after_next, cash_charge}
use Rattle.account.specs.Rows.{statement_rows}
use Rattle.account.specs.Margin.{block_sum, margin, two_if_any, rounded_amounts}
use Rattle.account.specs.Exact.{fraction_of, whole_number, sum_of_fractions, payment, exact_payment, exact_initial, exact_value, exact_charge, exact_worst, exact_block, exact_block_sum, exact_margin}
use Rattle.account.specs.Joint.{EachTerm, EachTradeHasRate, WithinYear, CentsBound}
use Rattle.account.proofs.Sums.{sum_zero, sum_plus}
use Rattle.account.proofs.Isins.{trade_one, trades_bound}
use Rattle.account.proofs.Blocks.{lines_charge, worst_charge, value_is, block_charge, block_sum_is}
use Rattle.account.proofs.Near.{Near, Under, near_more, near_neg, near_plus, near_minus, under_minus, near_max, near_whole, near_cut, near_sum, near_ceil, under_floor, near_cents}

-- ---- a line's cash
-- each trade is discounted by a number above zero
abbrev Discounted : Setting → List Line → Type 0
Discounted s ls = EachTerm s (λ t. 0 < present_denominator (s.rate t) t) ls

lower_positive : (r : ℤ) (t : ℕ) → negsuc 499 ≤ℤ r → t ≤ 364 → 0 < present_denominator r t
lower_positive (pos r) t h k = omega arith
lower_positive (negsuc r) t h k = let e : suc r ≤ 500 = omega (arith, le_out _ _ h) in omega (arith, mul-le-mul e k)

discounted : (s : Setting) (ls : List Line) → Discounting s.reach s.rate → EachTradeHasRate s ls → WithinYear s ls → Discounted s ls
discounted s [] r c y = tt
discounted s (l ∷ ls) r c y =
    (λ e. lower_positive (line_rate s l) (line_term s l) (r.low (line_term s l) (c.0 e)) (y.0 e), discounted s ls r c.1 y.1)

-- what a line takes from the variation margin
abbrev paid : Setting → Line → ℤ
paid s l = elim l.side [ Bought ↦ pos (cash_rounded_up s l) | Sold ↦ neg_ℤ (pos (cash_rounded_down s l)) ]

paid_is : (s : Setting) (ls : List Line) → sum_ℤ (paid s) ls ≡ pos (cash_charged s ls) -ℤ pos (cash_credited s ls)
paid_is s [] = refl
paid_is s (l ∷ ls) = go l.side (cash_rounded_up s l) (cash_rounded_down s l) (cash_charged s ls) (cash_credited s ls) (sum_ℤ (paid s) ls) (paid_is s ls)
  where
    go : (side : Side) (u d c e : ℕ) (z : ℤ) → z ≡ pos c -ℤ pos e →
        elim side [ Bought ↦ pos u | Sold ↦ neg_ℤ (pos d) ] +ℤ z ≡ pos (if_bought side u + c) -ℤ pos (if_sold side d + e)
    go Bought u d c e z h = omega (arith, ints)
    go Sold u d c e z h = omega (arith, ints)

variation_is : (s : Setting) (i : Isin) (ls : List Line) → variation_margin_of s i ls ≡ market_value_of s i ls -ℤ sum_ℤ (paid s) ls
variation_is s i ls = go (market_value_of s i ls) (cash_charged s ls) (cash_credited s ls) (sum_ℤ (paid s) ls) (paid_is s ls)
  where
    go : (v : ℤ) (c e : ℕ) (z : ℤ) → z ≡ pos c -ℤ pos e → (v -ℤ pos c) +ℤ pos e ≡ v -ℤ z
    go v c e z h = omega (arith, ints)

near_line : (side : Side) (b : Bool) (n c d : ℕ) → (b ≡ true → 0 < d) →
    Near (cond b 1 0) (elim side [ Bought ↦ pos (cond b (round_up n d) c) | Sold ↦ neg_ℤ (pos (cond b (n / d) c)) ])
    (payment side (cond b (fraction_of (pos n) d) (whole_number (pos c))))
near_line Bought true n c d h = near_ceil n d (h refl)
near_line Bought false n c d h = near_whole (pos c)
near_line Sold true n c d h = near_neg (under_floor (pos n) d (h refl))
near_line Sold false n c d h = near_whole (neg_ℤ (pos c))

near_paid : (s : Setting) (ls : List Line) → Discounted s ls → Near (sum_of trade_one ls) (sum_ℤ (paid s) ls) (sum_of_fractions (exact_payment s) ls)
near_paid s [] d = near_whole (pos 0)
near_paid s (l ∷ ls) d =
    near_plus (near_line l.side (is_trade l) (present_numerator l.cash) l.cash (present_denominator (line_rate s l) (line_term s l)) d.0)
    (near_paid s ls d.1)

-- ---- a charge: where there is no line, nothing is rounded
near_none : (n : ℕ) → n ≡ 0 → Near 0 (pos (round_up n 100000)) (fraction_of (pos n) 100000)
near_none n e = record { near = record { positive = omega arith; low = omega arith; high = omega arith } }

under_none : (z : ℤ) → z ≡ pos 0 → Under 0 (round_down_signed z 10) (fraction_of z 10)
under_none z e = subst (λ y. Under 0 (round_down_signed y 10) (fraction_of y 10)) (sym e) (record { under = record { positive = omega arith; low = omega arith; high = omega arith } })

near_charge_by : {a b : ℕ} (s : Setting) (rule : ℕ → ℕ → ℕ) (i : Isin) (ls : List Line) → Discounted s ls → Near a (pos (initial_margin_of s rule i ls)) (exact_initial s rule i ls) →
    Under b (market_value_of s i ls) (exact_value s i ls) → Near (a + (b + sum_of trade_one ls)) (lines_charge s rule i ls) (exact_charge s rule i ls)
near_charge_by {a} {b} s rule i ls d h g =
    subst (λ v. Near (a + (b + sum_of trade_one ls)) (pos (initial_margin_of s rule i ls) -ℤ v) (exact_charge s rule i ls)) (sym (variation_is s i ls))
    (near_minus h (under_minus g (near_paid s ls d)))

near_charge : (s : Setting) (rule : ℕ → ℕ → ℕ) (i : Isin) (ls : List Line) → rule 0 0 ≡ 0 → Discounted s ls →
    Near (two_if_any ls + sum_of trade_one ls) (lines_charge s rule i ls) (exact_charge s rule i ls)
near_charge s rule i [] e d =
    near_charge_by s rule i [] d (near_none _ (ap (λ n. initial_numerator n (unit_price s i) (percentage_of s i)) e ∙ omega arith))
    (under_none (value_numerator (unit_price s i) 0 0) (value_is (unit_price s i) 0 0 ∙ omega (arith, ints)))
near_charge s rule i (l ∷ ls) e d =
    let ks : List Line = l ∷ ls in
    near_more (omega arith)
    (near_charge_by s rule i ks d (near_ceil (initial_numerator (rule (titles_bought ks) (titles_sold ks)) (unit_price s i) (percentage_of s i)) 100000 (omega arith))
    (under_floor (value_numerator (unit_price s i) (titles_bought ks) (titles_sold ks)) 10 (omega arith)))

-- ---- kept lines
terms_keep : (s : Setting) (P : ℕ → Type 0) (p : Line → Bool) (ls : List Line) → EachTerm s P ls → EachTerm s P (keep p ls)
terms_keep s P p [] d = tt
terms_keep s P p (l ∷ ls) d = cond_both (p l) (l ∷ keep p ls) (keep p ls) (EachTerm s P) (λ e. (d.0, terms_keep s P p ls d.1)) (λ e. terms_keep s P p ls d.1)

two_keep : (p : Line → Bool) (ls : List Line) → two_if_any (keep p ls) ≤ two_if_any ls
two_keep p [] = omega arith
two_keep p (l ∷ ls) = most (keep p (l ∷ ls))
  where
    most : (ks : List Line) → two_if_any ks ≤ 2
    most [] = omega arith
    most (k ∷ ks) = omega arith

sum_keep : (f : Line → ℕ) (p : Line → Bool) (ls : List Line) → sum_of f (keep p ls) ≤ sum_of f ls
sum_keep f p [] = omega arith
sum_keep f p (l ∷ ls) =
    let h = sum_keep f p ls in
    cond_both (p l) (l ∷ keep p ls) (keep p ls) (λ ks. sum_of f ks ≤ f l + sum_of f ls) (λ e. omega arith) (λ e. omega arith)

-- a kind of lines among which there is no trade
abbrev NoTrade : BlockName → Type 0
NoTrade k = (b : BlockName) → is_same_block b k ≡ true → ◌≡◌ {A = ℕ} (cond (is_same_block b trade) 1 0) 0

no_trades : (i : Isin) (k : BlockName) (ls : List Line) → NoTrade k → sum_of trade_one (keep (is_in_block i k) ls) ≡ 0
no_trades i k [] h = refl
no_trades i k (l ∷ ls) h =
    cond_both (is_in_block i k l) (l ∷ keep (is_in_block i k) ls) (keep (is_in_block i k) ls) (λ ks. sum_of trade_one ks ≡ 0)
    (λ e. omega (arith, h (block_name l.block) (and_parts _ _ e).1, no_trades i k ls h)) (λ e. no_trades i k ls h)

not_failed : NoTrade failed
not_failed trade e = absurd (false≢true e)
not_failed failed e = refl
not_failed held e = refl
not_failed cash_only e = refl

not_held : NoTrade held
not_held trade e = absurd (false≢true e)
not_held failed e = refl
not_held held e = refl
not_held cash_only e = refl

-- ---- the margin
-- the rounded amounts of an ISIN in a block
abbrev cents : BlockName → List Line → Isin → ℕ
cents trade ls i = two_if_any (keep (is_in_block i trade) ls) + sum_of trade_one (keep (is_in_block i trade) ls)
cents failed ls i = two_if_any (keep (is_in_block i failed) ls)
cents held ls i = two_if_any (keep (is_in_block i held) ls)
cents cash_only ls i = 0

enough : (ls : List Line) → sum_of (cents trade ls) (isins ls) + (sum_of (cents failed ls) (isins ls) + (sum_of (cents held ls) (isins ls) + sum_of (cents cash_only ls) (isins ls))) ≤ rounded_amounts ls
enough ls =
    omega (
      arith,
      trades_bound ls ls,
      sum_plus (λ i. two_if_any (keep (is_in_block i trade) ls)) (λ i. sum_of trade_one (keep (is_in_block i trade) ls)) (isins ls),
      sum_plus (λ i. two_if_any (keep (is_in_block i trade) ls)) (λ i. cents failed ls i + cents held ls i) (isins ls),
      sum_plus (cents failed ls) (cents held ls) (isins ls),
      sum_zero (isins ls),
    )

module _ (s : Setting) (ls : List Line) (net : Netting s.charged) (d : Discounted s ls) where
  kept : (p : Line → Bool) (ks : List Line) → Discounted s ks → Discounted s (keep p ks)
  kept p ks = terms_keep s (λ t. 0 < present_denominator (s.rate t) t) p ks

  near_scenario : (i : Isin) (ks : List Line) → Discounted s ks → Near (two_if_any ks + sum_of trade_one ks) (lines_charge s s.charged i ks) (exact_charge s s.charged i ks)
  near_scenario i ks = near_charge s s.charged i ks (omega (arith, net.at_most 0 0))

  near_part : (i : Isin) (p : Line → Bool) → let ks = keep (is_in_block i trade) ls in Near (cents trade ls i) (lines_charge s s.charged i (keep p ks)) (exact_charge s s.charged i (keep p ks))
  near_part i p =
      let ks : List Line = keep (is_in_block i trade) ls in
      near_more (omega (arith, two_keep p ks, sum_keep trade_one p ks)) (near_scenario i (keep p ks) (kept p ks (kept (is_in_block i trade) ls d)))

  near_isin : (k : BlockName) (i : Isin) → Near (cents k ls i) (block_charge s ls k i) (exact_block s i k (keep (is_in_block i k) ls))
  near_isin trade i =
      let ks : List Line = keep (is_in_block i trade) ls in
      subst (λ z. Near (cents trade ls i) z (exact_worst s i ks)) (sym (worst_charge s i ks))
      (near_max (near_max (near_scenario i ks (kept (is_in_block i trade) ls d)) (near_part i (is_not_today s))) (near_part i (is_after_next s)))
  near_isin failed i = near_more (omega (arith, no_trades i failed ls not_failed)) (near_charge s both_sides i (keep (is_in_block i failed) ls) refl (kept (is_in_block i failed) ls d))
  near_isin held i = near_more (omega (arith, no_trades i held ls not_held)) (near_charge s both_sides i (keep (is_in_block i held) ls) refl (kept (is_in_block i held) ls d))
  near_isin cash_only i =
      let n : ℕ = cash_charge (keep (is_in_block i cash_only) ls) in
      subst (λ z. Near 0 z (whole_number (pos n))) (same n) (near_whole (pos n))
    where
      same : (n : ℕ) → pos n ≡ pos n -ℤ pos 0
      same n = omega (arith, ints)

  near_block : (k : BlockName) → Near (sum_of (cents k ls) (isins ls)) (pos (block_sum k (statement_rows s ls))) (exact_block_sum s ls k)
  near_block k =
      subst (λ n. Near (sum_of (cents k ls) (isins ls)) (pos n) (exact_block_sum s ls k)) (sym (block_sum_is s net ls k))
      (near_cut (near_sum (cents k ls) (block_charge s ls k) (λ i. exact_block s i k (keep (is_in_block i k) ls)) (isins ls) (near_isin k)))

  near_margin : Near (rounded_amounts ls) (pos (margin s ls)) (exact_margin s ls)
  near_margin = near_more (enough ls) (near_plus (near_block trade) (near_plus (near_block failed) (near_plus (near_block held) (near_block cash_only))))

pub cents_bound : CentsBound
cents_bound s ls net r c y = near_cents (near_margin s ls net (discounted s ls r c y))
