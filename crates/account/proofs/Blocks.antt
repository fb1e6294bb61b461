-- What an ISIN is charged in a block, and that the rows of a block add up to it.
use Rattle.std.proofs.Common.{◌≡◌, ℕ, ◌+◌, ◌*◌, Bool, true, false, cond, List, [], ◌∷◌, ℤ, pos, ◌+ℤ◌, ◌-ℤ◌, ◌*ℤ◌, sym, refl, ap, ◌∙◌, ap₂, inl, inr, arith}
use lib.Signed.{lt_z}
use borrow.Author.Differences.{up, down, product_is}
use Rattle.std.proofs.lemmas.Int.{ints}
use Rattle.std.proofs.lemmas.Bool.{cond_both}
use Rattle.quantities.specs.declared.isin.Isin.{Isin}
use Rattle.quantities.specs.Rounding.{round_down_signed}
use Rattle.quantities.specs.Amounts.{initial_margin, value_numerator}
use Rattle.netting.specs.Rules.{Netting, both_sides}
use Rattle.account.specs.declared.line.Line.{Line}
use Rattle.account.specs.declared.row.Row.{Row}
use Rattle.account.specs.Lines.{is_same_block, is_in_block, keep, sum_ℤ, isins}
use Rattle.account.specs.declared.block_name.BlockName.{BlockName}
use Rattle.account.specs.declared.block_name.BlockName.TheVariants.{Trade as trade, Failed as failed, Held as held, CashOnly as cash_only}
use Rattle.account.specs.Settings.{Setting, unit_price, percentage_of}
use Rattle.account.specs.Charges.{initial_margin_of, variation_margin_of, is_not_today, is_after_next}
use Rattle.account.specs.Rows.{block_of, charge, worse, scenario_1, scenario_2, scenario_3, worst, block_row, if_any, block_rows, isin_rows, rows_of_isins, statement_rows, WorstOf, WorstLaw, NoLinesLaw}
use Rattle.account.specs.Margin.{not_below_zero, block_sum}
use Rattle.account.proofs.Sums.{sum_both, sum_kept}

-- ---- the worst scenario has the largest charge
abbrev pub larger : ℤ → ℤ → ℤ
larger x y = cond (lt_z x y) y x

worse_charge : (a b : Row) → charge (worse a b) ≡ larger (charge a) (charge b)
worse_charge a b = go (lt_z (charge a) (charge b))
  where
    go : (t : Bool) → charge (cond t b a) ≡ cond t (charge b) (charge a)
    go true = refl
    go false = refl

-- the charge of lines of an ISIN, by a netting rule
abbrev pub lines_charge : Setting → (ℕ → ℕ → ℕ) → Isin → List Line → ℤ
lines_charge s rule i ls = pos (initial_margin_of s rule i ls) -ℤ variation_margin_of s i ls

abbrev pub largest : Setting → Isin → List Line → ℤ
largest s i ts =
    larger (larger (lines_charge s s.charged i ts) (lines_charge s s.charged i (keep (is_not_today s) ts)))
    (lines_charge s s.charged i (keep (is_after_next s) ts))

pub worst_charge : (s : Setting) (i : Isin) (ts : List Line) → charge (worst s i ts) ≡ largest s i ts
worst_charge s i ts =
    worse_charge (worse (scenario_1 s i ts) (scenario_2 s i ts)) (scenario_3 s i ts)
    ∙ ap (λ z. larger z (charge (scenario_3 s i ts))) (worse_charge (scenario_1 s i ts) (scenario_2 s i ts))

worst_is : (a b c : Row) → WorstOf a b c (worse (worse a b) c)
worst_is a b c =
    cond_both (lt_z (charge a) (charge b)) b a (λ w. WorstOf a b c (worse w c))
    (λ e. cond_both (lt_z (charge b) (charge c)) c b (WorstOf a b c)
    (λ f. record { not_below_one = omega (arith, ints); not_below_two = omega (arith, ints); not_below_three = omega (arith, ints); lowest = inr (inr (refl, omega (arith, ints), omega (arith, ints))) })
    (λ f. record { not_below_one = omega (arith, ints); not_below_two = omega (arith, ints); not_below_three = omega (arith, ints); lowest = inr (inl (refl, omega (arith, ints))) }))
    (λ e. cond_both (lt_z (charge a) (charge c)) c a (WorstOf a b c)
    (λ f. record { not_below_one = omega (arith, ints); not_below_two = omega (arith, ints); not_below_three = omega (arith, ints); lowest = inr (inr (refl, omega (arith, ints), omega (arith, ints))) })
    (λ f. record { not_below_one = omega (arith, ints); not_below_two = omega (arith, ints); not_below_three = omega (arith, ints); lowest = inl refl }))

pub worst_law : WorstLaw
worst_law s i trades = worst_is (scenario_1 s i trades) (scenario_2 s i trades) (scenario_3 s i trades)

-- ---- a value, in tenths of a cent
pub value_is : (p b s : ℕ) → value_numerator p b s ≡ pos (p * b) -ℤ pos (p * s)
value_is p b s = go (pos b -ℤ pos s) (omega (arith, ints))
  where
    go : (z : ℤ) → z ≡ pos b -ℤ pos s → pos p *ℤ z ≡ pos (p * b) -ℤ pos (p * s)
    go z e =
        let f : up z + s ≡ down z + b = omega (arith, ints) in
        omega (arith, ints, product_is (pos p) z, ap (λ (n : ℕ). p * n) f)

-- ---- where there is no line, nothing is charged
lines_none : (s : Setting) (rule : ℕ → ℕ → ℕ) → rule 0 0 ≡ 0 → (i : Isin) → lines_charge s rule i [] ≡ pos 0
lines_none s rule none i =
    let n : initial_margin (rule 0 0) (unit_price s i) (percentage_of s i) ≡ 0 = ap (λ q. initial_margin q (unit_price s i) (percentage_of s i)) none ∙ omega arith in
    let v : value_numerator (unit_price s i) 0 0 ≡ pos 0 = value_is (unit_price s i) 0 0 ∙ omega (arith, ints) in
    ap₂ (λ n z. pos n -ℤ ((round_down_signed z 10 -ℤ pos 0) +ℤ pos 0)) n v

block_none : (s : Setting) → Netting s.charged → (i : Isin) (k : BlockName) → charge (block_row s i k []) ≡ pos 0
block_none s net i trade = worst_charge s i [] ∙ ap (λ z. larger (larger z z) z) (lines_none s s.charged (omega (arith, net.at_most 0 0)) i)
block_none s net i failed = lines_none s both_sides refl i
block_none s net i held = lines_none s both_sides refl i
block_none s net i cash_only = refl

pub no_lines_law : NoLinesLaw
no_lines_law s net i k scope = (lines_none s s.charged (omega (arith, net.at_most 0 0)) i, block_none s net i k)

-- ---- the rows of a block
abbrev pub block_charge : Setting → List Line → BlockName → Isin → ℤ
block_charge s ls k i = charge (block_row s i k (keep (is_in_block i k) ls))

pub charge_none : (s : Setting) → Netting s.charged → (ls : List Line) (k : BlockName) (i : Isin) → keep (is_in_block i k) ls ≡ [] → block_charge s ls k i ≡ pos 0
charge_none s net ls k i e = ap (λ ks. charge (block_row s i k ks)) e ∙ block_none s net i k

pub block_is : (s : Setting) (i : Isin) (k : BlockName) (ls : List Line) → block_of (block_row s i k ls).scope ≡ k
block_is s i trade ls = worse_is (worse (scenario_1 s i ls) (scenario_2 s i ls)) (scenario_3 s i ls) (worse_is (scenario_1 s i ls) (scenario_2 s i ls) refl refl) refl
  where
    worse_is : (a b : Row) → block_of a.scope ≡ trade → block_of b.scope ≡ trade → block_of (worse a b).scope ≡ trade
    worse_is a b p q = cond_both (lt_z (charge a) (charge b)) b a (λ r. block_of r.scope ≡ trade) (λ e. q) (λ e. p)
block_is s i failed ls = refl
block_is s i held ls = refl
block_is s i cash_only ls = refl

abbrev in_block : BlockName → Row → ℤ
in_block k r = cond (is_same_block (block_of r.scope) k) (charge r) (pos 0)

one_row : (k m : BlockName) (ls : List Line) (r : Row) → block_of r.scope ≡ m → (ls ≡ [] → charge r ≡ pos 0) → sum_ℤ (in_block k) (if_any ls r) ≡ cond (is_same_block m k) (charge r) (pos 0)
one_row k m [] r e none = sym (cond_both (is_same_block m k) (charge r) (pos 0) (λ z. z ≡ pos 0) (λ _. none refl) (λ _. refl))
one_row k m (l ∷ ls) r e none = omega (arith, ints, ap (λ b. cond (is_same_block b k) (charge r) (pos 0)) e)

module _ (s : Setting) (net : Netting s.charged) (ls : List Line) where
  rows_of : (k : BlockName) (i : Isin) (m : BlockName) → sum_ℤ (in_block k) (block_rows s ls i m) ≡ cond (is_same_block m k) (block_charge s ls m i) (pos 0)
  rows_of k i m = one_row k m (keep (is_in_block i m) ls) (block_row s i m (keep (is_in_block i m) ls)) (block_is s i m (keep (is_in_block i m) ls)) (charge_none s net ls m i)

  of_isin : (k : BlockName) (i : Isin) → sum_ℤ (in_block k) (isin_rows s ls i) ≡ block_charge s ls k i
  of_isin k i =
      sum_both (in_block k) (block_rows s ls i trade) _
      ∙ ap₂ ◌+ℤ◌ (rows_of k i trade) (sum_both (in_block k) (block_rows s ls i failed) _
      ∙ ap₂ ◌+ℤ◌ (rows_of k i failed) (sum_both (in_block k) (block_rows s ls i held) _
      ∙ ap₂ ◌+ℤ◌ (rows_of k i held) (rows_of k i cash_only)))
      ∙ go k (λ m. block_charge s ls m i)
    where
      go : (k : BlockName) (f : BlockName → ℤ) → cond (is_same_block trade k) (f trade) (pos 0) +ℤ (cond (is_same_block failed k) (f failed) (pos 0) +ℤ (cond (is_same_block held k) (f held) (pos 0) +ℤ cond (is_same_block cash_only k) (f cash_only) (pos 0))) ≡ f k
      go trade f = omega (arith, ints)
      go failed f = omega (arith, ints)
      go held f = omega (arith, ints)
      go cash_only f = omega (arith, ints)

  over_isins : (k : BlockName) (is : List Isin) → sum_ℤ (in_block k) (rows_of_isins s ls is) ≡ sum_ℤ (block_charge s ls k) is
  over_isins k [] = refl
  over_isins k (i ∷ is) = sum_both (in_block k) (isin_rows s ls i) (rows_of_isins s ls is) ∙ ap₂ ◌+ℤ◌ (of_isin k i) (over_isins k is)

  pub block_sum_is : (k : BlockName) → block_sum k (statement_rows s ls) ≡ not_below_zero (sum_ℤ (block_charge s ls k) (isins ls))
  block_sum_is k = ap not_below_zero (sum_kept charge (λ r. is_same_block (block_of r.scope) k) (statement_rows s ls) ∙ over_isins k (isins ls))
