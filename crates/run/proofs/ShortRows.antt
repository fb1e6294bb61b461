-- The rows of a statement are short: an account has few lines, of small amounts.
use Rattle.std.proofs.Common.{◌≡◌, ℕ, ◌+◌, ◌-◌, ◌*◌, ◌≤◌, ◌<◌, Bool, List, [], ◌∷◌, ◌++◌, ℤ, pos, negsuc, ◌+ℤ◌, ◌-ℤ◌, length, Option, Some, None, refl, ⊎_elim, arith, int_lt}
use Rattle.std.proofs.lemmas.Bool.{cond_both, cases_lt}
use Rattle.std.proofs.lemmas.Int.{ints}
use Rattle.std.proofs.lemmas.Nat.{mul-le}
use Rattle.std.proofs.Math.Nat.{div-le_self, div-le_of_le-mul}
use Rattle.std.specs.List.{AllByRecursion as All}
use Rattle.quantities.specs.declared.isin.Isin.{Isin}
use Rattle.quantities.specs.Amounts.{present_numerator, present_denominator, present_up, present_down, initial_margin, value_numerator, market_value}
use Rattle.quantities.specs.Rounding.{round_up, round_down_signed}
use Rattle.netting.specs.Rules.{both_sides}
use Rattle.register.specs.Keys.{inserted_by}
use Rattle.market.specs.declared.price.Price.{Price}
use Rattle.market.specs.declared.percentage.Percentage.{Percentage}
use Rattle.market.specs.Records.{isin_rank}
use Rattle.account.specs.declared.line.Line.{Line}
use Rattle.account.specs.declared.side.Side.{Side}
use Rattle.account.specs.declared.side.Side.TheVariants.{Bought, Sold}
use Rattle.account.specs.declared.row.Row.{Row}
use Rattle.account.specs.declared.scope.Scope.{Scope}
use Rattle.account.specs.declared.block_name.BlockName.{BlockName}
use Rattle.account.specs.declared.block_name.BlockName.TheVariants.{Trade as trade, Failed as failed, Held as held, CashOnly as cash_only}
use Rattle.account.specs.Lines.{is_trade, is_in_block, if_bought, if_sold, keep, sum_of, has_isin, isins}
use Rattle.account.specs.Settings.{Setting, price_record, percentage_record, millionths_or_zero, basis_points_or_zero, unit_price, percentage_of, line_rate, line_term}
use Rattle.account.specs.Charges.{titles_bought, titles_sold, cash_rounded_up, cash_rounded_down, cash_charged, cash_credited, cash_charge, is_not_today, is_after_next}
use Rattle.account.specs.Rows.{charge, row, worse, scenario_1, scenario_2, scenario_3, block_row, if_any, block_rows, isin_rows, rows_of_isins, statement_rows}
use Rattle.account.specs.Answers.{titles_of}
use Rattle.account.proofs.Blocks.{value_is}
use Rattle.account.proofs.Sorted.{all_inserted}
use Rattle.valuation.proofs.LineLoops.{kept_length, bought_most, sold_most}
use Rattle.run.proofs.TextLengths.{Within, ShortRow}

-- ---- sums of those that pass a test
kept_sum : {X : Type 0} (f : X → ℕ) (p : X → Bool) (xs : List X) → sum_of f (keep p xs) ≤ sum_of f xs
kept_sum f p [] = omega arith
kept_sum f p (x ∷ xs) =
    let m = kept_sum f p xs in
    cond_both (p x) (x ∷ keep p xs) (keep p xs) (λ ks. sum_of f ks ≤ sum_of f (x ∷ xs)) (λ e. omega (arith, m)) (λ e. omega (arith, m))

all_kept : {X : Type 0} (P : X → Type 0) (p : X → Bool) (xs : List X) → All P xs → All P (keep p xs)
all_kept P p [] a = tt
all_kept P p (x ∷ xs) a = let m = all_kept P p xs a.1 in cond_both (p x) (x ∷ keep p xs) (keep p xs) (All P) (λ e. (a.0, m)) (λ e. m)

-- a sum over lines of small cash
sum_most : (f : Line → ℕ) (n : ℕ) → ((l : Line) → l.cash ≤ 1000000000000 → f l ≤ n) → (ms : List Line) → All (λ l. l.cash ≤ 1000000000000) ms → sum_of f ms ≤ n * length ms
sum_most f n most [] a = omega arith
sum_most f n most (m ∷ ms) a = omega (arith, sum_most f n most ms a.1, most m a.0)

both : (xs ys : List Row) → All ShortRow xs → All ShortRow ys → All ShortRow (xs ++ ys)
both [] ys a b = b
both (x ∷ xs) ys a b = (a.0, both xs ys a.1 b)

-- ---- small amounts
price_small : (r : Option Price) → millionths_or_zero r ≤ 2000000
price_small (Some p) = p.price.within
price_small None = omega arith

percentage_small : (r : Option Percentage) → basis_points_or_zero r ≤ 10000
percentage_small (Some p) = p.percentage.within
percentage_small None = omega arith

initial_small : (n p q : ℕ) → n ≤ 2000000 → p ≤ 2000000 → q ≤ 10000 → initial_margin n p q < 100000000000000000
initial_small n p q a b c =
    let m : n * p * q ≤ 2000000 * 2000000 * 10000 = mul-le (n * p) q (2000000 * 2000000) 10000 (mul-le n p 2000000 2000000 a b) c in
    omega (arith, m)

round_up_small : (n d : ℕ) → round_up n d ≤ n + 1
round_up_small n d = ⊎_elim
    (λ (l : d < 1). let m = div-le_self (n + (d - 1)) d in omega (arith, l, m))
    (λ (l : 1 ≤ d). let m : 1 * n ≤ d * n = mul-le 1 n d n l (omega arith) in div-le_of_le-mul d (omega (arith, m, l)))
    (cases_lt d 1)

value_small : (p b s : ℕ) → p ≤ 2000000 → b + s ≤ 2000000 → Within 5000000000000 (market_value p b s)
value_small p b s h k =
    let x : p * b ≤ 2000000 * 2000000 = mul-le p b 2000000 2000000 h (omega (arith, k)) in
    let y : p * s ≤ 2000000 * 2000000 = mul-le p s 2000000 2000000 h (omega (arith, k)) in
    rounded (value_numerator p b s) (value_is p b s) x y
  where
    rounded : (z : ℤ) → z ≡ pos (p * b) -ℤ pos (p * s) → p * b ≤ 4000000000000 → p * s ≤ 4000000000000 → Within 5000000000000 (round_down_signed z 10)
    rounded (pos n) e x y = omega (arith, ints, e, x, y)
    rounded (negsuc n) e x y = omega (arith, ints, e, x, y)

variation_small : (v : ℤ) (up down : ℕ) → Within 5000000000000 v → up ≤ 5000000000000000000000 → down ≤ 5000000000000000000000 → Within 10000000000000000000000 ((v -ℤ pos up) +ℤ pos down)
variation_small v up down h a b = go ((v -ℤ pos up) +ℤ pos down) v refl h
  where
    go : (z y : ℤ) → z ≡ (y -ℤ pos up) +ℤ pos down → Within 5000000000000 y → Within 10000000000000000000000 z
    go (pos n) (pos m) e h = omega (arith, ints, e, h, a, b)
    go (pos n) (negsuc m) e h = omega (arith, ints, e, h, a, b)
    go (negsuc n) (pos m) e h = omega (arith, ints, e, h, a, b)
    go (negsuc n) (negsuc m) e h = omega (arith, ints, e, h, a, b)

-- ---- few lines of small amounts
pub record FewLines (ms : List Line) : Type 0 where
  pub few : length ms ≤ 1024
  pub titles : sum_of (λ l. l.titles) ms ≤ 2000000
  pub cash : All (λ l. l.cash ≤ 1000000000000) ms

few_of : (p : Line → Bool) (ms : List Line) → FewLines ms → FewLines (keep p ms)
few_of p ms f =
    record {
      few = omega (arith, kept_length p ms, f.few);
      titles = omega (arith, kept_sum (λ l. l.titles) p ms, f.titles);
      cash = all_kept (λ l. l.cash ≤ 1000000000000) p ms f.cash;
    }

both_sides_sum : (ms : List Line) → titles_bought ms + titles_sold ms ≡ sum_of (λ l. l.titles) ms
both_sides_sum [] = refl
both_sides_sum (l ∷ ls) = go l.side (both_sides_sum ls)
  where
    go : (s : Side) → titles_bought ls + titles_sold ls ≡ sum_of (λ l. l.titles) ls → (if_bought s l.titles + titles_bought ls) + (if_sold s l.titles + titles_sold ls) ≡ l.titles + sum_of (λ l. l.titles) ls
    go Bought e = omega (arith, e)
    go Sold e = omega (arith, e)

cash_small : (ms : List Line) → FewLines ms → cash_charge ms < 100000000000000000
cash_small ms f = omega (arith, f.few, sum_most (λ l. if_bought l.side l.cash) 1000000000000 (λ l h. bought_most l.side l.cash _ h) ms f.cash)

module _ (s : Setting) where
  line_up_small : (l : Line) → l.cash ≤ 1000000000000 → cash_rounded_up s l ≤ 4000000000000000000
  line_up_small l h =
      let m = round_up_small (present_numerator l.cash) (present_denominator (line_rate s l) (line_term s l)) in
      cond_both (is_trade l) (present_up l.cash (line_rate s l) (line_term s l)) l.cash (λ n. n ≤ 4000000000000000000) (λ e. omega (arith, m, h)) (λ e. omega (arith, h))

  line_down_small : (l : Line) → l.cash ≤ 1000000000000 → cash_rounded_down s l ≤ 4000000000000000000
  line_down_small l h =
      let m = div-le_self (present_numerator l.cash) (present_denominator (line_rate s l) (line_term s l)) in
      cond_both (is_trade l) (present_down l.cash (line_rate s l) (line_term s l)) l.cash (λ n. n ≤ 4000000000000000000) (λ e. omega (arith, m, h)) (λ e. omega (arith, h))

  charged_small : (ms : List Line) → FewLines ms → cash_charged s ms ≤ 5000000000000000000000
  charged_small ms f =
      omega (arith, f.few, sum_most (λ l. if_bought l.side (cash_rounded_up s l)) 4000000000000000000 (λ l h. bought_most l.side (cash_rounded_up s l) _ (line_up_small l h)) ms f.cash)

  credited_small : (ms : List Line) → FewLines ms → cash_credited s ms ≤ 5000000000000000000000
  credited_small ms f =
      omega (arith, f.few, sum_most (λ l. if_sold l.side (cash_rounded_down s l)) 4000000000000000000 (λ l h. sold_most l.side (cash_rounded_down s l) _ (line_down_small l h)) ms f.cash)

  module _ (charged : (b d : ℕ) → s.charged b d ≤ b + d) (i : Isin) (twelve : length i.bytes ≡ 12) where
    row_short : (rule : ℕ → ℕ → ℕ) → ((b d : ℕ) → rule b d ≤ b + d) → (scope : Scope) (ms : List Line) → FewLines ms → ShortRow (row s rule i scope ms)
    row_short rule most scope ms f =
        let all : titles_bought ms + titles_sold ms ≤ 2000000 = let e = both_sides_sum ms in let t = f.titles in omega (arith, e, t) in
        let price = price_small (price_record s i) in
        record {
          twelve = twelve;
          initial = let m = most (titles_bought ms) (titles_sold ms) in initial_small _ (unit_price s i) (percentage_of s i) (omega (arith, m, all)) price (percentage_small (percentage_record s i));
          variation = variation_small (market_value (unit_price s i) (titles_bought ms) (titles_sold ms)) (cash_charged s ms) (cash_credited s ms) (value_small (unit_price s i) _ _ price all) (charged_small ms f) (credited_small ms f);
        }

    worse_short : (a b : Row) → ShortRow a → ShortRow b → ShortRow (worse a b)
    worse_short a b h k = cond_both (int_lt (charge a) (charge b)) b a ShortRow (λ e. k) (λ e. h)

    block_short : (k : BlockName) (ms : List Line) → FewLines ms → ShortRow (block_row s i k ms)
    block_short trade ms f =
        worse_short (worse (scenario_1 s i ms) (scenario_2 s i ms)) (scenario_3 s i ms)
        (worse_short (scenario_1 s i ms) (scenario_2 s i ms) (row_short s.charged charged _ ms f) (row_short s.charged charged _ _ (few_of (is_not_today s) ms f)))
        (row_short s.charged charged _ _ (few_of (is_after_next s) ms f))
    block_short failed ms f = row_short both_sides (λ b d. omega arith) _ ms f
    block_short held ms f = row_short both_sides (λ b d. omega arith) _ ms f
    block_short cash_only ms f = record { twelve = twelve; initial = cash_small ms f; variation = omega arith }

    rows_short : (ls : List Line) → ((k : BlockName) → FewLines (keep (is_in_block i k) ls)) → All ShortRow (isin_rows s ls i)
    rows_short ls few =
        let of = λ (k : BlockName). one (keep (is_in_block i k) ls) (block_row s i k (keep (is_in_block i k) ls)) (block_short k (keep (is_in_block i k) ls) (few k)) in
        both (block_rows s ls i trade) _ (of trade) (both (block_rows s ls i failed) _ (of failed) (both (block_rows s ls i held) _ (of held) (of cash_only)))
      where
        one : (ms : List Line) (r : Row) → ShortRow r → All ShortRow (if_any ms r)
        one [] r h = tt
        one (m ∷ ms) r h = (h, tt)

-- ---- the ISINs of lines
all_isins : (P : Isin → Type 0) (ls : List Line) → All (λ l. P l.isin) ls → All P (isins ls)
all_isins P [] a = tt
all_isins P (l ∷ ls) a =
    let m = all_isins P ls a.1 in
    cond_both (has_isin l.isin (isins ls)) (isins ls) (inserted_by isin_rank l.isin (isins ls)) (All P) (λ e. m) (λ e. all_inserted isin_rank P l.isin (isins ls) a.0 m)

-- lines of an account: few of them, of small amounts in each block
pub record SmallLines (ls : List Line) : Type 0 where
  pub few : length ls ≤ 1024
  pub titles : (i : Isin) (k : BlockName) → titles_of i k ls ≤ 2000000
  pub cash : All (λ l. l.cash ≤ 1000000000000) ls
  pub twelve : All (λ l. length l.isin.bytes ≡ 12) ls

pub all_short : (s : Setting) (ls : List Line) → ((b d : ℕ) → s.charged b d ≤ b + d) → SmallLines ls → All ShortRow (statement_rows s ls)
all_short s ls charged small = over (isins ls) (all_isins (λ i. length i.bytes ≡ 12) ls small.twelve)
  where
    few : (i : Isin) (k : BlockName) → FewLines (keep (is_in_block i k) ls)
    few i k =
        record {
          few = omega (arith, kept_length (is_in_block i k) ls, small.few);
          titles = small.titles i k;
          cash = all_kept (λ l. l.cash ≤ 1000000000000) (is_in_block i k) ls small.cash;
        }

    over : (is : List Isin) → All (λ i. length i.bytes ≡ 12) is → All ShortRow (rows_of_isins s ls is)
    over [] a = tt
    over (i ∷ is) a = both (isin_rows s ls i) (rows_of_isins s ls is) (rows_short s charged i a.0 ls (few i)) (over is a.1)
