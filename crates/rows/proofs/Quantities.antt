-- The quantities that numbers make, and their numbers.
use Rattle.std.proofs.Common.{◌≡◌, ℕ, zero, suc, ◌<◌, ◌≤◌, Bool, true, false, cond, ◌&&◌, Option, Some, None, refl, sym, ap, ◌∙◌, nat_le, ℤ, ◌≤ℤ◌, arith}
use Rattle.std.specs.Prelude.{IsTrue, int_le, option_map, option_and_then, ◌==◌}
use Rattle.std.proofs.lemmas.Bool.{le-leb, lt-leb, eqb-true, ne_eqb}
use Rattle.std.proofs.Math.Dec.{leb-zero}
use Rattle.std.proofs.lemmas.Option.{cond_some, option_and_then_some}
use Rattle.std.proofs.lemmas.Int.{ints}
use Rattle.text.specs.Cells.{Cell}
use Rattle.text.specs.Numbers.{number, number_in, within, signed_number, signed_number_in, within_signed}
use Rattle.quantities.specs.declared.range.UnitPrice.{UnitPrice}
use Rattle.quantities.specs.declared.range.MarginPercentage.{MarginPercentage}
use Rattle.quantities.specs.declared.range.Rate.{Rate}
use Rattle.quantities.specs.declared.tranche.Tranche.{Tranche}
use Rattle.quantities.specs.declared.tranche.Tranche.TheVariants.{UpToOneYear, UpToThreeYears, UpToFiveYears, UpToTenYears, UpToTwentyYears, OverTwentyYears}
use Rattle.quantities.specs.Ranges.{lowest_price, highest_price, highest_percentage, lowest_rate, highest_rate}
use Rattle.quantities.specs.Tranches.{tranche_number}
use Rattle.market.proofs.Parts.{unit_price_of_parts, margin_percentage_of_parts}
use Rattle.curve.proofs.Parts.{rate_of_parts}
use Rattle.rows.specs.Forms.{if_passed, if_both}
use Rattle.rows.specs.Percentages.{tranche_of_number, tranche_in, percentage_of_number, percentage_in}
use Rattle.rows.specs.Points.{rate_of_number, rate_in}
use Rattle.rows.specs.Prices.{price_of_number, price_in}
use Rattle.rows.proofs.Conditions.{if_passed-true, if_both-true, if_passed-some, if_both-some}

-- ---- a quantity makes its number, and its number makes it
pub unit_price_back : (p : UnitPrice) → price_of_number p.millionths ≡ Some p
unit_price_back p = if_both-true _ _ _ (le-leb _ _ p.above) (le-leb _ _ p.within) ∙ ap Some (unit_price_of_parts _ p refl)

pub unit_price_number : (n : ℕ) (p : UnitPrice) → price_of_number n ≡ Some p → p.millionths ≡ n
unit_price_number n p e = ap (λ (q : UnitPrice). q.millionths) (sym (if_both-some _ _ _ p e).1.1)

pub margin_percentage_back : (p : MarginPercentage) → percentage_of_number p.basis_points ≡ Some p
margin_percentage_back p = if_passed-true _ _ (le-leb _ _ p.within) ∙ ap Some (margin_percentage_of_parts _ p refl)

pub margin_percentage_number : (n : ℕ) (p : MarginPercentage) → percentage_of_number n ≡ Some p → p.basis_points ≡ n
margin_percentage_number n p e = ap (λ (q : MarginPercentage). q.basis_points) (sym (if_passed-some _ _ p e).1)

pub int_le_yes : (a b : ℤ) → a ≤ℤ b → int_le a b ≡ true
int_le_yes a b h = grind (arith, ints)

pub rate_back : (r : Rate) → rate_of_number r.basis_points ≡ Some r
rate_back r = if_both-true _ _ _ (int_le_yes _ _ r.above) (int_le_yes _ _ r.within) ∙ ap Some (rate_of_parts _ r refl)

pub rate_number : (z : ℤ) (r : Rate) → rate_of_number z ≡ Some r → r.basis_points ≡ z
rate_number z r e = ap (λ (q : Rate). q.basis_points) (sym (if_both-some _ _ _ r e).1.1)

pub tranche_back : (t : Tranche) → tranche_of_number (tranche_number t) ≡ Some t
tranche_back UpToOneYear = refl
tranche_back UpToThreeYears = refl
tranche_back UpToFiveYears = refl
tranche_back UpToTenYears = refl
tranche_back UpToTwentyYears = refl
tranche_back OverTwentyYears = refl

-- one more number of those that a tranche may have
or_number : (n m : ℕ) (t z : Tranche) (o : Option Tranche) → tranche_number t ≡ m → (o ≡ Some z → tranche_number z ≡ n) → cond (n == m) (Some t) o ≡ Some z → tranche_number z ≡ n
or_number n m t z o is more e = go (n == m) refl e
  where
    go : (b : Bool) → (n == m) ≡ b → cond b (Some t) o ≡ Some z → tranche_number z ≡ n
    go true h k = ap tranche_number (sym (cond_some true t z k).1) ∙ (is ∙ sym (eqb-true n m h))
    go false h k = more k

pub tranche_has_number : (n : ℕ) (t : Tranche) → tranche_of_number n ≡ Some t → tranche_number t ≡ n
tranche_has_number n t =
    or_number n 1 UpToOneYear t _ refl
    (or_number n 2 UpToThreeYears t _ refl
    (or_number n 3 UpToFiveYears t _ refl
    (or_number n 4 UpToTenYears t _ refl
    (or_number n 5 UpToTwentyYears t _ refl
    (or_number n 6 OverTwentyYears t None refl (λ e. cc))))))

pub tranche_small : (t : Tranche) → tranche_number t ≤ 6
tranche_small UpToOneYear = omega arith
tranche_small UpToThreeYears = omega arith
tranche_small UpToFiveYears = omega arith
tranche_small UpToTenYears = omega arith
tranche_small UpToTwentyYears = omega arith
tranche_small OverTwentyYears = omega arith

-- ---- a number in its range is that number
pub number_found : (low high : ℕ) (cell : Cell) (n : ℕ) → number_in low high cell ≡ Some n → number cell ≡ Some n
number_found low high cell n e = option_and_then_some (within low high) (number cell) n e (λ m o w. o ∙ ap Some (cond_some (nat_le low m && nat_le m high) m n w).1)

pub signed_number_found : (low high : ℤ) (cell : Cell) (z : ℤ) → signed_number_in low high cell ≡ Some z → signed_number cell ≡ Some z
signed_number_found low high cell z e =
    option_and_then_some (within_signed low high) (signed_number cell) z e (λ y o w. o ∙ ap Some (cond_some (int_le low y && int_le y high) y z w).1)

pub price_read : (cell : Cell) (p : UnitPrice) → number_in lowest_price highest_price cell ≡ Some p.millionths → price_in cell ≡ Some p
unfolding price_in
price_read cell p e = ap (option_and_then price_of_number) (number_found _ _ cell _ e) ∙ unit_price_back p

pub percentage_read : (cell : Cell) (p : MarginPercentage) → number_in 0 highest_percentage cell ≡ Some p.basis_points → percentage_in cell ≡ Some p
unfolding percentage_in
percentage_read cell p e = ap (option_and_then percentage_of_number) (number_found _ _ cell _ e) ∙ margin_percentage_back p

pub rate_read : (cell : Cell) (r : Rate) → signed_number_in lowest_rate highest_rate cell ≡ Some r.basis_points → rate_in cell ≡ Some r
unfolding rate_in
rate_read cell r e = ap (option_and_then rate_of_number) (signed_number_found lowest_rate highest_rate cell _ e) ∙ rate_back r

-- ---- the number of what a cell holds is the number in its range that the cell spells
both_number : {X : Type 0} (get : X → ℕ) (n : ℕ) (b c : Bool) (make : IsTrue b → IsTrue c → X) → ((e : IsTrue b) (h : IsTrue c) → get (make e h) ≡ n) →
    option_map get (if_both b c make) ≡ cond (b && c) (Some n) None
both_number get n true true make is = ap Some (is refl refl)
both_number get n true false make is = refl
both_number get n false c make is = refl

signed_both : {X : Type 0} (get : X → ℤ) (z : ℤ) (b c : Bool) (make : IsTrue b → IsTrue c → X) → ((e : IsTrue b) (h : IsTrue c) → get (make e h) ≡ z) →
    option_map get (if_both b c make) ≡ cond (b && c) (Some z) None
signed_both get z true true make is = ap Some (is refl refl)
signed_both get z true false make is = refl
signed_both get z false c make is = refl

one_number : {X : Type 0} (get : X → ℕ) (n : ℕ) (b : Bool) (make : IsTrue b → X) → ((e : IsTrue b) → get (make e) ≡ n) → option_map get (if_passed b make) ≡ cond b (Some n) None
one_number get n true make is = ap Some (is refl)
one_number get n false make is = refl

above_six : (n : ℕ) → 6 < n → option_map tranche_number (tranche_of_number n) ≡ cond (nat_le 1 n && nat_le n 6) (Some n) None
above_six n h =
    rw (
      ne_eqb n 1 (λ e. omega (arith, e)),
      ne_eqb n 2 (λ e. omega (arith, e)),
      ne_eqb n 3 (λ e. omega (arith, e)),
      ne_eqb n 4 (λ e. omega (arith, e)),
      ne_eqb n 5 (λ e. omega (arith, e)),
      ne_eqb n 6 (λ e. omega (arith, e)),
      le-leb 1 n (omega arith),
      lt-leb n 6 h,
    ) refl

six_numbers : (n : ℕ) → option_map tranche_number (tranche_of_number n) ≡ cond (nat_le 1 n && nat_le n 6) (Some n) None
six_numbers zero = refl
six_numbers (suc zero) = refl
six_numbers (suc (suc zero)) = refl
six_numbers (suc (suc (suc zero))) = refl
six_numbers (suc (suc (suc (suc zero)))) = refl
six_numbers (suc (suc (suc (suc (suc zero))))) = refl
six_numbers (suc (suc (suc (suc (suc (suc zero)))))) = refl
six_numbers (suc (suc (suc (suc (suc (suc (suc n))))))) = above_six (suc (suc (suc (suc (suc (suc (suc n))))))) (omega arith)

through : {X Y : Type 0} (get : X → Y) (make : Y → Option X) (test : Y → Option Y) (o : Option Y) → ((n : Y) → option_map get (make n) ≡ test n) → option_map get (option_and_then make o) ≡ option_and_then test o
through get make test None is = refl
through get make test (Some n) is = is n

pub price_in_number : (cell : Cell) → option_map (λ p. p.millionths) (price_in cell) ≡ number_in lowest_price highest_price cell
unfolding price_in
price_in_number cell = through _ price_of_number _ (number cell) (λ n. both_number _ n _ _ _ (λ e h. refl))

pub percentage_in_number : (cell : Cell) → option_map (λ p. p.basis_points) (percentage_in cell) ≡ number_in 0 highest_percentage cell
unfolding percentage_in
percentage_in_number cell = through _ percentage_of_number _ (number cell) (λ n. one_number _ n _ _ (λ e. refl) ∙ ap (λ t. cond (t && nat_le n highest_percentage) (Some n) None) (sym (leb-zero n)))

pub tranche_in_number : (cell : Cell) → option_map tranche_number (tranche_in cell) ≡ number_in 1 6 cell
unfolding tranche_in
tranche_in_number cell = through tranche_number tranche_of_number _ (number cell) six_numbers

pub rate_in_number : (cell : Cell) → option_map (λ r. r.basis_points) (rate_in cell) ≡ signed_number_in lowest_rate highest_rate cell
unfolding rate_in
rate_in_number cell = through _ rate_of_number _ (signed_number cell) (λ z. signed_both _ z _ _ _ (λ e h. refl))
