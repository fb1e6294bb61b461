-- The number that digits write, byte by byte.
use Rattle.std.proofs.Common.{◌≡◌, ℕ, suc, ◌+◌, ◌-◌, ◌*◌, ◌<◌, ◌≤◌, List, [], ◌∷◌, length, drop, get_or, Option, Some, None, ℤ, pos, neg_ℤ, ◌^◌, sym, refl, ap, ◌∙◌, arith}
use Rattle.std.specs.Option.{option_and_then}
use Rattle.std.proofs.Math.Nat.{pow-succ', pow-le-pow_right}
use Rattle.std.proofs.lemmas.Bool.Decides.{nat_tests}
use Rattle.std.proofs.lemmas.List.{at_drop_more, at_drop_all}
use Rattle.std.proofs.lemmas.Option.{cond_some}
use Rattle.text.specs.Numbers.{digit, digits_number, within, signed_number, within_signed, signed_number_in}

-- digits are read up to i, and write n
abbrev pub Read : List ℕ → ℕ → ℕ → Type 0
Read digits i n = digits_number n (drop i digits) ≡ digits_number 0 digits

module _ (digits : List ℕ) (i n : ℕ) (read : Read digits i n) where
  next : i < length digits → digits_number n (drop i digits) ≡ option_and_then (λ d. digits_number (n * 10 + d) (drop (i + 1) digits)) (digit (get_or digits i 0))
  next l = at_drop_more (digits_number n) digits i 0 l

  pub more : (d : ℕ) → i < length digits → Some d ≡ digit (get_or digits i 0) → Read digits (i + 1) (n * 10 + d)
  more d l e = ap (option_and_then (λ d. digits_number (n * 10 + d) (drop (i + 1) digits))) e ∙ (sym (next l) ∙ read)

  pub none : i < length digits → None ≡ digit (get_or digits i 0) → digits_number 0 digits ≡ None
  none l e = sym read ∙ (next l ∙ ap (option_and_then (λ d. digits_number (n * 10 + d) (drop (i + 1) digits))) (sym e))

  pub whole : length digits ≤ i → digits_number 0 digits ≡ Some n
  whole l = sym read ∙ at_drop_all (digits_number n) digits i l

-- one digit more
pub grows : (n d i : ℕ) → n < 10 ^ i → d < 10 → n * 10 + d < 10 ^ (i + 1)
grows n d i l m =
    let e : i + 1 ≡ suc i = omega arith in
    rw e (omega (arith, pow-succ' 10 i))

-- the number of so few digits is below 2^64
pub fits : (n d i : ℕ) → n < 10 ^ i → d < 10 → i < 19 → n * 10 + d < 2 ^ 64
fits n d i l m s = omega (arith, grows n d i l m, pow-le-pow_right {n = 10} (omega arith) {i = i + 1} {j = 19} (omega arith))

digits_number_past : (low high n : ℕ) (bs : List ℕ) → high < n → option_and_then (within low high) (digits_number n bs) ≡ None
digits_number_past low high n [] h = grind (arith, nat_tests)
digits_number_past low high n (b ∷ bs) h =
    elim (digit b) as (λ o. option_and_then (within low high) (option_and_then (λ d. digits_number (n * 10 + d) bs) o) ≡ None)
    [ None ↦ refl | Some d ↦ digits_number_past low high (n * 10 + d) bs (omega arith) ]

pub past : (high : ℕ) (digits : List ℕ) (i n : ℕ) → Read digits i n → high < n → option_and_then (within 0 high) (digits_number 0 digits) ≡ None
past high digits i n read h = ap (option_and_then (within 0 high)) (sym read) ∙ digits_number_past 0 high n (drop i digits) h

read_within : (low high x : ℤ) (o : Option ℤ) → option_and_then (within_signed low high) o ≡ Some x → o ≡ Some x
read_within low high x None e = cc
read_within low high x (Some y) e = ap Some (cond_some _ y x e).1

-- what a cell spells with digits that write a number below 2^32
pub short : (x : ℤ) (cell : List ℕ) → Some x ≡ signed_number_in (neg_ℤ (pos (2 ^ 32 - 1))) (pos (2 ^ 32 - 1)) cell → signed_number cell ≡ Some x
short x cell e = read_within (neg_ℤ (pos (2 ^ 32 - 1))) (pos (2 ^ 32 - 1)) x (signed_number cell) (sym e)
