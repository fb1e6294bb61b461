-- A number's one spelling is what is printed of it.
use Rattle.std.proofs.Common.{◌≡◌, ◌≢◌, ℕ, zero, suc, ◌+◌, ◌-◌, ◌*◌, ◌^◌, ◌<◌, ◌≤◌, eqb, Bool, true, false, cond, ◌&&◌, List, [], ◌∷◌, length, get_or, Option, Some, None, ℤ, pos, negsuc, unsigned_abs, sym, refl, ap, ◌∙◌, arith, rules}
use Rattle.std.specs.Char.{is_ascii_digit}
use Rattle.std.specs.Fmt.{decimal, signed_decimal}
use Rattle.std.specs.Option.{option_map, option_and_then}
use Rattle.std.specs.Str.{all_ascii_digits}
use Rattle.std.proofs.lemmas.Bool.{cond-true, cond-false, ne_eqb, eqb-true, eqb-false}
use Rattle.std.proofs.lemmas.Fmt.{decimal_nonempty, first_decimal, decimal_digit, digits_decimal, digits_value-decimal, decimal-digits_value}
use Rattle.std.proofs.lemmas.Option.{cond_some}
use Rattle.std.proofs.lemmas.Str.Parse.{IsNumeralModel, numerals_by_fold, tells_all_ascii_digits}
use Rattle.text.specs.Numbers.{digits_number, number, negative_of, signed_number}
use Rattle.text.specs.Laws.{PrintedLaw, SpellingLaw, SignedPrintedLaw, SignedSpellingLaw}

value : ℕ → List ℕ → ℕ
value n [] = n
value n (b ∷ bs) = value (n * 10 + (b - 48)) bs

own : IsNumeralModel (λ ds. all_ascii_digits ds ≡ true) (value 0)
unfolding value
own = numerals_by_fold _ tells_all_ascii_digits value (search rules)

digits_number_is : (n : ℕ) (bs : List ℕ) → digits_number n bs ≡ cond (all_ascii_digits bs) (Some (value n bs)) None
unfolding value
digits_number_is n [] = refl
digits_number_is n (b ∷ bs) =
    elim (is_ascii_digit b) as (λ t. option_and_then (λ d. digits_number (n * 10 + d) bs) (cond t (Some (b - 48)) None) ≡ cond (t && all_ascii_digits bs) (Some (value (n * 10 + (b - 48)) bs)) None)
    [ true ↦ digits_number_is (n * 10 + (b - 48)) bs | false ↦ refl ]

-- a cell whose digits write n, with no zero in front of others
record Plain (cell : List ℕ) (n : ℕ) : Type 0 where
  some : 0 < length cell
  front : get_or cell 0 0 ≡ 48 → length cell ≡ 1
  whole : digits_number 0 cell ≡ Some n

plain_number : (cell : List ℕ) (n : ℕ) → Plain cell n → number cell ≡ Some n
plain_number [] n h = absurd (omega (arith, h.some))
plain_number (b ∷ []) n h = h.whole
plain_number (b ∷ (c ∷ cs)) n h = cond-false (eqb b 48) _ _ (ne_eqb b 48 (λ e. absurd (omega (arith, h.front e)))) ∙ h.whole

number_front : (b : ℕ) (t : Bool) (o : Option ℕ) (n : ℕ) → eqb b 48 ≡ t → cond t None o ≡ Some n → (b ≢ 48) × (o ≡ Some n)
number_front b true o n e h = cc
number_front b false o n e h = (eqb-false b 48 e, h)

number_plain : (cell : List ℕ) (n : ℕ) → number cell ≡ Some n → Plain cell n
number_plain [] n e = cc
number_plain (b ∷ []) n e = record { some = omega arith; front = λ _. refl; whole = e }
number_plain (b ∷ (c ∷ cs)) n e =
    let f = number_front b (eqb b 48) _ n refl e in
    record { some = omega arith; front = λ z. absurd (f.0 z); whole = f.1 }

front_printed : (n : ℕ) → n < 2 ^ 64 → get_or (decimal n) 0 0 ≡ 48 → length (decimal n) ≡ 1
front_printed zero l e = ap length (decimal_digit 0 (omega arith))
front_printed (suc n) l e = absurd (omega (arith, first_decimal (suc n) (omega arith) l))

pub printed_law : PrintedLaw
printed_law n l =
    plain_number (decimal n) n (record {
      some = decimal_nonempty n l;
      front = front_printed n l;
      whole = digits_number_is 0 (decimal n) ∙ (cond-true (all_ascii_digits (decimal n)) _ _ (digits_decimal own n l) ∙ ap Some (digits_value-decimal own n l));
    })

pub spelling_law : SpellingLaw
spelling_law cell n l e =
    let p = number_plain cell n e in
    let w = cond_some (all_ascii_digits cell) (value 0 cell) n (sym (digits_number_is 0 cell) ∙ p.whole) in
    sym (decimal-digits_value own cell w.0 p.some p.front (omega (arith, w.1))) ∙ ap decimal w.1

front_high : (n : ℕ) → n < 2 ^ 64 → 48 ≤ get_or (decimal n) 0 0
front_high zero l = rw (decimal_digit 0 (omega arith)) (omega arith)
front_high (suc n) l = omega (arith, first_decimal (suc n) (omega arith) l)

no_minus : (cell : List ℕ) → get_or cell 0 0 ≢ 45 → signed_number cell ≡ option_map pos (number cell)
no_minus [] h = refl
no_minus (b ∷ bs) h = cond-false (eqb b 45) _ _ (ne_eqb b 45 h)

minus_more : (n : ℕ) → negative_of (suc n) ≡ Some (negsuc n)
minus_more n = cond-false (eqb (suc n) 0) _ _ (ne_eqb (suc n) 0 (λ e. absurd (omega arith)))

pub signed_printed_law : SignedPrintedLaw
signed_printed_law (pos n) l =
    let h = front_high n (omega arith) in
    no_minus (decimal n) (λ e. absurd (omega arith)) ∙ ap (option_map pos) (printed_law n (omega arith))
signed_printed_law (negsuc n) l = ap (option_and_then negative_of) (printed_law (suc n) (omega arith)) ∙ minus_more n

minus_read : (o : Option ℕ) (z : ℤ) → option_and_then negative_of o ≡ Some z → (n : ℕ) × (o ≡ Some (suc n)) × (z ≡ negsuc n)
minus_read None z e = cc
minus_read (Some zero) z e = cc
minus_read (Some (suc n)) z e = (n, refl, cc (minus_more n))

plus_read : (o : Option ℕ) (z : ℤ) → option_map pos o ≡ Some z → (n : ℕ) × (o ≡ Some n) × (z ≡ pos n)
plus_read None z e = cc
plus_read (Some n) z e = (n, refl, cc)

by_sign : (b : ℕ) (bs : List ℕ) (z : ℤ) (t : Bool) → unsigned_abs z < 2 ^ 63 → eqb b 45 ≡ t → cond t (option_and_then negative_of (number bs)) (option_map pos (number (b ∷ bs))) ≡ Some z → b ∷ bs ≡ signed_decimal z
by_sign b bs z true l s e =
    let m = minus_read (number bs) z e in
    ap (λ x. x ∷ bs) (eqb-true b 45 s) ∙ (ap (λ x. 45 ∷ x) (spelling_law bs (suc m.0) (omega (arith, ap unsigned_abs m.2)) m.1) ∙ ap signed_decimal (sym m.2))
by_sign b bs z false l s e =
    let p = plus_read (number (b ∷ bs)) z e in
    spelling_law (b ∷ bs) p.0 (omega (arith, ap unsigned_abs p.2)) p.1 ∙ ap signed_decimal (sym p.2)

pub signed_spelling_law : SignedSpellingLaw
signed_spelling_law [] z l e = cc
signed_spelling_law (b ∷ bs) z l e = by_sign b bs z (eqb b 45) l refl e
