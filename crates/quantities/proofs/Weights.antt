-- The check sum of an ISIN, taken byte by byte from the right.
use Rattle.std.proofs.Common.{◌≡◌, ℕ, ◌+◌, ◌-◌, ◌/◌, ◌%◌, ◌<◌, ◌≤◌, Bool, true, false, cond, not, List, [], ◌∷◌, ◌++◌, reverse, length, get_or, drop, map, flat_map, zero-add, leb, leb-true, sym, refl, ap, ◌∙◌, ⊎_elim, arith}
use Rattle.std.specs.Bool.{beq}
use Rattle.std.specs.List.{range_with_len}
use Rattle.std.proofs.lemmas.Bool.{and_parts, or_cases, cond-true}
use Rattle.std.proofs.lemmas.List.FromFn.{get_or-map-range_with_len}
use Rattle.std.proofs.lemmas.List.{drop_more, reverse-append, append-nil}
use Rattle.std.proofs.lemmas.List.Concat.{flat_map-append}
use Rattle.quantities.specs.Isins.{is_digit, is_letter, is_letter_or_digit, digits_of, with_seconds_doubled, digit_sum, check_sum}

-- what numbers add where every second one is doubled, beginning with the first or with the second
abbrev pub weights : Bool → List ℕ → ℕ
weights doubled ns = digit_sum (with_seconds_doubled (cond doubled (0 ∷ ns) ns))

weights_more : (t : Bool) (n : ℕ) (ns : List ℕ) → weights t (n ∷ ns) ≡ weights t (n ∷ []) + weights (not t) ns
weights_more true n ns = omega arith
weights_more false n [] = omega arith
weights_more false n (m ∷ ns) = omega arith

not_not : (t : Bool) → not (not t) ≡ t
not_not true = refl
not_not false = refl

two_more : (t : Bool) (n m : ℕ) (ns : List ℕ) → weights t (n ∷ (m ∷ ns)) ≡ weights t (n ∷ (m ∷ [])) + weights t ns
two_more t n m ns =
    omega (arith, weights_more t n (m ∷ ns), weights_more t n (m ∷ []), weights_more (not t) m ns, ap (λ u. weights u ns) (not_not t))

-- what is written out of a byte, from the right
abbrev pub digits : ℕ → List ℕ
digits b = reverse (digits_of (b ∷ []))

-- what is written out of bytes that stand from the right
abbrev pub from_right : List ℕ → List ℕ
from_right bs = flat_map digits bs

first_apart : (t : Bool) (u p q : ℕ) (w : List ℕ) → cond t (u ∷ w) (p ∷ (q ∷ w)) ≡ cond t (u ∷ []) (p ∷ (q ∷ [])) ++ w
first_apart true u p q w = refl
first_apart false u p q w = refl

from_right-reverse : (bs : List ℕ) → from_right (reverse bs) ≡ reverse (digits_of bs)
from_right-reverse [] = refl
from_right-reverse (b ∷ bs) =
    ap from_right (reverse-append (b ∷ []) bs)
    ∙ (flat_map-append digits (reverse bs) (b ∷ [])
    ∙ (ap (λ w. w ++ from_right (b ∷ [])) (from_right-reverse bs)
    ∙ (ap (λ w. reverse (digits_of bs) ++ w) (append-nil (digits b))
    ∙ sym (ap reverse (first_apart (is_digit b) _ _ _ (digits_of bs)) ∙ reverse-append (digits_of (b ∷ [])) (digits_of bs)))))

pub all_counted : (bs : List ℕ) → weights false (from_right (reverse bs)) ≡ check_sum bs
all_counted bs = ap (weights false) (from_right-reverse bs)

-- whether the byte after one is doubled: a letter, which is two digits, leaves the doubling as it is
abbrev pub turned : Bool → Bool → Bool
turned t digit = not (beq t digit)

apart : (d t : Bool) (u p q : ℕ) (ns : List ℕ) →
    weights t (reverse (cond d (u ∷ []) (p ∷ (q ∷ []))) ++ ns) ≡ weights t (reverse (cond d (u ∷ []) (p ∷ (q ∷ [])))) + weights (turned t d) ns
apart true true u p q ns = weights_more true u ns
apart true false u p q ns = weights_more false u ns
apart false true u p q ns = two_more true q p ns
apart false false u p q ns = two_more false q p ns

-- what is counted so far and what is left make up the whole: one byte more
pub byte_more : (bs : List ℕ) (i b sum w total : ℕ) (t : Bool) → (i < length bs) × (b ≡ get_or bs i b) → w ≡ weights t (digits b) →
    sum + weights t (from_right (drop i bs)) ≡ total → sum + w + weights (turned t (is_digit b)) (from_right (drop (i + 1) bs)) ≡ total
byte_more bs i b sum w total t h e inv =
    let left : weights t (from_right (drop i bs)) ≡ weights t (digits b ++ from_right (drop (i + 1) bs)) =
    ap (λ xs. weights t (from_right xs)) (drop_more bs i b h.0) ∙ ap (λ x. weights t (digits x ++ from_right (drop (i + 1) bs))) (sym h.1) in
    omega (arith, left, apart (is_digit b) t (b - 48) ((b - 55) / 10) ((b - 55) % 10) (from_right (drop (i + 1) bs)))

-- what a byte behind '0' adds, where it is a digit or a letter
abbrev pub of_byte : Bool → ℕ → ℕ
of_byte t n = cond (is_letter_or_digit (48 + n)) (weights t (digits (48 + n))) 0

abbrev pub tables : List (List ℕ)
tables = map (of_byte false) (range_with_len 0 43) ∷ (map (of_byte true) (range_with_len 0 43) ∷ [])

tabled : (t : Bool) (k n : ℕ) → (t ≡ true → k ≡ 1) → (t ≡ false → k ≡ 0) → n < 43 → get_or (get_or tables k []) n 0 ≡ of_byte t n
tabled true k n one none h = rw (one refl) (get_or-map-range_with_len (of_byte true) 0 43 n n 0 h (zero-add n))
tabled false k n one none h = rw (none refl) (get_or-map-range_with_len (of_byte false) 0 43 n n 0 h (zero-add n))

known_within : (b : ℕ) → is_letter_or_digit b ≡ true → (48 ≤ b) × (b < 91)
known_within b h =
    ⊎_elim
    (λ e. let p = and_parts (leb 65 b) (leb b 90) e in (omega (arith, leb-true 65 b p.0), omega (arith, leb-true b 90 p.1)))
    (λ e. let p = and_parts (leb 48 b) (leb b 57) e in (leb-true 48 b p.0, omega (arith, leb-true b 57 p.1)))
    (or_cases (is_letter b) (is_digit b) h)

pub weight_tabled : (t : Bool) (k b : ℕ) → (t ≡ true → k ≡ 1) → (t ≡ false → k ≡ 0) → is_letter_or_digit b ≡ true → get_or (get_or tables k []) (b - 48) 0 ≡ weights t (digits b)
weight_tabled t k b one none known =
    let within = known_within b known in
    let low = within.0 in
    let high = within.1 in
    let e : 48 + (b - 48) ≡ b = omega arith in
    tabled t k (b - 48) one none (omega arith) ∙ (ap (λ c. cond (is_letter_or_digit c) (weights t (digits c)) 0) e ∙ cond-true (is_letter_or_digit b) _ _ known)
