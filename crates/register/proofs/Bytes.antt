-- The order of the numbers that bytes spell is byte order.
use Rattle.std.proofs.Common.{◌≡◌, ℕ, zero, suc, ◌+◌, ◌*◌, ◌^◌, ◌<◌, ltb, List, [], ◌∷◌, sym, refl, ap, ◌∙◌, ⊎_elim, arith}
use Rattle.std.proofs.lemmas.Bool.{cases_order, lt-ltb, le-ltb, eq-eqb, ne_eqb}
use Rattle.std.specs.declared.cmp.Ordering.TheVariants.{Less, Equal, Greater}
use Rattle.std.specs.declared.cmp.Ordering.{Ordering}
use Rattle.std.specs.Cmp.Lexicographic.{slice_cmp}
use Rattle.std.specs.Ordering.{nat_cmp, ordering_then}
use Rattle.register.specs.Keys.{Compares}
use Rattle.register.specs.Bytes.{value, Bytes, is_before, ByteOrder}

tail : {n : ℕ} (x : ℕ) (xs : List ℕ) → Bytes (suc n) (x ∷ xs) → Bytes n xs
tail x xs h = record { many = let e = h.many in omega arith; small = λ i l. h.small (suc i) (omega arith) }

value_less : (n a b : ℕ) (xs ys : List ℕ) → Bytes n xs → Bytes n ys → a < b → value a xs < value b ys
value_less n a b [] [] h k e = e
value_less n a b [] (y ∷ ys) h k e = let p = h.many in let q = k.many in absurd (omega arith)
value_less n a b (x ∷ xs) [] h k e = let p = h.many in let q = k.many in absurd (omega arith)
value_less zero a b (x ∷ xs) (y ∷ ys) h k e = let p = h.many in absurd (omega arith)
value_less (suc n) a b (x ∷ xs) (y ∷ ys) h k e =
    let p = h.small 0 (omega arith) in
    let q = k.small 0 (omega arith) in
    value_less n (a * 256 + x) (b * 256 + y) xs ys (tail x xs h) (tail y ys k) (omega arith)

-- the same first byte leaves the order to the others
same_first : (a x : ℕ) (xs ys : List ℕ) (o : Ordering) → Compares (value (a * 256 + x)) xs ys o → Compares (value a) (x ∷ xs) (x ∷ ys) o
same_first a x xs ys Less h = h
same_first a x xs ys Equal h = ap (λ zs. x ∷ zs) h
same_first a x xs ys Greater h = h

compared : (n a : ℕ) (xs ys : List ℕ) → Bytes n xs → Bytes n ys → Compares (value a) xs ys (slice_cmp nat_cmp xs ys)
compared n a [] [] h k = refl
compared n a [] (y ∷ ys) h k = let p = h.many in let q = k.many in absurd (omega arith)
compared n a (x ∷ xs) [] h k = let p = h.many in let q = k.many in absurd (omega arith)
compared zero a (x ∷ xs) (y ∷ ys) h k = let p = h.many in absurd (omega arith)
compared (suc n) a (x ∷ xs) (y ∷ ys) h k =
    ⊎_elim
    (λ (e : x ≡ y).
    rw (← e, le-ltb x x (omega arith), eq-eqb x x refl) (same_first a x xs ys _ (compared n (a * 256 + x) xs ys (tail x xs h) (tail y ys k))))
    (⊎_elim
    (λ (w : x < y). rw (lt-ltb x y w) (value_less n (a * 256 + x) (a * 256 + y) xs ys (tail x xs h) (tail y ys k) (omega arith)))
    (λ (w : y < x).
    rw (le-ltb x y (omega arith), ne_eqb x y (λ z. omega arith)) (value_less n (a * 256 + y) (a * 256 + x) ys xs (tail y ys k) (tail x xs h) (omega arith))))
    (cases_order x y)

-- one number, one list of twelve bytes
same_bytes : (xs ys : List ℕ) → Bytes 12 xs → Bytes 12 ys → value 0 xs ≡ value 0 ys → xs ≡ ys
same_bytes xs ys h k e = decided (slice_cmp nat_cmp xs ys) (compared 12 0 xs ys h k)
  where
    decided : (o : Ordering) → Compares (value 0) xs ys o → xs ≡ ys
    decided Less l = absurd (omega arith)
    decided Equal l = l
    decided Greater l = absurd (omega arith)

-- keys of twelve bytes compare as the numbers that they spell, here in two words each
pub twelve_compared : (xs ys : List ℕ) (a b c d : ℕ) → Bytes 12 xs → Bytes 12 ys → value 0 xs ≡ a * 2 ^ 32 + b → value 0 ys ≡ c * 2 ^ 32 + d → b < 2 ^ 32 → d < 2 ^ 32 →
    Compares (value 0) xs ys (ordering_then (nat_cmp a c) (nat_cmp b d))
twelve_compared xs ys a b c d h k p q s t =
    ⊎_elim
    (λ (e : a ≡ c). rw (le-ltb a c (omega arith), eq-eqb a c e) (⊎_elim
    (λ (f : b ≡ d). rw (le-ltb b d (omega arith), eq-eqb b d f) (same_bytes xs ys h k (omega arith)))
    (⊎_elim
    (λ (w : b < d). rw (lt-ltb b d w) (omega arith))
    (λ (w : d < b). rw (le-ltb b d (omega arith), ne_eqb b d (λ z. omega arith)) (omega arith)))
    (cases_order b d)))
    (⊎_elim
    (λ (w : a < c). rw (lt-ltb a c w) (omega arith))
    (λ (w : c < a). rw (le-ltb a c (omega arith), ne_eqb a c (λ z. omega arith)) (omega arith)))
    (cases_order a c)

in_order : (n a : ℕ) (xs ys : List ℕ) → Bytes n xs → Bytes n ys → ltb (value a xs) (value a ys) ≡ is_before xs ys
in_order n a [] [] h k = le-ltb a a (omega arith)
in_order n a [] (y ∷ ys) h k = let p = h.many in let q = k.many in absurd (omega arith)
in_order n a (x ∷ xs) [] h k = let p = h.many in let q = k.many in absurd (omega arith)
in_order zero a (x ∷ xs) (y ∷ ys) h k = let p = h.many in absurd (omega arith)
in_order (suc n) a (x ∷ xs) (y ∷ ys) h k =
    ⊎_elim
    (λ (e : x ≡ y).
    let l = le-ltb x y (omega arith) in
    let m = eq-eqb x y e in
    rw (l, m) (ap (λ w. ltb (value (a * 256 + x) xs) (value (a * 256 + w) ys)) (sym e) ∙ in_order n (a * 256 + x) xs ys (tail x xs h) (tail y ys k)))
    (⊎_elim
    (λ (w : x < y).
    let l = lt-ltb x y w in
    rw l (lt-ltb _ _ (value_less n (a * 256 + x) (a * 256 + y) xs ys (tail x xs h) (tail y ys k) (omega arith))))
    (λ (w : y < x).
    let l = le-ltb x y (omega arith) in
    let m = ne_eqb x y (λ z. omega arith) in
    let v = value_less n (a * 256 + y) (a * 256 + x) ys xs (tail y ys k) (tail x xs h) (omega arith) in
    rw (l, m) (le-ltb _ _ (omega arith))))
    (cases_order x y)

pub byte_order : (n : ℕ) → ByteOrder n
byte_order n xs ys h k = in_order n 0 xs ys h k
