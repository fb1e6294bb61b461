-- Twelve bytes are the same where their words are.
use Rattle.std.proofs.Common.{◌≡◌, ℕ, zero, suc, ◌+◌, ◌<◌, Bool, true, false, ◌&&◌, ◌==◌, List, [], ◌∷◌, ◌++◌, length, get_or, take, drop, sym, refl, ap, ◌∙◌, eq-eqb, eqb-true, arith}
use Rattle.std.specs.Str.{bytes_eq}
use Rattle.std.specs.Int.{w32, w64, to_le_bytes, from_le_bytes}
use Rattle.std.proofs.lemmas.Bool.{and_parts}
use Rattle.std.proofs.lemmas.List.{take-append-drop, length-take-le, length-drop, get_or-drop}
use Rattle.std.proofs.lemmas.Nat.{le_bytes_4, le_bytes_8}
use Rattle.std.proofs.lemmas.Slice.Eq.{bytes_eq-Decides}

-- a list of twelve bytes, and its words
pub record Words (bs : List ℕ) (a b : ℕ) : Type 0 where
  pub count : length bs ≡ 12
  pub small : (i : ℕ) → get_or bs i 0 < 256
  pub first : a ≡ from_le_bytes w64 (take 8 bs)
  pub last : b ≡ from_le_bytes w32 (drop 8 bs)

small_taken : (k : ℕ) (bs : List ℕ) → ((i : ℕ) → get_or bs i 0 < 256) → (i : ℕ) → get_or (take k bs) i 0 < 256
small_taken zero bs h i = omega arith
small_taken (suc k) [] h i = omega arith
small_taken (suc k) (b ∷ bs) h zero = h 0
small_taken (suc k) (b ∷ bs) h (suc i) = small_taken k bs (λ j. h (suc j)) i

spelled : (bs : List ℕ) (a b : ℕ) → Words bs a b → to_le_bytes w64 a ++ to_le_bytes w32 b ≡ bs
spelled bs a b w =
    let n = w.count in
    let first = le_bytes_8 (take 8 bs) a (length-take-le 8 bs (omega arith)) (small_taken 8 bs w.small) w.first in
    let last = le_bytes_4 (drop 8 bs) b (omega (arith, length-drop 8 bs)) (λ i. rw (get_or-drop 8 bs i 0) (w.small (8 + i))) w.last in
    ap (λ x. x ++ to_le_bytes w32 b) first ∙ (ap (λ x. take 8 bs ++ x) last ∙ take-append-drop 8 bs)

both_ways : (p q : Bool) → (p ≡ true → q ≡ true) → (q ≡ true → p ≡ true) → p ≡ q
both_ways true q h k = sym (h refl)
both_ways false true h k = k refl
both_ways false false h k = refl

pub same_words : (xs ys : List ℕ) (a b c d : ℕ) → Words xs a b → Words ys c d → ((a == c) && (b == d)) ≡ bytes_eq xs ys
same_words xs ys a b c d w z =
    both_ways _ _
    (λ e. let p = and_parts (a == c) (b == d) e in
    (bytes_eq-Decides xs ys).1 (sym (spelled xs a b w) ∙ (ap (λ n. to_le_bytes w64 n ++ to_le_bytes w32 b) (eqb-true a c p.0) ∙ (ap (λ n. to_le_bytes w64 c ++ to_le_bytes w32 n) (eqb-true b d p.1) ∙ spelled ys c d z))))
    (λ e. let s : xs ≡ ys = (bytes_eq-Decides xs ys).0 e in
    let f : a ≡ c = w.first ∙ (ap (λ bs. from_le_bytes w64 (take 8 bs)) s ∙ sym z.first) in
    let l : b ≡ d = w.last ∙ (ap (λ bs. from_le_bytes w32 (drop 8 bs)) s ∙ sym z.last) in
    rw (eq-eqb a c f, eq-eqb b d l) refl)
