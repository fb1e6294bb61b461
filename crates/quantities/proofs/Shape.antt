-- Each byte of an ISIN is a digit or a letter.
use Rattle.std.proofs.Common.{◌≡◌, ℕ, ◌-◌, ◌<◌, Bool, true, ◌&&◌, List, [], ◌∷◌, reverse, length, get_or, take, drop, refl, sym, ap, ◌∙◌, ◌==◌, eqb-true, arith}
use Rattle.std.specs.List.{list_all}
use Rattle.std.proofs.Math.Bool.{or-true}
use Rattle.std.proofs.lemmas.Bool.{and_parts}
use Rattle.std.proofs.lemmas.List.{take-append-drop, take_all, drop-drop, length-drop, length-reverse, get_or-reverse}
use Rattle.std.proofs.lemmas.List.Folds.{list_all-append}
use Rattle.std.proofs.lemmas.List.Sums.{AllPass-from_list_all}
use Rattle.std.proofs.lemmas.List.Elements.{All-get_or}
use Rattle.quantities.specs.Isins.{is_letter, is_digit, is_letter_or_digit, isin_shaped}

wider : (p q : ℕ → Bool) → ((x : ℕ) → p x ≡ true → q x ≡ true) → (xs : List ℕ) → list_all p xs ≡ true → list_all q xs ≡ true
wider p q h [] e = refl
wider p q h (x ∷ xs) e = let k = and_parts (p x) (list_all p xs) e in rw (h x k.0) (wider p q h xs k.1)

letter_wider : (x : ℕ) → is_letter x ≡ true → is_letter_or_digit x ≡ true
letter_wider x e = rw e refl

digit_wider : (x : ℕ) → is_digit x ≡ true → is_letter_or_digit x ≡ true
digit_wider x e = rw e (or-true (is_letter x))

parted : (p : ℕ → Bool) (k : ℕ) (xs : List ℕ) → list_all p (take k xs) ≡ true → list_all p (drop k xs) ≡ true → list_all p xs ≡ true
parted p k xs h e = ap (list_all p) (sym (take-append-drop k xs)) ∙ (list_all-append p (take k xs) (drop k xs) ∙ rw (h, e) refl)

all_known : (bs : List ℕ) → isin_shaped bs ≡ true → list_all is_letter_or_digit bs ≡ true
all_known bs h =
    let q = is_letter_or_digit in
    let a = and_parts (length bs == 12) (list_all is_letter (take 2 bs) && (list_all q (take 9 (drop 2 bs)) && list_all is_digit (take 1 (drop 11 bs)))) h in
    let b = and_parts (list_all is_letter (take 2 bs)) (list_all q (take 9 (drop 2 bs)) && list_all is_digit (take 1 (drop 11 bs))) a.1 in
    let d = and_parts (list_all q (take 9 (drop 2 bs))) (list_all is_digit (take 1 (drop 11 bs))) b.1 in
    let n : length bs ≡ 12 = eqb-true (length bs) 12 a.0 in
    let alone : take 1 (drop 11 bs) ≡ drop 11 bs = take_all 1 (drop 11 bs) (omega (arith, length-drop 11 bs)) in
    let last : list_all is_digit (drop 11 bs) ≡ true = rw (← alone) d.1 in
    let rest : list_all q (drop 9 (drop 2 bs)) ≡ true = ap (list_all q) (drop-drop 9 2 bs) ∙ wider is_digit q digit_wider (drop 11 bs) last in
    parted q 2 bs (wider is_letter q letter_wider (take 2 bs) b.0) (parted q 9 (drop 2 bs) d.0 rest)

-- also from the right
pub known_from_right : (bs : List ℕ) (i b : ℕ) → isin_shaped bs ≡ true → (i < length (reverse bs)) × (b ≡ get_or (reverse bs) i b) → is_letter_or_digit b ≡ true
known_from_right bs i b h at =
    let n = length-reverse bs in
    let all = AllPass-from_list_all is_letter_or_digit bs (all_known bs h) in
    ap is_letter_or_digit (at.1 ∙ get_or-reverse bs i b (omega arith)) ∙ All-get_or (λ x. is_letter_or_digit x ≡ true) bs (length bs - 1 - i) b (omega arith) all
