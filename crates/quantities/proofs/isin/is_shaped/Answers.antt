use Rattle.std.proofs.Common.{◌≡◌, ℕ, ◌<◌, Bool, true, ◌&&◌, List, length, get_or, take, drop, refl, sym, ◌∙◌, eq-eqb, arith, rules, tests}
use Rattle.std.specs.List.{list_all}
use Rattle.std.proofs.Math.Bool.{and-true}
use Rattle.std.proofs.lemmas.List.{at_drop_more}
use Rattle.std.proofs.lemmas.Iterator.{YieldsList-from_slice}
use Rattle.std.proofs.lemmas.Iterator.Search.{all_from_yields_List}
use Rattle.quantities.specs.Isins.{is_letter, is_digit}
use Rattle.quantities.proofs.isin.is_shaped.Goals as goal

last_alone : (bs : List ℕ) → 11 < length bs → list_all is_digit (take 1 (drop 11 bs)) ≡ is_digit (get_or bs 11 0)
last_alone bs h = at_drop_more (λ xs. list_all is_digit (take 1 xs)) bs 11 0 h ∙ and-true (is_digit (get_or bs 11 0))

last_decides : (p q r s t : Bool) → p ≡ true → q ≡ true → r ≡ true → s ≡ t → t ≡ (p && (q && (r && s)))
last_decides p q r s t h k m e = rw (h, k, m, e) refl

pub returns-then-security : goal.returns-then-security
returns-then-security c =
    let bs = c.args.bytes.now in
    let country = all_from_yields_List is_letter _ _ c.all-country.result c.all-country.ensures.ran (YieldsList-from_slice (take 2 bs) cc) (λ x b q k. search (rules, tests)) in
    c.is_ascii_digit.ensures.value
    ∙ last_decides _ _ _ _ _ (eq-eqb (length bs) 12 (omega arith)) (sym country ∙ c.if-security.true.0) (sym c.all_letters_or_digits-security.ensures ∙ c.if-security.true.1) (last_alone bs (omega arith))
