use Rattle.std.proofs.Common.{◌≡◌, Bool, true, ◌&&◌, List, [], ◌∷◌, sym, ◌∙◌, rules, tests}
use Rattle.std.specs.List.{list_all, fold}
use Rattle.std.proofs.Math.Bool.{and-true, and_assoc}
use Rattle.std.proofs.lemmas.Iterator.{YieldsList-from_slice}
use Rattle.std.proofs.lemmas.Iterator.Consumers.{fold_from_yields_List}
use Rattle.quantities.specs.Isins.{is_letter_or_digit}
use Rattle.quantities.proofs.isin.all_letters_or_digits.Goals as goal

all_folded : {X : Type 0} (test : X → Bool) (fits : Bool) (xs : List X) → fold (λ a x. a && test x) fits xs ≡ (fits && list_all test xs)
all_folded test fits [] = sym (and-true fits)
all_folded test fits (x ∷ xs) = all_folded test (fits && test x) xs ∙ and_assoc fits (test x) (list_all test xs)

pub returns : goal.returns
returns c =
    fold_from_yields_List _ (λ a x. a && is_letter_or_digit x) true c.fold.result c.fold.ensures.ran (YieldsList-from_slice c.args.bytes.now cc) (λ a x b q k. search (rules, tests))
    ∙ all_folded is_letter_or_digit true c.args.bytes.now
