-- What a line has that is among lines that a book has taken.
use Rattle.std.proofs.Common.{◌≡◌, ℕ, ◌≤◌, Bool, true, ◌&&◌, List, [], ◌∷◌, subst, ⊎_elim}
use Rattle.std.proofs.lemmas.Bool.{and_parts}
use Rattle.std.specs.List.{list_all}
use Rattle.quantities.specs.Ranges.{most_titles}
use Rattle.account.specs.declared.line.Line.{Line}
use Rattle.account.specs.Settings.{Setting}
use Rattle.account.specs.Answers.{is_well_formed, is_well_dated}
use Rattle.account.specs.Valid.{all_valid}
use Rattle.account.proofs.Formed.{formed_parts, formed_titles}
use Rattle.account.proofs.History.{dated_term}
use Rattle.valuation.specs.Checks.{Faultless}
use Rattle.valuation.specs.Cash.{IsWorkable}
use Rattle.valuation.proofs.LineLoops.{IsAmong}

pub all_among : (p : Line → Bool) (ls : List Line) → list_all p ls ≡ true → (l : Line) → IsAmong ls l → p l ≡ true
all_among p [] t l h = absurd h
all_among p (x ∷ ls) t l h =
    let q = and_parts (p x) (list_all p ls) t in
    ⊎_elim (λ e. subst (λ y. p y ≡ true) e q.0) (all_among p ls q.1 l) h

pub few_titles_among : (today : ℕ) (ls : List Line) → all_valid today ls ≡ true → (l : Line) → IsAmong ls l → l.titles ≤ most_titles
few_titles_among today [] t l h = absurd h
few_titles_among today (x ∷ ls) t l h =
    let p = and_parts (is_well_formed x && is_well_dated today x.block) (all_valid today ls) t in
    let q = and_parts (is_well_formed x) (is_well_dated today x.block) p.0 in
    ⊎_elim (λ e. subst (λ y. y.titles ≤ most_titles) e (formed_titles x q.0)) (few_titles_among today ls p.1 l) h

pub workable_among : (s : Setting) (ls : List Line) → all_valid s.today ls ≡ true → Faultless s ls → (l : Line) → IsAmong ls l → IsWorkable s l
workable_among s [] t f l h = absurd h
workable_among s (x ∷ ls) t f l h =
    let p = and_parts (is_well_formed x && is_well_dated s.today x.block) (all_valid s.today ls) t in
    let q = and_parts (is_well_formed x) (is_well_dated s.today x.block) p.0 in
    ⊎_elim
    (λ e. subst (IsWorkable s) e (record { cash = (formed_parts x q.0).cash; term = dated_term s.today x.block q.1; faultless = f.0 }))
    (workable_among s ls p.1 f.1 l) h
