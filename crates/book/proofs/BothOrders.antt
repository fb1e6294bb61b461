-- Lines that stand in both orders: what putting one in and taking one out leaves.
use Rattle.std.proofs.Common.{◌≡◌, ℕ, ◌^◌, ◌<◌, ◌≤◌, Bool, true, false, cond, eqb, ltb, List, [], ◌∷◌, length, get_or, is_some, Some, Ok, Err, Result, sym, refl, ap, ◌∙◌, subst, arith}
use Rattle.std.proofs.lemmas.List.{length-map, get_or_default}
use Rattle.std.proofs.lemmas.List.Edits.{length-remove}
use Rattle.std.proofs.lemmas.Bool.{cond-false, cond_both, ltb-true, ltb-false, eqb-false}
use Rattle.std.specs.List.{AllByRecursion as All, insert, remove}
use Rattle.quantities.specs.declared.refusal.Refusal.{Refusal}
use Rattle.quantities.specs.declared.refusal.Refusal.TheVariants.{Full}
use Rattle.register.specs.Changes.{Inserts}
use Rattle.register.specs.Contents.{LentTable}
use Rattle.register.specs.Keys.{Ascends, found_by, has_rank, inserted_by, without}
use Rattle.register.specs.Places.{with_place, without_place, PlacesWithin}
use Rattle.register.specs.Search.{SplitsAt, IsPlace}
use Rattle.register.proofs.Places.{Elsewhere, with_within, without_within, records_with, records_left, records_without}
use Rattle.account.specs.declared.line.Line.{Line}
use Rattle.account.specs.Calls.{line_rank}
use Rattle.account.specs.ByIsin.{isin_line_rank, lines_by_isin, lines_at, no_line, SmallReferences}
use Rattle.account.proofs.ByIsin.{by_isin_long, by_isin_law, entered, withdrawn, present}
use Rattle.account.proofs.Ranked.{placed_present}
use Rattle.account.proofs.Sorted.{inserted_long}
use Rattle.book.specs.declared.standing.Places.{Places}
use Rattle.book.specs.Standing.{StandInBothOrders, HasPlaces}
use Rattle.book.proofs.Entering.{found_is}

-- a record that is put in has had room
pub accepted_fits : {X : Type 0} (f : X → ℕ) (room : ℕ) (r : X) (xs after : List X) → has_rank f (f r) xs ≡ false → Inserts f room r xs (Ok tt) after → length xs < room
accepted_fits f room r xs after new i = go (ltb (length xs) room) refl (sym (i.answers ∙ cond-false (has_rank f (f r) xs) _ _ new))
  where
    go : (b : Bool) → ltb (length xs) room ≡ b → ◌≡◌ {A = Result (Unit {0}) Refusal} (cond b (Ok tt) (Err Full)) (Ok tt) → length xs < room
    go true q h = ltb-true _ _ q
    go false q h = cc

pub accepted_inserted : {X : Type 0} (f : X → ℕ) (room : ℕ) (r : X) (xs after : List X) → has_rank f (f r) xs ≡ false → Inserts f room r xs (Ok tt) after → after ≡ inserted_by f r xs
accepted_inserted f room r xs after new i =
    let l = accepted_fits f room r xs after new i in
    i.leaves ∙ cond-false (has_rank f (f r) xs) _ _ new ∙ go (ltb (length xs) room) refl l
  where
    go : (b : Bool) → ltb (length xs) room ≡ b → length xs < room → cond b (inserted_by f r xs) xs ≡ inserted_by f r xs
    go true q l = refl
    go false q l = let m = ltb-false _ _ q in absurd (omega arith)

-- the records without a rank have another
gone : {X : Type 0} (f : X → ℕ) (n : ℕ) (xs : List X) → All (λ x. f x ≡ n → ⊥) (without f n xs)
gone f n [] = tt
gone f n (x ∷ xs) = cond_both (eqb (f x) n) (without f n xs) (x ∷ without f n xs) (All (λ y. f y ≡ n → ⊥)) (λ e. gone f n xs) (λ e. (eqb-false (f x) n e, gone f n xs))

elsewhere : (ls : List Line) (n at : ℕ) (ps : List ℕ) → isin_line_rank (get_or ls at no_line) ≡ n → All (λ l. isin_line_rank l ≡ n → ⊥) (lines_at ps ls) → Elsewhere at ps
elsewhere ls n at [] e a = tt
elsewhere ls n at (p ∷ ps) e a = (λ q. a.0 (ap (λ k. isin_line_rank (get_or ls k no_line)) q ∙ e), elsewhere ls n at ps e a.1)

module _ (t : LentTable Line) (order : LentTable ℕ) (s : StandInBothOrders t order) where
  abbrev ls : List Line
  ls = t.records

  abbrev ps : List ℕ
  ps = order.records

  pub as_long : length ps ≡ length ls
  as_long = sym (length-map ps (λ (p : ℕ). get_or ls p no_line)) ∙ ap length s.same_lines ∙ by_isin_long ls

  -- ---- a line is put in
  pub both_inserted : (l : Line) (p : Places) (u : LentTable Line) (v : LentTable ℕ) → HasPlaces l ls p → SmallReferences ls → l.reference < 2 ^ 32 → u.records ≡ inserted_by line_rank l ls → v.records ≡ with_place p.by_isin p.by_reference ps → v.room ≡ u.room → StandInBothOrders u v
  both_inserted l p u v h small own e f same =
      let at = h.by_reference.0 in
      let more = h.by_reference.1.more l refl in
      record {
        within = rw (e, f) (subst (λ n. PlacesWithin n (with_place p.by_isin p.by_reference ps)) (omega (arith, inserted_long line_rank l ls)) (with_within (length ls) p.by_isin p.by_reference ps at s.within));
        same_lines =
            rw (e, f)
            (ap (lines_at (with_place p.by_isin p.by_reference ps)) more
            ∙ records_with no_line ls p.by_isin p.by_reference l ps at s.within
            ∙ ap (λ xs. insert xs p.by_isin l) s.same_lines
            ∙ sym (h.by_isin.1.more l refl)
            ∙ sym (entered l ls own small h.by_reference.1.absent));
        same_room = same;
      }

  -- ---- a line is taken out
  module _ (r place rank : ℕ) (small : SmallReferences ls) (up : Ascends line_rank ls) (at : IsPlace line_rank r ls (Ok place)) (parts : SplitsAt isin_line_rank (isin_line_rank (get_or ls place no_line)) (lines_by_isin ls) rank) (within : rank ≤ length (lines_by_isin ls)) where
    abbrev l : Line
    l = get_or ls place no_line

    found : found_by line_rank r ls ≡ Some l
    found = at.1.found l (get_or_default ls place no_line l at.0)

    there : IsPlace isin_line_rank (isin_line_rank l) (lines_by_isin ls) (Ok rank)
    there =
        placed_present isin_line_rank (isin_line_rank l) (lines_by_isin ls) rank (by_isin_law ls up small).rises within parts
        (sym (found_is isin_line_rank (isin_line_rank l) (lines_by_isin ls)) ∙ ap is_some (present r l ls small up found))

    pub rank_within : rank < length ps
    rank_within = let h = there.0 in omega (arith, as_long, by_isin_long ls)

    others : Elsewhere place (remove ps rank)
    others =
        elsewhere ls (isin_line_rank l) place (remove ps rank) refl
        (subst (All (λ k. isin_line_rank k ≡ isin_line_rank l → ⊥)) (there.1.rest ∙ ap (λ xs. remove xs rank) (sym s.same_lines) ∙ sym (records_left no_line ls rank ps)) (gone isin_line_rank (isin_line_rank l) (lines_by_isin ls)))

    pub both_removed : (u : LentTable Line) (v : LentTable ℕ) → u.records ≡ without line_rank r ls → v.records ≡ without_place rank place ps → v.room ≡ u.room → StandInBothOrders u v
    both_removed u v e f same =
        let one = at.1.rest in
        record {
          within =
              rw (e, f)
              (subst (λ n. PlacesWithin n (without_place rank place ps)) (omega (arith, as_long, ap length one, length-remove ls place at.0))
              (without_within rank place ps rank_within (omega (arith, as_long, at.0)) (subst (λ n. PlacesWithin n ps) (sym as_long) s.within)));
          same_lines =
              rw (e, f)
              (ap (lines_at (without_place rank place ps)) one
              ∙ records_without no_line ls rank place ps at.0 s.within others
              ∙ ap (λ xs. remove xs rank) s.same_lines
              ∙ sym there.1.rest
              ∙ sym (withdrawn r l ls small up found));
          same_room = same;
        }
