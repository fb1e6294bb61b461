-- What an accepted insertion and an accepted removal leave.
use Rattle.std.proofs.Common.{◌≡◌, ℕ, ◌<◌, List, length, get_or, Ok, sym, refl, ◌∙◌, subst}
use Rattle.std.proofs.lemmas.Bool.{lt-ltb}
use Rattle.std.specs.List.{insert, remove}
use Rattle.register.specs.Keys.{inserted_by, without, Ascends}
use Rattle.register.specs.Search.{Hits, Misses}
use Rattle.register.specs.Changes.{Inserts, Removes}
use Rattle.register.proofs.Found.{found_inserted, others_inserted, gone, others_without}

module _ {X : Type 0} (f : X → ℕ) where
  pub inserts : (xs : List X) (room : ℕ) (r : X) (p : ℕ) (zs : List X) → length xs < room → Misses f (f r) xs p → zs ≡ insert xs p r → Inserts f room r xs (Ok tt) zs
  inserts xs room r p zs l h q =
      let e = h.absent in
      let b = lt-ltb (length xs) room l in
      let s : zs ≡ inserted_by f r xs = q ∙ sym (h.more r refl) in
      record {
        answers = rw (e, b);
        leaves = rw (e, b) s;
        ascends = subst (λ (ys : List X). Ascends f ys) (sym q) (h.ascends r refl);
        finds = λ _. rw s record { this = found_inserted f r xs e; others = others_inserted f r xs };
      }

  pub removes : (xs : List X) (k p : ℕ) (x : X) (zs : List X) → Hits f k xs p → x ≡ get_or xs p x → zs ≡ remove xs p → Removes f k xs (Ok x) zs
  removes xs k p x zs h r q =
      let s : zs ≡ without f k xs = q ∙ sym h.rest in
      record {
        answers = rw (h.found x r);
        leaves = s;
        ascends = subst (λ (ys : List X). Ascends f ys) (sym q) h.ascends;
        finds = rw s record { this = gone f k xs; others = others_without f k xs };
      }
