-- Rows that are written at the front of places which suffice.
use Rattle.std.proofs.Common.{◌≡◌, ℕ, ◌+◌, ◌≤◌, List, [], ◌∷◌, ◌++◌, length, take, set, refl, sym, ap, ◌∙◌, arith}
use Rattle.std.proofs.lemmas.List.{take_more_set, length-set, append-nil, append_assoc}
use Rattle.account.specs.declared.row.Row.{Row}
use Rattle.valuation.specs.Tallies.{places_with_rows}

taken_from : (n : ℕ) (rs places : List Row) → n + length rs ≤ length places → take (n + length rs) (places_with_rows n rs places) ≡ take n places ++ rs
taken_from n [] places h = ap (λ m. take m places) (omega arith) ∙ sym (append-nil _)
taken_from n (r ∷ rs) places h =
    ap (λ m. take m (places_with_rows (n + 1) rs (set places n r))) (omega arith)
    ∙ taken_from (n + 1) rs (set places n r) (omega (arith, length-set places n r, h))
    ∙ ap (λ xs. xs ++ rs) (take_more_set places n r (omega (arith, h)))
    ∙ append_assoc (take n places) (r ∷ []) rs

pub taken_rows : (rs places : List Row) → length rs ≤ length places → take (length rs) (places_with_rows 0 rs places) ≡ rs
taken_rows rs places h = ap (λ m. take m (places_with_rows 0 rs places)) (omega arith) ∙ taken_from 0 rs places (omega (arith, h))

pub written_length : (n : ℕ) (rs places : List Row) → length (places_with_rows n rs places) ≡ length places
written_length n [] places = refl
written_length n (r ∷ rs) places = written_length (n + 1) rs (set places n r) ∙ length-set places n r
