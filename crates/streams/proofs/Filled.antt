-- The front of a room that is filled part by part.
use Rattle.std.proofs.Common.{◌≡◌, ℕ, ◌+◌, ◌-◌, ◌≤◌, List, ◌++◌, length, take, drop, ap, subst, ◌∙◌, arith, length-take-le, length-drop, take_all}
use lib.Seq.{take-append-le, take-append-add}
use borrow.Rule.Slice.PartMut.{put_mid}

-- behind the front stands what was read into the part
pub front_with_part : (a k n : ℕ) (room part : List ℕ) → a ≤ length room → n ≤ length part →
    take (a + n) (put_mid a k room part) ≡ take a room ++ take n part
front_with_part a k n room part within fits =
    let rest = drop (a + k) room in
    subst (λ m. take (m + n) (put_mid a k room part) ≡ take a room ++ take n part)
    (length-take-le a room within)
    (take-append-add (take a room) _ n ∙ ap (λ t. take a room ++ t) (take-append-le n part _ fits))

-- the part behind a place, cut to its own length, is the whole rest
pub rest_is : (a : ℕ) (text : List ℕ) → take (length text - a) (drop a text) ≡ drop a text
rest_is a text =
    let len = length-drop a text in
    take_all (length text - a) (drop a text) (omega arith)
