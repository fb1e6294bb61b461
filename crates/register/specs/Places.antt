-- The places of records, listed in an order of their own.
use Rattle.std.specs.Prelude.{ℕ, ◌+◌, ◌-◌, ◌<◌, ◌≤◌, ◌&&◌, min, if◌then◌else◌, List, length, map, take, nat_lt, slice_index_or}
use Rattle.std.specs.List.{AllByRecursion, insert, remove}
use Rattle.register.specs.Contents.{room_in}

-- where a record stands once another is put in at a place
abbrev pub moved_up : ℕ → ℕ → ℕ
moved_up at p = if nat_lt p at then p else p + 1

-- where a record stands once another is taken out of a place
abbrev pub moved_down : ℕ → ℕ → ℕ
moved_down at p = if nat_lt p at then p else p - 1

-- places with one more at a rank, where a record is put in
abbrev pub with_place : ℕ → ℕ → List ℕ → List ℕ
with_place rank at ps = insert (map (moved_up at) ps) rank at

-- places without that of a rank, where the record is taken out
abbrev pub without_place : ℕ → ℕ → List ℕ → List ℕ
without_place rank at ps = map (moved_down at) (remove ps rank)

-- each place is one of n
abbrev pub PlacesWithin : ℕ → List ℕ → Type 0
PlacesWithin n ps = AllByRecursion (λ p. p < n) ps

-- places with one more, where there is room; behind the last is the one after it
abbrev pub listed : ℕ → ℕ → ℕ → List ℕ → List ℕ
listed rank at room ps =
    if nat_lt (length ps) room then with_place (min rank (length ps)) (min at (length ps)) ps
    else ps

-- places with one less, where there is such a rank and place
abbrev pub unlisted : ℕ → ℕ → List ℕ → List ℕ
unlisted rank at ps =
    if nat_lt rank (length ps) && nat_lt at (length ps) then without_place rank at ps else ps

-- the first of a memory are places within themselves, as many as there is room for
pub record HoldsPlaces (used room : ℕ) (memory : List ℕ) : Type 0 where
  pub fits : used ≤ room
  pub lent : room ≤ room_in (length memory)
  pub within : PlacesWithin used (take used memory)

-- the records at places
abbrev pub records_at : {X : Type 0} → X → List X → List ℕ → List X
records_at d xs ps = map (λ p. slice_index_or xs p d) ps
