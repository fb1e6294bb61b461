use Rattle.std.proofs.Common.{◌≡◌, ◌++◌, map, take, drop}
use Rattle.register.specs.Places.{moved_up}
use Rattle.register.proofs.order.move_up.Given as goal

abbrev pub invariant-loop-place : goal.invariant-loop-place
invariant-loop-place l = l.places ≡ map (moved_up l.at) (take l.place-index l.initial.places) ++ drop l.place-index l.initial.places
