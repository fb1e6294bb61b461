use Rattle.std.proofs.Common.{◌≡◌, ◌<◌, length, drop, IfSome}
use Rattle.sheet.specs.Columns.{texts, one_place}
use Rattle.sheet.proofs.Named.{onwards}
use Rattle.sheet.proofs.columns.one_place.Given as goal

abbrev pub invariant-loop-place : goal.invariant-loop-place
invariant-loop-place l =
    (onwards l.name l.found l.place (texts (drop l.place l.names)) ≡ one_place l.name (texts l.names)) × IfSome l.found (λ place. place < length l.names)
