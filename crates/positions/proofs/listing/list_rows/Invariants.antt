use Rattle.std.proofs.Common.{length}
use Rattle.positions.specs.Listings.{rest_text, WritesUpTo}
use Rattle.positions.proofs.listing.list_rows.Given as goal

-- what is left leads to the rest of the text
abbrev pub invariant-loop-line : goal.invariant-loop-line
invariant-loop-line g l =
    WritesUpTo (g.W.Write.contents l.initial.out) (g.W.Write.contents l.out)
    (rest_text l.initial.reading.left.lines l.initial.reading)
    (rest_text l.reading.left.lines l.reading)

abbrev pub decreases-loop-line : goal.decreases-loop-line
decreases-loop-line g l = length l.reading.left.lines
