use Rattle.std.proofs.Common.{◌≡◌, length}
use Rattle.run.specs.KeptSheets.{kept_rest}
use Rattle.run.proofs.read_sheet.keep_rows.Given as goal

-- what is left leads where the whole does
abbrev pub invariant-loop-row : goal.invariant-loop-row
invariant-loop-row g l =
    let onward = kept_rest g.K.RowKind.kind g.T.Keeper.keeping in
    (g.T.Keeper.frame l.keeper ≡ g.T.Keeper.frame l.initial.keeper) × (onward l.reading.left.lines l.reading (g.T.Keeper.kept l.keeper) ≡ onward l.initial.reading.left.lines l.initial.reading (g.T.Keeper.kept l.initial.keeper))

abbrev pub decreases-loop-row : goal.decreases-loop-row
decreases-loop-row g l = length l.reading.left.lines
