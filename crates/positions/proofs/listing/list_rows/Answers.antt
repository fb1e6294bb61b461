use Rattle.std.proofs.Common.{◌++◌, Ok, refl, ap, sym, ◌∙◌, append_assoc}
use Rattle.std.proofs.KnownBytes.{Appends-trans}
use Rattle.positions.specs.Listings.{line_text}
use Rattle.positions.proofs.Listed.{row_listed}
use Rattle.positions.proofs.listing.list_rows.Goals as goal

pub loop-line-preserved : goal.loop-line-preserved
loop-line-preserved g c =
    let before = c.loop-line.invariant in
    let line = c.in-Some.line in
    let row = sym c.row.ensures.answer ∙ c.in_ok-line.was ∙ ap Ok c.in-Some.is in
    let listed = row_listed _ c.loop-line.reading line refl row in
    rw c.row.ensures.after (
      before.0 ++ line_text line,
      (
        Appends-trans _ _ _ _ _ before.1.0 c.in_ok-list_line.ensures,
        before.1.1 ∙ ap (λ t. before.0 ++ t) listed ∙ sym (append_assoc before.0 _ _),
      ),
    )
