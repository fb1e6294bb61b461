-- A row of a sheet, and the rest of its listing.
use Rattle.std.proofs.Common.{◌≡◌, ℕ, List, [], ◌∷◌, ◌++◌, Some, Ok, ap, sym, ◌∙◌}
use Rattle.account.specs.declared.line.Line.{Line}
use Rattle.sheet.specs.Sheets.{OpenSheet, next_row, after_row, after_answer, one_row_later}
use Rattle.rows.specs.Positions.{positions}
use Rattle.positions.specs.Listings.{line_text, next_text, rest_text}

-- the row is listed in its line, and what follows it comes behind
pub row_listed : (ls : List (List ℕ)) (b : OpenSheet) (line : Line) → b.left.lines ≡ ls →
    next_row positions b ≡ Ok (Some line) →
    rest_text ls b
    ≡ line_text line ++ rest_text (after_row positions b).left.lines (after_row positions b)
row_listed [] b line lines row = let none = rw lines at row in cc
row_listed (l ∷ ls) b line lines row =
    let later : (after_row positions b).left.lines ≡ ls =
    ap (λ answer. (after_answer answer b).left.lines) row
    ∙ ap (λ ms. (one_row_later ms b).left.lines) lines in
    ap (next_text b (rest_text ls (after_row positions b))) row
    ∙ ap (λ ms. line_text line ++ rest_text ms (after_row positions b)) (sym later)
