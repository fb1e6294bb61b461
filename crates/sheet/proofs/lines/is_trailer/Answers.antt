use Rattle.std.proofs.Common.{◌≡◌, ℕ, ◌<◌, false, List, [], ◌∷◌, length, arith}
use Rattle.std.proofs.lemmas.Bool.Decides.{nat_tests}
use Rattle.sheet.specs.Sheets.{is_trailer}
use Rattle.sheet.proofs.lines.is_trailer.Goals as goal

short : (line : List ℕ) → length line < 3 → false ≡ is_trailer line
short [] l = grind (arith, nat_tests)
short (a ∷ []) l = grind (arith, nat_tests)
short (a ∷ b ∷ []) l = grind (arith, nat_tests)
short (a ∷ b ∷ c ∷ cs) l = absurd (omega arith)

pub returns-in_default : goal.returns-in_default
returns-in_default c = short c.args.line.now c.in_default.len_below
