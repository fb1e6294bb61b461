-- What a book has checked of the lines that stand.
use Rattle.std.specs.Prelude.{ℕ, Bool, true, ◌&&◌, List, [], ◌∷◌}
use Rattle.account.specs.declared.line.Line.{Line}
use Rattle.account.specs.Answers.{is_well_formed, is_well_dated}

-- each line has its form, its ranges and its days
abbrev pub all_valid : ℕ → List Line → Bool
all_valid today [] = true
all_valid today (l ∷ ls) = (is_well_formed l && is_well_dated today l.block) && all_valid today ls
