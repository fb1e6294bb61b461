-- The first line stands in front.
use Rattle.std.proofs.Common.{◌≡◌, ℕ, List, [], ◌∷◌, ◌++◌, length, take, get_or, sym, ap, ◌∙◌}
use Rattle.std.proofs.Math.Seq.{take-append_seam}
use Rattle.text.specs.Lines.{lines, loose}
use Rattle.text.specs.Laws.{text_of}
use Rattle.text.proofs.Joined.{lines_law}

of_lines : (line text : List ℕ) (ls : List (List ℕ)) (rest : List ℕ) → take 1 ls ≡ line ∷ [] → text_of ls rest ≡ text → take (length line) text ≡ line
of_lines line text [] rest h e = cc
of_lines line text (l ∷ ls) rest h e =
    let same : l ≡ line = ap (λ xs. get_or xs 0 []) h in
    let whole : line ++ (10 ∷ text_of ls rest) ≡ text = ap (λ x. x ++ (10 ∷ text_of ls rest)) (sym same) ∙ e in
    ap (take (length line)) (sym whole) ∙ take-append_seam line (10 ∷ text_of ls rest)

pub in_front : (line text : List ℕ) → take 1 (lines text) ≡ line ∷ [] → take (length line) text ≡ line
in_front line text h = of_lines line text (lines text) (loose text) h (lines_law text).0
