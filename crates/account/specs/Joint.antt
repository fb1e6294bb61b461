-- Joint books, and the two bounds of a margin.
use Rattle.std.specs.Prelude.{◌≡◌, ℕ, ◌+◌, ◌<◌, ◌≤◌, List, [], ◌∷◌, pos, IsTrue, if◌then◌else◌, ⊤}
use Rattle.quantities.specs.Ranges.{longest_term}
use Rattle.netting.specs.Rules.{Netting}
use Rattle.curve.specs.Curves.{Discounting}
use Rattle.account.specs.declared.line.Line.{Line}
use Rattle.account.specs.Lines.{is_trade, sum_of, same_terms}
use Rattle.account.specs.Settings.{Setting, line_term}
use Rattle.account.specs.Margin.{margin, rounded_amounts}
use Rattle.account.specs.Exact.{Fraction, IsAtMost, whole_number, fraction_sum, exact_margin}
use Rattle.account.specs.Calls.{Answer, accepted, refused, given}
use Rattle.account.specs.Answers.{margin_answer}

-- how often a line, its reference left out, stands among lines
abbrev pub occurrences : Line → List Line → ℕ
occurrences x ls = sum_of (λ l. if same_terms x l then 1 else 0) ls

-- the third is the joint book of the first two: each line stands in it as often as in the two
-- together
abbrev pub IsJointBook : List Line → List Line → List Line → Type 0
IsJointBook a b c = (x : Line) → occurrences x c ≡ occurrences x a + occurrences x b

-- two books have the same lines: each line, its reference left out, stands as often in both
abbrev pub HaveSameLines : List Line → List Line → Type 0
HaveSameLines a b = (x : Line) → occurrences x a ≡ occurrences x b

-- P holds of the term of each trade
abbrev pub EachTerm : Setting → (ℕ → Type 0) → List Line → Type 0
EachTerm s P [] = ⊤
EachTerm s P (l ∷ ls) = (IsTrue (is_trade l) → P (line_term s l)) × EachTerm s P ls

-- the curve has a rate for each trade
abbrev pub EachTradeHasRate : Setting → List Line → Type 0
EachTradeHasRate s ls = EachTerm s (λ t. t < s.reach) ls

-- each trade has a term of at most 364 days
abbrev pub WithinYear : Setting → List Line → Type 0
WithinYear s ls = EachTerm s (λ t. t ≤ longest_term) ls

-- m cents are at least the fraction, and at most k cents above it
pub record WithinCents (f : Fraction) (m k : ℕ) : Type 0 where
  pub positive : 0 < f.denominator
  pub low : IsAtMost f (whole_number (pos m))
  pub high : IsAtMost (whole_number (pos m)) (fraction_sum f (whole_number (pos k)))

-- the margin of a joint book is at most the two margins added
abbrev pub JointBound : Type 0
JointBound =
    (s : Setting) (a b c : List Line) → Netting s.charged → IsJointBook a b c →
    margin s c ≤ margin s a + margin s b

-- the margin is never below the exact margin, and above it by at most one cent for each rounded
-- amount
abbrev pub CentsBound : Type 0
CentsBound =
    (s : Setting) (ls : List Line) → Netting s.charged → Discounting s.reach s.rate →
    EachTradeHasRate s ls → WithinYear s ls →
    WithinCents (exact_margin s ls) (margin s ls) (rounded_amounts ls)

-- where two books are given margins, their joint book is given one, and it is at most the two added
abbrev pub JointLaw : Type 0
JointLaw =
    (s : Setting) (a b c : List Line) (ma ka mb kb : ℕ) → Netting s.charged → IsJointBook a b c →
    margin_answer s a ≡ given ma ka → margin_answer s b ≡ given mb kb →
    (mc : ℕ) × (kc : ℕ) × (margin_answer s c ≡ given mc kc) × (mc ≤ ma + mb)

-- two books with the same lines are given the same margin, and as many rounded amounts
abbrev pub SameLinesLaw : Type 0
SameLinesLaw =
    (s : Setting) (a b : List Line) (m k : ℕ) → Netting s.charged → HaveSameLines a b →
    margin_answer s a ≡ given m k → margin_answer s b ≡ given m k

-- what a margin that is given for lines keeps to: it is theirs, never below their exact margin,
-- and above it by at most one cent for each rounded amount
abbrev pub MarginHolds : Setting → List Line → Answer → Type 0
MarginHolds s ls accepted = ⊤
MarginHolds s ls (refused n r) = ⊤
MarginHolds s ls (given m k) =
    (m ≡ margin s ls) × (k ≡ rounded_amounts ls) × WithinCents (exact_margin s ls) m k

-- it holds for lines whose trades have terms of at most 364 days
abbrev pub CentsLaw : Type 0
CentsLaw =
    (s : Setting) (ls : List Line) → Netting s.charged → Discounting s.reach s.rate →
    WithinYear s ls → MarginHolds s ls (margin_answer s ls)

-- the same of a margin that is given: it is that of the lines, never below their exact margin, and
-- above it by at most one cent for each rounded amount
abbrev pub GivenLaw : Type 0
GivenLaw =
    (s : Setting) (ls : List Line) (m k : ℕ) →
    Netting s.charged → Discounting s.reach s.rate → WithinYear s ls →
    margin_answer s ls ≡ given m k →
    (m ≡ margin s ls) × (k ≡ rounded_amounts ls) × WithinCents (exact_margin s ls) m k
