-- What the check of lines says.
use Rattle.std.specs.Prelude.{◌≡◌, ℕ, if◌then◌else◌, not, nat_lt, List, [], ◌∷◌, IfSome, Ok, Err, Result, ⊤}
use Rattle.std.specs.Coded.{Coded-set, coded_ℕ, ×_prop, Unit-prop}
use Rattle.quantities.specs.declared.isin.Isin.{Isin}
use Rattle.quantities.specs.declared.refusal.Refusal.{Refusal}
use Rattle.quantities.specs.declared.refusal.Refusal.TheVariants.{NoPrice, NoPercentage, NoRate}
use Rattle.quantities.specs.Refusals.{number}
use Rattle.account.specs.declared.line.Line.{Line}
use Rattle.account.specs.declared.line_refusal.LineRefusal.{LineRefusal}
use Rattle.account.specs.Settings.{Setting, has_price, has_percentage}
use Rattle.account.specs.Calls.{refused}
use Rattle.account.specs.Answers.{fault, answer_among}
use Rattle.valuation.specs.declared.lookups.Lookups.{Lookups}

-- the number of the refusal of a check, or 0 where it passes
abbrev pub number_or_zero : Result (Unit {0}) Refusal → ℕ
number_or_zero (Ok _) = 0
number_or_zero (Err r) = number r

-- the refusal of an ISIN without price or percentage, or 0
abbrev pub quote_fault : Setting → Isin → ℕ
quote_fault s i =
    if not (has_price s i) then number NoPrice
    else (if not (has_percentage s i) then number NoPercentage else 0)

-- the refusal of a term without a rate, or 0
abbrev pub rate_fault : Setting → ℕ → ℕ
rate_fault s term = if nat_lt term s.reach then 0 else number NoRate

-- what has been looked up has a quote and a rate
pub record IsFound (s : Setting) (f : Lookups) : Type 0 where
  pub quoted : IfSome f.isin (λ i. quote_fault s i ≡ 0)
  pub rated : IfSome f.term (λ term. rate_fault s term ≡ 0)

-- no line has a fault
abbrev pub Faultless : Setting → List Line → Type 0
Faultless s [] = ⊤
Faultless s (l ∷ ls) = (fault s l ≡ 0) × Faultless s ls

pub Faultless-prop : (s : Setting) (ls : List Line) → IsProp (Faultless s ls)
Faultless-prop s [] = Unit-prop
Faultless-prop s (l ∷ ls) = ×_prop (Coded-set coded_ℕ (fault s l) 0) (Faultless-prop s ls)

-- a refusal by the first fault of lines: it is then the answer whatever lines the margin is of
abbrev pub IsFirstFault : Setting → List Line → LineRefusal → Type 0
IsFirstFault s ls r =
    (all : List Line) → answer_among s all ls ≡ refused (number r.refusal) r.reference

-- a check finds no fault, or the first one
abbrev pub FindsFirstFault : Setting → List Line → Result (Unit {0}) LineRefusal → Type 0
FindsFirstFault s ls (Ok _) = Faultless s ls
FindsFirstFault s ls (Err r) = IsFirstFault s ls r
