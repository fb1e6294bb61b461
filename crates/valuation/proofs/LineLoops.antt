-- One turn of a loop over lines: what the rest of the lines gives, by the first of them and the rest after it.
use Rattle.std.proofs.Common.{◌≡◌, ℕ, suc, ◌+◌, ◌*◌, ◌≤◌, Bool, true, false, cond, List, [], ◌∷◌, length, sym, subst, refl, ap, ap₂, ◌∙◌, mul-le-mul_left, mul-add, inl, inr, arith}
use Rattle.std.specs.Prelude.{◌⊎◌}
use Rattle.account.specs.declared.side.Side.{Side}
use Rattle.account.specs.declared.side.Side.TheVariants.{Bought, Sold}
use Rattle.account.specs.declared.line.Line.{Line}
use Rattle.account.specs.Lines.{if_bought, if_sold, keep, sum_of}
use Rattle.account.specs.Settings.{Setting}
use Rattle.account.specs.Charges.{cash_rounded_up, cash_rounded_down, cash_charged, cash_credited}
use Rattle.account.proofs.Sums.{sum_first}
use Rattle.valuation.specs.declared.per_side.PerSide.{PerSide}
use Rattle.valuation.specs.Cash.{side_cash, cash_of}
use Rattle.valuation.specs.PerSide.{IsSumPerSide}

-- a sum over the lines that pass p has come to n before the rest
pub record Summed (f : Line → ℕ) (p : Line → Bool) (ls rest : List Line) (n : ℕ) : Type 0 where
  pub sum : n + sum_of f (keep p rest) ≡ sum_of f (keep p ls)

pub summed_more : {f : Line → ℕ} {p : Line → Bool} {ls rest next : List Line} {l : Line} {n m : ℕ} (t : Bool) → rest ≡ l ∷ next → t ≡ p l → m ≡ n + cond t (f l) 0 → Summed f p ls rest n → Summed f p ls next m
summed_more {f} {p} {next = next} {l} t h e d s =
    record { sum = omega (arith, ap (λ ms. sum_of f (keep p ms)) h ∙ sum_first f p l next, s.sum, ap {B = ℕ} (λ b. cond b (f l) 0) e) }

pub summed_all : {f : Line → ℕ} {p : Line → Bool} {ls rest : List Line} {n : ℕ} → rest ≡ [] → Summed f p ls rest n → n ≡ sum_of f (keep p ls)
summed_all {f} {p} h s = omega (arith, ap (λ ms. sum_of f (keep p ms)) h, s.sum)

-- a sum over the lines that pass p, each at most b, has come to n before the rest
pub record Bounded (b : ℕ) (p : Line → Bool) (ls rest : List Line) (n : ℕ) : Type 0 where
  pub high : n + b * length (keep p rest) ≤ b * length (keep p ls)

count_first : (b : ℕ) (p : Line → Bool) (l : Line) (ls : List Line) → b * length (keep p (l ∷ ls)) ≡ cond (p l) b 0 + b * length (keep p ls)
count_first b p l ls = go (p l)
  where
    go : (t : Bool) → b * length (cond t (l ∷ keep p ls) (keep p ls)) ≡ cond t b 0 + b * length (keep p ls)
    go true = omega (arith, mul-add b (length (keep p ls)) 1)
    go false = omega arith

pub bounded_more : {b : ℕ} {p : Line → Bool} {ls rest next : List Line} {l : Line} {n m : ℕ} (t : Bool) → rest ≡ l ∷ next → t ≡ p l → m ≤ n + cond t b 0 → Bounded b p ls rest n → Bounded b p ls next m
bounded_more {b} {p} {next = next} {l} t h e d s =
    record { high = omega (arith, ap (λ ms. b * length (keep p ms)) h ∙ count_first b p l next, s.high, ap {B = ℕ} (λ c. cond c b 0) e) }

pub bounded_all : {b : ℕ} {p : Line → Bool} {ls rest : List Line} {n : ℕ} → Bounded b p ls rest n → n ≤ b * length (keep p ls)
bounded_all s = omega (arith, s.high)

pub kept_length : {X : Type 0} (p : X → Bool) (xs : List X) → length (keep p xs) ≤ length xs
kept_length p [] = omega arith
kept_length {X} p (x ∷ xs) = go (p x) (kept_length p xs)
  where
    go : (b : Bool) → length (keep p xs) ≤ length xs → length (cond b (x ∷ keep p xs) (keep p xs)) ≤ suc (length xs)
    go true h = omega arith
    go false h = omega arith

pub bounded_most : {b : ℕ} {p : Line → Bool} {ls rest : List Line} {n : ℕ} → Bounded b p ls rest n → n ≤ b * length ls
bounded_most {b} {p} {ls} s = omega (arith, s.high, mul-le-mul_left b (kept_length p ls))

-- ---- a line among lines
abbrev pub IsAmong : List Line → Line → Type 0
IsAmong [] l = ⊥
IsAmong (x ∷ xs) l = (x ≡ l) ⊎ IsAmong xs l

-- what is left of lines stands among them
abbrev pub AreAmong : List Line → List Line → Type 0
AreAmong ls rest = (l : Line) → IsAmong rest l → IsAmong ls l

pub first_among : (ls : List Line) {rest next : List Line} {l : Line} → rest ≡ l ∷ next → AreAmong ls rest → IsAmong ls l
first_among ls {l = l} h a = a l (subst (λ ms. IsAmong ms l) (sym h) (inl refl))

pub next_among : (ls : List Line) {rest next : List Line} {l : Line} → rest ≡ l ∷ next → AreAmong ls rest → AreAmong ls next
next_among ls h a = λ k i. a k (subst (λ ms. IsAmong ms k) (sym h) (inr i))

-- ---- a number on its side is no more than the number
pub bought_most : (s : Side) (n m : ℕ) → n ≤ m → if_bought s n ≤ m
bought_most Bought n m h = h
bought_most Sold n m h = omega arith

pub sold_most : (s : Side) (n m : ℕ) → n ≤ m → if_sold s n ≤ m
sold_most Bought n m h = omega arith
sold_most Sold n m h = h

-- ---- the cash of a line counts on its side
pub cash_by_side : (s : Setting) (l : Line) → cash_of s l ≡ elim l.side [ Bought ↦ cash_rounded_up s l | Sold ↦ cash_rounded_down s l ]
cash_by_side s l = go l.side
  where
    go : (t : Side) → side_cash t (cash_rounded_up s l) (cash_rounded_down s l) ≡ elim t [ Bought ↦ cash_rounded_up s l | Sold ↦ cash_rounded_down s l ]
    go Bought = refl
    go Sold = refl

pub cash_sums : (s : Setting) (ls : List Line) {p : PerSide} → IsSumPerSide (cash_of s) ls p → (p.bought ≡ cash_charged s ls) × (p.sold ≡ cash_credited s ls)
cash_sums s ls e = (e.bought ∙ same (λ l. up l l.side) ls, e.sold ∙ same (λ l. down l l.side) ls)
  where
    same : {f h : Line → ℕ} → ((l : Line) → f l ≡ h l) → (ms : List Line) → sum_of f ms ≡ sum_of h ms
    same e [] = refl
    same e (m ∷ ms) = ap₂ ◌+◌ (e m) (same e ms)

    up : (l : Line) (t : Side) → if_bought t (side_cash t (cash_rounded_up s l) (cash_rounded_down s l)) ≡ if_bought t (cash_rounded_up s l)
    up l Bought = refl
    up l Sold = refl

    down : (l : Line) (t : Side) → if_sold t (side_cash t (cash_rounded_up s l) (cash_rounded_down s l)) ≡ if_sold t (cash_rounded_down s l)
    down l Bought = refl
    down l Sold = refl
