-- A margin is given where no line standing has a fault. So the two bounds hold for what is answered.
use Rattle.std.proofs.Common.{◌≡◌, ℕ, ◌+◌, Bool, true, false, cond, not, ◌&&◌, eqb, List, [], ◌∷◌, sym, refl, ◌∙◌, subst, subst₂, arith}
use Rattle.std.proofs.lemmas.Bool.{ltb-true, eqb-true, eq-eqb, cond-true}
use Rattle.account.specs.declared.line.Line.{Line}
use Rattle.account.specs.Lines.{block_name, is_same_block, sum_of}
use Rattle.account.specs.declared.block_name.BlockName.{BlockName}
use Rattle.account.specs.declared.block_name.BlockName.TheVariants.{Trade as trade, Failed as failed, Held as held, CashOnly as cash_only}
use Rattle.account.specs.Settings.{Setting, has_price, has_percentage}
use Rattle.account.specs.Margin.{margin, rounded_amounts}
use Rattle.account.specs.Exact.{exact_margin}
use Rattle.account.specs.Calls.{Answer, accepted, refused, given}
use Rattle.account.specs.Answers.{fault, answer_among}
use Rattle.account.specs.Joint.{EachTradeHasRate, WithinCents, MarginHolds, JointLaw, CentsLaw, GivenLaw}
use Rattle.account.proofs.Terms.{joint_adds, adds_ℕ}
use Rattle.account.proofs.Joint.{joint_bound}
use Rattle.account.proofs.Cents.{cents_bound}

-- ---- a margin is given where no line has a fault
abbrev pub faults : Setting → List Line → ℕ
faults s ls = sum_of (fault s) ls

pub answered : (s : Setting) (all ls : List Line) → faults s ls ≡ 0 → answer_among s all ls ≡ given (margin s all) (rounded_amounts all)
answered s all [] h = refl
answered s all (l ∷ ls) h = cond-true (eqb (fault s l) 0) _ _ (eq-eqb (fault s l) 0 (omega arith)) ∙ answered s all ls (omega arith)

-- and only there
pub faultless : (s : Setting) (all ls : List Line) (m k : ℕ) → answer_among s all ls ≡ given m k → faults s ls ≡ 0
faultless s all [] m k e = refl
faultless s all (l ∷ ls) m k e = go (eqb (fault s l) 0) refl e (faultless s all ls m k)
  where
    go : (b : Bool) → eqb (fault s l) 0 ≡ b → cond b (answer_among s all ls) (refused (fault s l) l.reference) ≡ given m k → (answer_among s all ls ≡ given m k → faults s ls ≡ 0) → fault s l + faults s ls ≡ 0
    go true t e ih = omega (arith, eqb-true (fault s l) 0 t, ih e)
    go false t e ih = let z : ◌≡◌ {A = ℕ} 0 1 = cc in omega arith

pub parts : (s : Setting) (ls : List Line) (m k : ℕ) → answer_among s ls ls ≡ given m k → (m ≡ margin s ls) × (k ≡ rounded_amounts ls)
parts s ls m k e = same (margin s ls) (rounded_amounts ls) (sym e ∙ answered s ls ls (faultless s ls ls m k e))
  where
    same : (n j : ℕ) → given m k ≡ given n j → (m ≡ n) × (k ≡ j)
    same n j e = (cc, cc)

-- a trade with no fault has a rate
reached : (s : Setting) (ls : List Line) → faults s ls ≡ 0 → EachTradeHasRate s ls
reached s [] h = tt
reached s (l ∷ ls) h =
    (λ e. ltb-true _ _ (go (block_name l.block) (has_price s l.isin) (has_percentage s l.isin) _ (omega arith) e), reached s ls (omega arith))
  where
    go : (k : BlockName) (p q r : Bool) → ◌≡◌ {A = ℕ} (cond (is_same_block k cash_only) 0 (cond (not p) 10 (cond (not q) 11 (cond (is_same_block k trade && not r) 12 0)))) 0 → is_same_block k trade ≡ true → r ≡ true
    go trade true true true h e = refl
    go trade true true false h e = absurd (omega arith)
    go trade true false r h e = absurd (omega arith)
    go trade false q r h e = absurd (omega arith)
    go failed p q r h e = cc
    go held p q r h e = cc
    go cash_only p q r h e = cc

-- ---- the laws
pub joint_law : JointLaw
joint_law s a b c ma ka mb kb net j ea eb =
    let none : faults s c ≡ 0 = omega (arith, adds_ℕ (joint_adds a b c j) (fault s) (λ l. refl), faultless s a a ma ka ea, faultless s b b mb kb eb) in
    (margin s c, rounded_amounts c, answered s c c none, omega (arith, joint_bound s a b c net j, parts s a ma ka ea, parts s b mb kb eb))

pub cents_law : CentsLaw
cents_law s ls net r y = go (answer_among s ls ls) refl
  where
    go : (a : Answer) → answer_among s ls ls ≡ a → MarginHolds s ls a
    go accepted e = tt
    go (refused n k) e = tt
    go (given m k) e =
        let p = parts s ls m k e in
        (p.0, p.1, subst₂ (WithinCents (exact_margin s ls)) (sym p.0) (sym p.1) (cents_bound s ls net r (reached s ls (faultless s ls ls m k e)) y))

-- a margin that is given is the answer, so it keeps to what the answer does
pub given_law : GivenLaw
given_law s ls m k net r y e = subst (MarginHolds s ls) e (cents_law s ls net r y)
