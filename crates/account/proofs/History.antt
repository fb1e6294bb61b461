-- Calls that are answered as is due keep every bound: a line that is taken has a term of at most a year.
use Rattle.std.proofs.Common.{◌≡◌, ℕ, ◌≤◌, Bool, true, false, cond, not, eqb, ltb, List, [], ◌∷◌, length, sym, refl, subst, arith}
use Rattle.std.proofs.lemmas.Bool.{false≢true, cond_both}
use Rattle.quantities.specs.Dates.{term}
use Rattle.quantities.specs.Ranges.{most_titles}
use Rattle.netting.specs.Rules.{Netting}
use Rattle.curve.specs.Curves.{Discounting}
use Rattle.register.specs.Keys.{has_rank, inserted_by, without}
use Rattle.account.specs.declared.line.Line.{Line}
use Rattle.account.specs.declared.block.Block.{Block}
use Rattle.account.specs.declared.block.Block.TheVariants.{Trade, Failed, Held, CashOnly}
use Rattle.account.specs.declared.call.Call.{Call}
use Rattle.account.specs.declared.call.Call.TheVariants.{Enter, Withdraw, AskMargin}
use Rattle.account.specs.Lines.{block_name, date, is_same_block, is_trade}
use Rattle.account.specs.declared.block_name.BlockName.TheVariants.{Trade as trade}
use Rattle.account.specs.Settings.{Setting, line_term}
use Rattle.account.specs.Calls.{Answer, accepted, refused, given, Event, line_rank, lines_after, lines_standing_from, lines_standing}
use Rattle.account.specs.Answers.{is_well_formed, is_well_dated, titles_with, enter_answer, withdraw_answer, due_answer, EachDue}
use Rattle.account.specs.Joint.{EachTerm, WithinYear, MarginHolds}
use Rattle.account.specs.History.{EachMarginHolds, HistoryLaw}
use Rattle.account.proofs.Answered.{cents_law}
use Rattle.account.proofs.Checks.{days_decide, enter_law}
use Rattle.account.proofs.Standing.{stand_after}

-- ---- the terms of trades, as lines come and go
inserted_terms : (s : Setting) (P : ℕ → Type 0) (l : Line) (ls : List Line) → (is_trade l ≡ true → P (line_term s l)) → EachTerm s P ls → EachTerm s P (inserted_by line_rank l ls)
inserted_terms s P l [] h each = (h, tt)
inserted_terms s P l (x ∷ xs) h each =
    cond_both (ltb l.reference x.reference) (l ∷ (x ∷ xs)) (x ∷ inserted_by line_rank l xs) (EachTerm s P) (λ e. (h, each)) (λ e. (each.0, inserted_terms s P l xs h each.1))

without_terms : (s : Setting) (P : ℕ → Type 0) (r : ℕ) (ls : List Line) → EachTerm s P ls → EachTerm s P (without line_rank r ls)
without_terms s P r [] each = tt
without_terms s P r (x ∷ xs) each =
    cond_both (eqb x.reference r) (without line_rank r xs) (x ∷ without line_rank r xs) (EachTerm s P) (λ e. without_terms s P r xs each.1) (λ e. (each.0, without_terms s P r xs each.1))

pub dated_term : (today : ℕ) (b : Block) → is_well_dated today b ≡ true → is_same_block (block_name b) trade ≡ true → term today (date b) ≤ 364
dated_term today (Trade d) w t = let p = ((days_decide today (Trade d)).0 w).1 in omega arith
dated_term today (Failed d) w t = absurd (false≢true t)
dated_term today (Held d) w t = absurd (false≢true t)
dated_term today (CashOnly d) w t = absurd (false≢true t)

-- ---- so the lines that stand keep their days
due_year : (s : Setting) (room : ℕ) (ls : List Line) (c : Call) (a : Answer) → a ≡ due_answer s room ls c → WithinYear s ls → WithinYear s (lines_after c a ls)
due_year s room ls (Enter l) accepted e y = inserted_terms s (λ t. t ≤ 364) l ls (dated_term s.today l.block ((days_decide s.today l.block).1 ((enter_law s.today room ls l).is_accepted.0 (sym e)).0.days)) y
due_year s room ls (Withdraw r) accepted e y = without_terms s (λ t. t ≤ 364) r ls y
due_year s room ls AskMargin accepted e y = y
due_year s room ls c (refused n r) e y = y
due_year s room ls c (given m k) e y = y

-- ---- a margin that is given is one that was asked
enter_gives_none : (today room : ℕ) (ls : List Line) (l : Line) (m k : ℕ) → given m k ≡ enter_answer today room ls l → ⊥
enter_gives_none today room ls l m k e = go (is_well_formed l) (has_rank line_rank l.reference ls) (is_well_dated today l.block) (ltb most_titles (titles_with l ls)) (ltb (length ls) room) e
  where
    go : (f h d t r : Bool) → given m k ≡ cond (not f) (refused 4 l.reference) (cond h (refused 6 l.reference) (cond (not d) (refused 7 l.reference) (cond t (refused 8 l.reference) (cond r accepted (refused 9 l.reference))))) → ⊥
    go true false true false true e = let z : ◌≡◌ {A = ℕ} 0 1 = cc in omega arith
    go true false true false false e = let z : ◌≡◌ {A = ℕ} 0 1 = cc in omega arith
    go true false true true r e = let z : ◌≡◌ {A = ℕ} 0 1 = cc in omega arith
    go true false false t r e = let z : ◌≡◌ {A = ℕ} 0 1 = cc in omega arith
    go true true d t r e = let z : ◌≡◌ {A = ℕ} 0 1 = cc in omega arith
    go false h d t r e = let z : ◌≡◌ {A = ℕ} 0 1 = cc in omega arith

withdraw_gives_none : (ls : List Line) (r m k : ℕ) → given m k ≡ withdraw_answer ls r → ⊥
withdraw_gives_none ls r m k e = go (eqb r 0) (has_rank line_rank r ls) e
  where
    go : (z h : Bool) → given m k ≡ cond z (refused 4 r) (cond h accepted (refused 13 r)) → ⊥
    go true h e = let z : ◌≡◌ {A = ℕ} 0 1 = cc in omega arith
    go false true e = let z : ◌≡◌ {A = ℕ} 0 1 = cc in omega arith
    go false false e = let z : ◌≡◌ {A = ℕ} 0 1 = cc in omega arith

module _ (s : Setting) (room : ℕ) (net : Netting s.charged) (rates : Discounting s.reach s.rate) where
  holds : (ls : List Line) (c : Call) (a : Answer) → a ≡ due_answer s room ls c → WithinYear s ls → MarginHolds s ls a
  holds ls c accepted e y = tt
  holds ls c (refused n r) e y = tt
  holds ls (Enter l) (given m k) e y = absurd (enter_gives_none s.today room ls l m k e)
  holds ls (Withdraw r) (given m k) e y = absurd (withdraw_gives_none ls r m k e)
  holds ls AskMargin (given m k) e y = subst (MarginHolds s ls) (sym e) (cents_law s ls net rates y)

  each_holds : (ls : List Line) (es : List Event) → EachDue s room ls es → WithinYear s ls → EachMarginHolds s ls es
  each_holds ls [] d y = tt
  each_holds ls (e ∷ es) d y = (holds ls e.0 e.1 d.0 y, each_holds (lines_after e.0 e.1 ls) es d.1 (due_year s room ls e.0 e.1 d.0 y))

  standing_year : (ls : List Line) (es : List Event) → EachDue s room ls es → WithinYear s ls → WithinYear s (lines_standing_from ls es)
  standing_year ls [] d y = y
  standing_year ls (e ∷ es) d y = standing_year (lines_after e.0 e.1 ls) es d.1 (due_year s room ls e.0 e.1 d.0 y)

pub history_law : HistoryLaw
history_law s room es net rates d =
    record {
      each_due = d;
      standing = stand_after s room es d;
      last_due = refl;
      each_holds = each_holds s room net rates [] es d tt;
      last_holds = cents_law s (lines_standing es) net rates (standing_year s room net rates [] es d tt);
    }
