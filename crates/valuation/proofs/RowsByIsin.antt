-- The rows of ISIN after ISIN, tallied.
use Rattle.std.proofs.Common.{◌≡◌, ◌<◌, ◌≤◌, true, List, [], ◌∷◌, ◌++◌, length, Some, None, sym, ap, ◌∙◌, subst, arith, length-append}
use Rattle.std.specs.List.{slice_get, list_all}
use Rattle.std.proofs.lemmas.Bool.{both_ways}
use Rattle.quantities.specs.declared.isin.Isin.{Isin}
use Rattle.account.specs.declared.line.Line.{Line}
use Rattle.account.specs.Lines.{same_isin}
use Rattle.account.specs.Settings.{Setting}
use Rattle.account.specs.Rows.{isin_rows, statement_rows}
use Rattle.account.proofs.Formed.{taken_bytes}
use Rattle.account.proofs.Terms.{same_isin_decides}
use Rattle.valuation.specs.declared.tally.Tally.{Tally}
use Rattle.account.specs.ByIsin.{OtherFirst}
use Rattle.valuation.specs.Tallies.{AddsRows}
use Rattle.valuation.specs.Spaces.{RowsWithin, HasSpaceFor}
use Rattle.valuation.proofs.Parts.{Workable, first_part, later_part}
use Rattle.valuation.proofs.Runs.{EachAfter, each_of, rest_after, rows_parted}
use Rattle.valuation.proofs.TallyRows.{tallied_none, tallied_both}
use Rattle.valuation.proofs.TallySpace.{space_less, space_after}

-- a tally to which the rows of lines are still to come: with them it is a tally of all
pub record AwaitsRows (s : Setting) (all : List Line) (start : Tally) (xs : List Line) (t : Tally) : Type 0 where
  pub workable : Workable s xs
  pub rest : (v : Tally) → AddsRows (statement_rows s xs) t v → AddsRows (statement_rows s all) start v
  pub space : HasSpaceFor (length xs) t

pub awaits_all : {s : Setting} {start : Tally} (xs : List Line) → Workable s xs → HasSpaceFor (length xs) start → AwaitsRows s xs start xs start
awaits_all {s} {start} xs w p = record { workable = w; rest = λ v a. a; space = p }

pub awaits_none : {s : Setting} {all : List Line} {start t : Tally} (xs : List Line) → None ≡ slice_get xs 0 → AwaitsRows s all start xs t → AddsRows (statement_rows s all) start t
awaits_none {t = t} [] e w = w.rest t (tallied_none t)
awaits_none (x ∷ xs) e w = cc

-- what is taken off the front of lines: those of the first ISIN
pub record Run (i : Isin) (xs ys zs : List Line) : Type 0 where
  pub both : xs ≡ ys ++ zs
  pub first : 1 ≤ length ys
  pub run : list_all (λ l. same_isin l.isin i) ys ≡ true
  pub rest : OtherFirst i zs

pub run_of : (x : Line) (xs ys zs : List Line) → Some x ≡ slice_get xs 0 → xs ≡ ys ++ zs → list_all (λ l. same_isin l.isin x.isin) ys ≡ true → OtherFirst x.isin zs → Run x.isin xs ys zs
run_of x [] ys zs d b e o = cc
run_of x (w ∷ xs) [] zs d b e o =
    let q : w ≡ x = cc in
    let p = subst (λ ws. OtherFirst x.isin ws) (sym b) o in
    absurd (both_ways (same_isin w.isin x.isin) p ((same_isin_decides w.isin x.isin).1 (ap (λ v. v.isin) q)))
run_of x (w ∷ xs) (y ∷ ys) zs d b e o = record { both = b; first = omega arith; run = e; rest = o }

module _ {s : Setting} {all : List Line} {start : Tally} {i : Isin} {xs ys zs : List Line} {t : Tally} (r : Run i xs ys zs) (w : AwaitsRows s all start xs t) where
  both_workable : Workable s (ys ++ zs)
  both_workable = subst (Workable s) r.both w.workable

  pub run_workable : Workable s ys
  run_workable = first_part s ys zs both_workable

  rest_workable : Workable s zs
  rest_workable = later_part s ys zs both_workable

  pub run_space : HasSpaceFor (length ys) t
  run_space = space_less (omega (arith, ap length r.both, length-append ys zs)) w.space

  later : EachAfter i zs
  later =
      rest_after 0 i ys zs (taken_bytes s.today ys run_workable.taken) (taken_bytes s.today zs rest_workable.taken)
      (each_of i ys r.run) r.first r.rest both_workable.rising

  rows_are : statement_rows s xs ≡ isin_rows s ys i ++ statement_rows s zs
  rows_are = ap (statement_rows s) r.both ∙ rows_parted s i ys zs (each_of i ys r.run) later r.first

  pub awaits_rest : {u : Tally} → AddsRows (isin_rows s ys i) t u → RowsWithin (length ys) (isin_rows s ys i) → AwaitsRows s all start zs u
  awaits_rest {u} a p =
      record {
        workable = rest_workable;
        rest = λ v b. w.rest v (subst (λ rows. AddsRows rows t v) (sym rows_are) (tallied_both a b));
        space = space_after (space_less (omega (arith, ap length r.both, length-append ys zs)) w.space) p a;
      }

  pub rest_shorter : length zs < length xs
  rest_shorter = omega (arith, r.first, ap length r.both, length-append ys zs)
