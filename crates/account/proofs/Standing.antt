-- The lines that stand after calls are those that were entered to stay, and their references ascend.
use Rattle.std.proofs.Common.{◌≡◌, ℕ, ◌⊎◌, ◌↔◌, eqb, ltb, List, [], ◌∷◌, sym, refl, ap, ◌∙◌, inl, inr, ⊎_elim}
use Rattle.std.proofs.lemmas.Bool.{cond_both, eqb-true, eqb-false}
use Rattle.std.specs.List.{AllByRecursion as All}
use Rattle.register.specs.Keys.{inserted_by, without}
use Rattle.account.specs.declared.line.Line.{Line}
use Rattle.account.specs.declared.call.Call.{Call}
use Rattle.account.specs.declared.call.Call.TheVariants.{Enter, Withdraw, AskMargin}
use Rattle.account.specs.Settings.{Setting}
use Rattle.account.specs.Calls.{Answer, accepted, refused, given, Event, line_rank, lines_after, lines_standing_from, lines_standing}
use Rattle.account.specs.Answers.{due_answer, EachDue}
use Rattle.account.specs.Standing.{IsAmong, StandsUnder, Enters, Withdraws, IsNotWithdrawn, IsEnteredToStay, StandAfter}
use Rattle.account.proofs.Sorted.{Rises, ascends, rises_inserted, rises_without}
use Rattle.account.proofs.Checks.{enter_law}

-- ---- a line among others, as one comes and as one goes
among_inserted : (x l : Line) (ls : List Line) → IsAmong x (inserted_by line_rank l ls) ↔ ((l ≡ x) ⊎ IsAmong x ls)
among_inserted x l [] = (λ h. h, λ h. h)
among_inserted x l (y ∷ ys) =
    let more = among_inserted x l ys in
    cond_both (ltb l.reference y.reference) (l ∷ (y ∷ ys)) (y ∷ inserted_by line_rank l ys) (λ zs. IsAmong x zs ↔ ((l ≡ x) ⊎ IsAmong x (y ∷ ys)))
    (λ e. (λ h. h, λ h. h))
    (λ e. (
      ⊎_elim (λ q. inr (inl q)) (λ h. ⊎_elim inl (λ r. inr (inr r)) (more.0 h)),
      ⊎_elim (λ q. inr (more.1 (inl q))) (⊎_elim inl (λ r. inr (more.1 (inr r)))),
    ))

among_without : (x : Line) (r : ℕ) (ls : List Line) → IsAmong x (without line_rank r ls) ↔ (IsAmong x ls × (x.reference ≡ r → ⊥))
among_without x r [] = (λ h. absurd h, λ h. h.0)
among_without x r (y ∷ ys) =
    let more = among_without x r ys in
    cond_both (eqb y.reference r) (without line_rank r ys) (y ∷ without line_rank r ys) (λ zs. IsAmong x zs ↔ (IsAmong x (y ∷ ys) × (x.reference ≡ r → ⊥)))
    (λ e. (
      λ h. (inr (more.0 h).0, (more.0 h).1),
      λ h. ⊎_elim (λ q. absurd (h.1 (ap (λ l. l.reference) (sym q) ∙ eqb-true y.reference r e))) (λ t. more.1 (t, h.1)) h.0,
    ))
    (λ e. (
      ⊎_elim (λ q. (inl q, λ d. eqb-false y.reference r e (ap (λ l. l.reference) q ∙ d))) (λ h. (inr (more.0 h).0, (more.0 h).1)),
      λ h. ⊎_elim inl (λ t. inr (more.1 (t, h.1))) h.0,
    ))

-- ---- after one call, and after all
after_call : (l : Line) (c : Call) (a : Answer) (ls : List Line) → IsAmong l (lines_after c a ls) ↔ ((IsAmong l ls × (Withdraws l.reference (c, a) → ⊥)) ⊎ Enters l (c, a))
after_call l (Enter x) accepted ls =
    let both = among_inserted l x ls in (
      λ h. ⊎_elim (λ q. inr (ap Enter q, refl)) (λ t. inl (t, λ w. let e = w.0 in cc)) (both.0 h),
      ⊎_elim (λ t. both.1 (inr t.0)) (λ q. both.1 (inl (let e = q.0 in cc))),
    )
after_call l (Withdraw r) accepted ls =
    let both = among_without l r ls in (
      λ h. inl ((both.0 h).0, λ w. (both.0 h).1 (let e = w.0 in cc)),
      ⊎_elim (λ t. both.1 (t.0, λ e. t.1 (ap Withdraw (sym e), refl))) (λ q. absurd (let e = q.0 in cc)),
    )
after_call l AskMargin accepted ls = (λ h. inl (h, λ w. let e = w.0 in cc), ⊎_elim (λ t. t.0) (λ q. absurd (let e = q.0 in cc)))
after_call l c (refused n r) ls = (λ h. inl (h, λ w. let e = w.1 in cc), ⊎_elim (λ t. t.0) (λ q. absurd (let e = q.1 in cc)))
after_call l c (given m k) ls = (λ h. inl (h, λ w. let e = w.1 in cc), ⊎_elim (λ t. t.0) (λ q. absurd (let e = q.1 in cc)))

after_calls : (l : Line) (ls : List Line) (es : List Event) → IsAmong l (lines_standing_from ls es) ↔ ((IsAmong l ls × IsNotWithdrawn l.reference es) ⊎ IsEnteredToStay l es)
after_calls l ls [] = (λ h. inl (h, tt), ⊎_elim (λ t. t.0) (λ z. absurd z))
after_calls l ls (e ∷ es) =
    let one = after_call l e.0 e.1 ls in
    let more = after_calls l (lines_after e.0 e.1 ls) es in (
      λ h. ⊎_elim (λ p. ⊎_elim (λ q. inl (q.0, (q.1, p.1))) (λ q. inr (inl (q, p.1))) (one.0 p.0)) (λ t. inr (inr t)) (more.0 h),
      ⊎_elim (λ p. more.1 (inl (one.1 (inl (p.0, p.1.0)), p.1.1))) (⊎_elim (λ q. more.1 (inl (one.1 (inr q.0), q.1))) (λ t. more.1 (inr t))),
    )

-- ---- in their order
apart_from : (r : ℕ) (ls : List Line) → (StandsUnder r ls → ⊥) → All (λ y. r ≡ y.reference → ⊥) ls
apart_from r [] new = tt
apart_from r (y ∷ ys) new = (λ e. new (inl (sym e)), apart_from r ys (λ h. new (inr h)))

rises_on : (s : Setting) (room : ℕ) (ls : List Line) (c : Call) (a : Answer) → a ≡ due_answer s room ls c → Rises line_rank ls → Rises line_rank (lines_after c a ls)
rises_on s room ls (Enter l) accepted e up = rises_inserted line_rank l ls (apart_from l.reference ls ((enter_law s.today room ls l).is_accepted.0 (sym e)).0.new) up
rises_on s room ls (Withdraw r) accepted e up = rises_without line_rank r ls up
rises_on s room ls AskMargin accepted e up = up
rises_on s room ls c (refused n r) e up = up
rises_on s room ls c (given m k) e up = up

rise : (s : Setting) (room : ℕ) (ls : List Line) (es : List Event) → EachDue s room ls es → Rises line_rank ls → Rises line_rank (lines_standing_from ls es)
rise s room ls [] d up = up
rise s room ls (e ∷ es) d up = rise s room (lines_after e.0 e.1 ls) es d.1 (rises_on s room ls e.0 e.1 d.0 up)

pub stand_after : (s : Setting) (room : ℕ) (es : List Event) → EachDue s room [] es → StandAfter es (lines_standing es)
stand_after s room es d =
    record {
      each = λ l. let all = after_calls l [] es in (λ h. ⊎_elim (λ p. absurd p.0) (λ t. t) (all.0 h), λ t. all.1 (inr t));
      ascend = ascends line_rank (lines_standing es) (rise s room [] es d tt);
    }
