-- The reach of points that are put in by their terms: it is above a term just where a point has at least that term.
use Rattle.std.proofs.Common.{◌≡◌, ℕ, zero, suc, ◌+◌, ◌<◌, ◌≤◌, max, ltb, List, [], ◌∷◌, length, get_or, refl, ap, ◌∙◌, ⊎_elim, arith}
use Rattle.std.proofs.lemmas.Bool.{cases_lt, cond_both, ltb-true, ltb-false}
use Rattle.std.specs.List.{Contains}
use Rattle.register.specs.Keys.{inserted_by}
use Rattle.curve.specs.declared.point.Point.{Point}
use Rattle.curve.specs.Points.{point_rank, reach_of}
use Rattle.account.proofs.Sorted.{Sorted, sorted_inserted, inserted_long}
use Rattle.run.specs.Laws.{records_with}
use Rattle.run.proofs.RecordsOfRows.{later}

above_first : (p : Point) (ps : List Point) → Sorted point_rank (p ∷ ps) → p.term < reach_of (p ∷ ps)
above_first p [] s = omega arith
above_first p (q ∷ qs) s = let a = above_first q qs s.1 in let b = s.0.0 in omega (arith, a, b)

of_later : (p : Point) (ps : List Point) → 0 < length ps → reach_of (p ∷ ps) ≡ reach_of ps
of_later p [] h = absurd (omega arith)
of_later p (q ∷ qs) h = refl

one_more : (r : Point) (ps : List Point) → Sorted point_rank ps → reach_of (inserted_by point_rank r ps) ≡ max (r.term + 1) (reach_of ps)
one_more r [] s = omega arith
one_more r (p ∷ []) s =
    cond_both (ltb r.term p.term) (r ∷ (p ∷ [])) (p ∷ (r ∷ [])) (λ qs. reach_of qs ≡ max (r.term + 1) (p.term + 1))
    (λ e. let b = ltb-true r.term p.term e in omega (arith, b))
    (λ e. let b = ltb-false r.term p.term e in omega (arith, b))
one_more r (p ∷ (q ∷ qs)) s =
    cond_both (ltb r.term p.term) (r ∷ (p ∷ (q ∷ qs))) (p ∷ inserted_by point_rank r (q ∷ qs)) (λ ps. reach_of ps ≡ max (r.term + 1) (reach_of (q ∷ qs)))
    (λ e. let a = above_first p (q ∷ qs) s in let b = ltb-true r.term p.term e in omega (arith, a, b))
    (λ e. of_later p (inserted_by point_rank r (q ∷ qs)) (omega (arith, inserted_long point_rank r (q ∷ qs))) ∙ one_more r (q ∷ qs) s.1)

-- a term below the reach
pub reached_by : (before ps : List Point) (t : ℕ) → Sorted point_rank before → reach_of before ≤ t → t < reach_of (records_with point_rank before ps) → (p : Point) × (Contains ps p × (t ≤ p.term))
reached_by before [] t s b h = absurd (omega arith)
reached_by before (p ∷ ps) t s b h = ⊎_elim
    (λ (l : p.term < t).
    let r = reached_by (inserted_by point_rank p before) ps t (sorted_inserted point_rank p before s) (omega (arith, one_more p before s, b, l)) h in
    (r.0, (later p r.0 ps r.1.0, r.1.1)))
    (λ (l : t ≤ p.term). (p, ((0, omega arith, refl), l)))
    (cases_lt p.term t)

not_less : (before ps : List Point) → Sorted point_rank before → reach_of before ≤ reach_of (records_with point_rank before ps)
not_less before [] s = omega arith
not_less before (p ∷ ps) s = omega (arith, one_more p before s, not_less (inserted_by point_rank p before) ps (sorted_inserted point_rank p before s))

-- and the other way
pub reaches : (before ps : List Point) (p : Point) (t : ℕ) → Sorted point_rank before → Contains ps p → t ≤ p.term → t < reach_of (records_with point_rank before ps)
reaches before ps p t s c l = go before ps c.0 s c.1 c.2
  where
    go : (before qs : List Point) (k : ℕ) → Sorted point_rank before → k < length qs → get_or qs k p ≡ p → t < reach_of (records_with point_rank before qs)
    go before [] k s m e = absurd (omega arith)
    go before (q ∷ qs) zero s m e =
        let same = ap (λ (x : Point). x.term) e in
        omega (arith, same, l, one_more q before s, not_less (inserted_by point_rank q before) qs (sorted_inserted point_rank q before s))
    go before (q ∷ qs) (suc k) s m e = go (inserted_by point_rank q before) qs k (sorted_inserted point_rank q before s) (omega arith) e
