use Rattle.std.proofs.Common.{◌≡◌, ◌-◌, length, Some, None, Option, slice_get, refl, ap, ◌∙◌, rules, arith}
use Rattle.std.proofs.lemmas.Bool.{lt-ltb, le-ltb}
use Rattle.register.specs.Keys.{below_rank, from_rank}
use Rattle.curve.specs.declared.point.Point.{Point}
use Rattle.curve.specs.Points.{reach_of, sloping_rate}
use Rattle.curve.proofs.TermPlaces.{term_of, last_of, last_is, beyond, reached}
use Rattle.curve.proofs.SlopeRates.{not_before, last_below, at_point, before_first, between_points}
use Rattle.curve.proofs.sloping.SlopingCurveCurve.rate_for.Goals as goal
use Rattle.curve.proofs.sloping.SlopingCurveCurve.rate_for.Goals.{After-last, in_default-via-in-Some+else-term-next, in_default-via-in_default}

pub returns-in_err-next-clause-answer : goal.returns-in_err-next-clause-answer
returns-in_err-next-clause-answer c =
    let ps = c.args.self.now.points.now.records in
    let t = c.args.term in
    let f : ◌≡◌ {A = Option Point} None (slice_get (from_rank term_of t ps) 0) = search rules in
    rw (le-ltb t (reach_of ps) (beyond ps t f)) (search rules)

-- the next point is the first from the term on
next : (c : After-last) → Some c.in_ok-next.next.now ≡ slice_get (from_rank term_of c.args.term c.args.self.now.points.now.records) 0
next c = search rules

-- the last point below the term
last : (c : After-last) (o : Option Point) → o ≡ slice_get c.split_at.result.0.now (length c.split_at.result.0.now - 1) →
    o ≡ last_of (below_rank term_of c.args.term c.args.self.now.points.now.records)
last c o e = e ∙ (last_is c.split_at.result.0.now ∙ ap last_of c.split_at.ensures.below)

pub rate_between-requires : goal.rate_between-requires
rate_between-requires c =
    let l = last (goal.at.rate_between-requires c).After-last (Some c.in-Some.previous.now) c.in-Some.ensures.value in
    (last_below c.args.self.now.points.now.records c.args.term _ l, c.if-term-next.true)

pub returns-in-Some-clause-answer : goal.returns-in-Some-clause-answer
returns-in-Some-clause-answer c =
    let ps = c.args.self.now.points.now.records in
    let t = c.args.term in
    let q = c.in_ok-next.next.now in
    let f = next (goal.at.returns-in-Some-clause-answer c).After-last in
    let l = last (goal.at.returns-in-Some-clause-answer c).After-last (Some c.in-Some.previous.now) c.in-Some.ensures.value in
    rw (lt-ltb t (reach_of ps) (reached ps t q c.split_at.ensures.ascends f), between_points ps t c.in-Some.previous.now q l f c.if-term-next.true, c.rate_between.ensures) refl

pub returns-in_default-clause-answer : goal.returns-in_default-clause-answer
returns-in_default-clause-answer c =
    let ps = c.args.self.now.points.now.records in
    let t = c.args.term in
    let q = c.in_ok-next.next.now in
    let f = next (goal.at.returns-in_default-clause-answer c).After-last in
    let rate : sloping_rate ps t ≡ q.rate.basis_points = elim c.in_default.branch [
      | in_default-via-in-Some+else-term-next w ↦ let b = not_before ps t q f in at_point ps t q f (omega (arith, w.if-term-next.false))
      | in_default-via-in_default w ↦ before_first ps t q (last (goal.at.returns-in_default-clause-answer c).After-last None (search rules)) f
    ] in
    rw (lt-ltb t (reach_of ps) (reached ps t q c.split_at.ensures.ascends f), rate) refl
