use Rattle.std.proofs.Common.{◌≡◌, Some, None, Option, slice_get, refl, rules}
use Rattle.std.proofs.lemmas.Bool.{lt-ltb, le-ltb}
use Rattle.register.specs.Keys.{from_rank}
use Rattle.curve.specs.declared.point.Point.{Point}
use Rattle.curve.specs.Points.{reach_of}
use Rattle.curve.proofs.TermPlaces.{term_of, beyond, reached, step_is}
use Rattle.curve.proofs.step.StepCurveCurve.rate_for.Goals as goal

pub returns-in_err-point-clause-answer : goal.returns-in_err-point-clause-answer
returns-in_err-point-clause-answer c =
    let ps = c.args.self.now.points.now.records in
    let t = c.args.term in
    let f : ◌≡◌ {A = Option Point} None (slice_get (from_rank term_of t ps) 0) = search rules in
    rw (le-ltb t (reach_of ps) (beyond ps t f)) (search rules)

pub returns-clause-answer : goal.returns-clause-answer
returns-clause-answer c =
    let ps = c.args.self.now.points.now.records in
    let t = c.args.term in
    let q = c.in_ok-point.point.now in
    let f : Some q ≡ slice_get (from_rank term_of t ps) 0 = search rules in
    rw (lt-ltb t (reach_of ps) (reached ps t q c.split_at.ensures.ascends f), step_is ps t q f) refl
