use Rattle.std.proofs.Common.{◌≡◌, ap, ◌∙◌}
use Rattle.register.specs.Contents.{Loan, loan_of}
use Rattle.book.proofs.Promise.{worked_through}
use Rattle.book.proofs.journal.Journal.worked.Goals as goal

pub returns : goal.returns
returns g c =
    let t = c.args.setup.now in
    let j = c.args.self in
    let new = c.new-book.ensures in
    let back = c.into_memory-places.ensures in
    let same : (loan_of c.into_memory-places.result.0, loan_of c.into_memory-places.result.1) ≡ (loan_of j.places, loan_of j.by_isin) = back.same ∙ c.take_all.ensures.frame.memory ∙ new.memory in
    record {
      worked = worked_through (g.met.N.NettingRule.nets t.rule.now) (g.met.C.Curve.discounting t.curve.now) new.empty new.room new.market c.take_all.ensures c.margin-margin.ensures back.lines back.lines_by_isin;
      slots = ap (λ n. record { name = j.slots.ghost_name; places = n }) c.take_all.auto.slots;
      places = ap (λ (p : Loan × Loan). p.0) same;
      by_isin = ap (λ (p : Loan × Loan). p.1) same;
    }
