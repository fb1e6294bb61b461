use Rattle.account.specs.Lines.{same_isin}
use Rattle.valuation.proofs.IsinSums.{before_next, before_room, before_end}
use Rattle.valuation.proofs.LineLoops.{first_among, next_among}
use Rattle.valuation.proofs.LineFacts.{all_among, few_titles_among, workable_among}
use Rattle.valuation.proofs.isin_lines.IsinLines.sums.Goals as goal

pub cash_of-cash-requires : goal.cash_of-cash-requires
cash_of-cash-requires g c =
    let r = c.args.self.now in
    workable_among (g.B.Basis.setting r.basis.now) r.lines r.taken r.faultless _ (first_among r.lines c.in-Some.ensures.steps c.loop-line.invariant.among)

pub add-requires-clause-room : goal.add-requires-clause-room
add-requires-clause-room g c = λ scope.
    let r = c.args.self.now in
    before_room (g.B.Basis.setting r.basis.now) r.isin scope r.lines r.few (c.loop-line.invariant.sums scope)

pub loop-line-preserved : goal.loop-line-preserved
loop-line-preserved g c =
    let r = c.args.self.now in
    let s = g.B.Basis.setting r.basis.now in
    let next = c.in-Some.ensures.steps in
    let i = c.loop-line.invariant in
    let among = first_among r.lines next i.among in
    record {
      among = next_among r.lines next i.among;
      sums = λ scope. before_next s r.isin scope r.lines next (all_among (λ l. same_isin l.isin r.isin) r.lines r.same _ among) (few_titles_among s.today r.lines r.taken _ among) c.cash_of-cash.ensures.is c.cash_of-cash.ensures.high (c.add.ensures scope) (i.sums scope);
    }

pub returns : goal.returns
returns g c = λ scope.
    let r = c.args.self.now in
    before_end (g.B.Basis.setting r.basis.now) r.isin scope r.lines c.in-None.ensures.steps.0 (c.loop-line.invariant.sums scope)
