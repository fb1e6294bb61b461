use Rattle.std.proofs.Common.{sym, subst}
use Rattle.valuation.proofs.TallySpace.{space_within}
use Rattle.valuation.proofs.RowsByIsin.{AwaitsRows, Run, run_of, awaits_all, run_workable, run_space, awaits_rest, rest_shorter, awaits_none}
use Rattle.valuation.proofs.ready_lines.ReadyLines.add_rows.Given.{Over}
use Rattle.valuation.proofs.ready_lines.ReadyLines.add_rows.Goals as goal
use Rattle.valuation.proofs.ready_lines.ReadyLines.add_rows.Goals.{After-split_isin-lines}

run : (g : Over) (c : After-split_isin-lines g) → Run c.in-Some.first.now.isin c.loop-first.rest c.split_isin-lines.result.0 c.split_isin-lines.result.1
run g c = run_of c.in-Some.first.now c.loop-first.rest c.split_isin-lines.result.0 c.split_isin-lines.result.1 c.in-Some.ensures c.split_isin-lines.ensures.both c.split_isin-lines.ensures.run c.split_isin-lines.ensures.rest

pub loop-first-init : goal.loop-first-init
loop-first-init g c =
    let r = c.args.self.now in
    let s = g.B.Basis.setting r.basis.now in
    subst (λ xs. AwaitsRows s r.lines.now c.args.tally.now xs c.args.tally.now) (sym c.iter-rest.ensures)
    (awaits_all r.lines.now (record { few = r.few; taken = r.taken; titles = r.titles; faultless = r.faultless; rising = r.rising }) c.requires)

pub invariant_of-run : goal.invariant_of-run
invariant_of-run g c =
    let w = run_workable (run g (goal.at.invariant_of-run g c).After-split_isin-lines) c.loop-first.invariant in
    record { few = w.few; taken = w.taken; titles = w.titles; faultless = w.faultless; same = c.split_isin-lines.ensures.run }

pub add_to-requires : goal.add_to-requires
add_to-requires g c = run_space (run g (goal.at.add_to-requires g c).After-split_isin-lines) c.loop-first.invariant

pub loop-first-smaller : goal.loop-first-smaller
loop-first-smaller g c = rest_shorter (run g (goal.at.loop-first-smaller g c).After-split_isin-lines) c.loop-first.invariant

pub loop-first-preserved : goal.loop-first-preserved
loop-first-preserved g c = awaits_rest (run g (goal.at.loop-first-preserved g c).After-split_isin-lines) c.loop-first.invariant c.add_to.ensures.tallied c.add_to.ensures.within

pub returns : goal.returns
returns g c = record { tallied = awaits_none c.loop-first.rest c.in_default.ensures c.loop-first.invariant; within = space_within c.loop-first.invariant.space }
