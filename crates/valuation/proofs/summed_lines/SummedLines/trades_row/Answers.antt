use Rattle.account.specs.declared.block_name.BlockName.TheVariants.{Trade as trade}
use Rattle.valuation.proofs.Scopes.{block_few}
use Rattle.valuation.proofs.Worst.{within_more, worse_within, worst_is}
use Rattle.valuation.proofs.summed_lines.SummedLines.trades_row.Goals as goal

pub worse_of-requires : goal.worse_of-requires
worse_of-requires g c =
    let r = c.args.self.now.lines.now in
    let few = block_few r.lines r.few r.isin trade in
    record { a = within_more few c.scenario_row-all.ensures.within; b = within_more few c.scenario_row-without_today.ensures.within }

pub worse_of-requires-2 : goal.worse_of-requires-2
worse_of-requires-2 g c =
    let r = c.args.self.now.lines.now in
    let few = block_few r.lines r.few r.isin trade in
    record {
      a = worse_within c.worse_of.ensures (within_more few c.scenario_row-all.ensures.within) (within_more few c.scenario_row-without_today.ensures.within);
      b = within_more few c.scenario_row-after_next.ensures.within;
    }

pub returns : goal.returns
returns g c =
    let r = c.args.self.now.lines.now in
    record {
      is =
          worst_is (g.B.Basis.setting r.basis.now) r.isin r.lines c.scenario_row-all.ensures.is
          c.scenario_row-without_today.ensures.is c.scenario_row-after_next.ensures.is c.worse_of.ensures c.worse_of-2.ensures;
      within = worse_within c.worse_of-2.ensures (worse_within c.worse_of.ensures c.scenario_row-all.ensures.within c.scenario_row-without_today.ensures.within) c.scenario_row-after_next.ensures.within;
    }
