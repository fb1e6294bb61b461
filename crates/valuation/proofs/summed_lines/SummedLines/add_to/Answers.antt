use Rattle.std.proofs.Common.{◌∙◌, subst, arith}
use Rattle.account.specs.declared.block_name.BlockName.TheVariants.{Trade as trade, Failed as failed, Held as held, CashOnly as cash_only}
use Rattle.account.specs.Rows.{isin_rows}
use Rattle.valuation.specs.Spaces.{RowsWithin}
use Rattle.valuation.proofs.TallyRows.{tallied_both}
use Rattle.valuation.proofs.Counted.{of_blocks, all_counted}
use Rattle.valuation.proofs.TallySpace.{within_both, space_within}
use Rattle.valuation.proofs.BlockTallies.{count_in, space_of_blocks, each_more, tallied_as, block_within, after_block}
use Rattle.valuation.proofs.summed_lines.SummedLines.add_to.Goals as goal

pub add_if_any-requires : goal.add_if_any-requires
add_if_any-requires g c =
    let r = c.args.self.now.lines.now in
    let ls = r.lines in
    let p = space_of_blocks r.isin r.lines r.same c.requires in
    record { room = space_within p; bounded = each_more (count_in r.isin trade ls) 65535 c.row_if_any.result (omega (arith, p.few)) c.row_if_any.ensures.within }

pub add_if_any-requires-2 : goal.add_if_any-requires-2
add_if_any-requires-2 g c =
    let r = c.args.self.now.lines.now in
    let s = g.B.Basis.setting r.basis.now in
    let ls = r.lines in
    let p = space_of_blocks r.isin r.lines r.same c.requires in
    let q = after_block r.isin trade ls _ s _ p c.row_if_any.ensures.is c.row_if_any.ensures.within c.add_if_any.ensures in
    record { room = space_within q; bounded = each_more (count_in r.isin failed ls) 65535 c.row_if_any-2.result (omega (arith, q.few)) c.row_if_any-2.ensures.within }

pub add_if_any-requires-3 : goal.add_if_any-requires-3
add_if_any-requires-3 g c =
    let r = c.args.self.now.lines.now in
    let s = g.B.Basis.setting r.basis.now in
    let ls = r.lines in
    let p = space_of_blocks r.isin r.lines r.same c.requires in
    let q = after_block r.isin trade ls _ s _ p c.row_if_any.ensures.is c.row_if_any.ensures.within c.add_if_any.ensures in
    let t = after_block r.isin failed ls _ s _ q c.row_if_any-2.ensures.is c.row_if_any-2.ensures.within c.add_if_any-2.ensures in
    record { room = space_within t; bounded = each_more (count_in r.isin held ls) 65535 c.row_if_any-3.result (omega (arith, t.few)) c.row_if_any-3.ensures.within }

pub add_if_any-requires-4 : goal.add_if_any-requires-4
add_if_any-requires-4 g c =
    let r = c.args.self.now.lines.now in
    let s = g.B.Basis.setting r.basis.now in
    let ls = r.lines in
    let p = space_of_blocks r.isin r.lines r.same c.requires in
    let q = after_block r.isin trade ls _ s _ p c.row_if_any.ensures.is c.row_if_any.ensures.within c.add_if_any.ensures in
    let t = after_block r.isin failed ls _ s _ q c.row_if_any-2.ensures.is c.row_if_any-2.ensures.within c.add_if_any-2.ensures in
    let u = after_block r.isin held ls _ s _ t c.row_if_any-3.ensures.is c.row_if_any-3.ensures.within c.add_if_any-3.ensures in
    record { room = space_within u; bounded = each_more (count_in r.isin cash_only ls) 65535 c.row_if_any-4.result (omega (arith, u.few)) c.row_if_any-4.ensures.within }

pub returns : goal.returns
returns g c =
    let r = c.args.self.now.lines.now in
    let s = g.B.Basis.setting r.basis.now in
    let ls = r.lines in
    record {
      tallied =
          tallied_both (tallied_as c.row_if_any.ensures.is c.add_if_any.ensures) (tallied_both (tallied_as c.row_if_any-2.ensures.is c.add_if_any-2.ensures) (tallied_both (tallied_as c.row_if_any-3.ensures.is c.add_if_any-3.ensures) (tallied_as c.row_if_any-4.ensures.is c.add_if_any-4.ensures)));
      within =
          subst (λ n. RowsWithin n (isin_rows s ls r.isin)) (of_blocks r.isin ls ∙ all_counted r.isin r.lines r.same)
          (within_both (block_within r.isin trade ls s _ c.row_if_any.ensures.is c.row_if_any.ensures.within)
          (within_both (block_within r.isin failed ls s _ c.row_if_any-2.ensures.is c.row_if_any-2.ensures.within)
          (within_both (block_within r.isin held ls s _ c.row_if_any-3.ensures.is c.row_if_any-3.ensures.within)
          (block_within r.isin cash_only ls s _ c.row_if_any-4.ensures.is c.row_if_any-4.ensures.within))));
    }
