use Rattle.std.proofs.Common.{◌≡◌, ◌+◌, ◌-◌, ◌/◌, ◌<◌, ◌≤◌, get_or, sym, ap, ◌∙◌, arith}
use Rattle.std.proofs.lemmas.Bool.{ltb-true, ltb-false}
use Rattle.std.proofs.lemmas.List.{get_or_default}
use Rattle.register.proofs.Compared.{lower}
use Rattle.account.specs.declared.line.Line.{Line}
use Rattle.account.specs.ByIsin.{isin_line_rank, reference_rank, no_line}
use Rattle.account.proofs.Ranked.{searched_up, searched_down, searched_all}
use Rattle.account.proofs.by_isin.ByIsin.rank_of.Goals as goal
use Rattle.account.proofs.by_isin.ByIsin.rank_of.Goals.{After-is_lt}

module _ (c : After-is_lt) where
  here : (d : Line) → isin_line_rank (get_or c.args.self.now (c.loop-low.low + (c.loop-low.high - c.loop-low.low) / 2) d) ≡ reference_rank c.of_line.result
  here d = ap isin_line_rank (get_or_default c.args.self.now _ d no_line (omega arith) ∙ sym c.line.ensures) ∙ sym c.of_line.ensures.rank

pub loop-low-preserved-then-is_lt : goal.loop-low-preserved-then-is_lt
loop-low-preserved-then-is_lt c =
    let s = (goal.at.loop-low-preserved-then-is_lt c).After-is_lt in
    let l : reference_rank c.of_line.result < reference_rank c.of_line-key.result = ltb-true _ _ (sym (lower reference_rank c.of_line.result c.of_line-key.result c.order.result c.order.ensures) ∙ sym c.is_lt.ensures ∙ c.if-is_lt.true) in
    searched_up isin_line_rank (isin_line_rank c.args.line.now) c.args.self.now c.loop-low.low c.loop-low.high _ c.loop-low.invariant (omega arith) (omega arith)
    (λ d. let h = here s d in omega (arith, h, l, c.of_line-key.ensures.rank))

pub loop-low-preserved : goal.loop-low-preserved
loop-low-preserved c =
    let s = (goal.at.loop-low-preserved c).After-is_lt in
    let l : reference_rank c.of_line-key.result ≤ reference_rank c.of_line.result = ltb-false _ _ (sym (lower reference_rank c.of_line.result c.of_line-key.result c.order.result c.order.ensures) ∙ sym c.is_lt.ensures ∙ c.if-is_lt.false) in
    searched_down isin_line_rank (isin_line_rank c.args.line.now) c.args.self.now c.loop-low.low c.loop-low.high _ c.loop-low.invariant (omega arith) (omega arith)
    (λ d. let h = here s d in omega (arith, h, l, c.of_line-key.ensures.rank))

pub returns-clause-parts : goal.returns-clause-parts
returns-clause-parts c = searched_all isin_line_rank (isin_line_rank c.args.line.now) c.args.self.now c.loop-low.low c.loop-low.high c.loop-low-test.false c.loop-low.invariant
