use Rattle.std.proofs.Common.{ap, ◌∙◌, get_or, []}
use Rattle.quantities.proofs.Weights.{tables, weight_tabled}
use Rattle.quantities.proofs.isin.weight.Goals as goal

pub returns-clause-is : goal.returns-clause-is
returns-clause-is c =
    let t = c.args.doubled in
    c.from-3.ensures
    ∙ (ap (λ i. get_or (get_or tables c.from.result []) i 0) c.from-2.ensures
    ∙ weight_tabled t c.from.result c.args.byte (λ e. rw e at c.from.ensures) (λ e. rw e at c.from.ensures) c.requires)
