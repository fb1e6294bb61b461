use Rattle.std.proofs.Common.{drop, ap, ◌∙◌}
use Rattle.account.proofs.Together.{together_kept}
use Rattle.account.proofs.by_isin.ByIsin.lines_of.Goals as goal

pub returns : goal.returns
returns c = λ together.
    let t = c.trailing-first.ensures in
    let l = c.leading.ensures in
    c.from-2.ensures ∙ ap (drop c.trailing-first.result) c.before-3.ensures
    ∙ together_kept c.args.isin c.trailing-first.result c.leading.result c.args.rank c.args.self.now c.before-2.result c.from.result c.before-2.ensures c.from.ensures together t.within t.all t.rest l.all l.rest
