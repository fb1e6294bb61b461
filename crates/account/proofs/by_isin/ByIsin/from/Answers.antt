use Rattle.std.proofs.Common.{drop, sym, ap, ◌∙◌, arith, length-drop}
use Rattle.std.proofs.lemmas.List.{drop-map, drop_min, take_all}
use Rattle.account.specs.ByIsin.{lines_at}
use Rattle.account.proofs.by_isin.ByIsin.from.Goals as goal

pub returns : goal.returns
returns c =
    let ps = c.self.inside.places.now in
    let ls = c.self.inside.lines.now in
    ap (λ qs. lines_at qs ls) (take_all _ (drop c.min.result ps) (omega (arith, length-drop c.min.result ps)) ∙ ap (λ n. drop n ps) c.min.ensures ∙ drop_min c.args.rank ps)
    ∙ sym (drop-map _ c.args.rank ps) ∙ ap (drop c.args.rank) c.self.view_is
