use Rattle.std.proofs.Common.{take, sym, ap, ◌∙◌}
use Rattle.std.proofs.lemmas.List.{take-map, take_min}
use Rattle.account.specs.ByIsin.{lines_at}
use Rattle.account.proofs.by_isin.ByIsin.before.Goals as goal

pub returns : goal.returns
returns c =
    let ps = c.self.inside.places.now in
    let ls = c.self.inside.lines.now in
    ap (λ qs. lines_at qs ls) (ap (λ n. take n ps) c.min.ensures ∙ take_min c.args.rank ps) ∙ sym (take-map _ c.args.rank ps) ∙ ap (take c.args.rank) c.self.view_is
