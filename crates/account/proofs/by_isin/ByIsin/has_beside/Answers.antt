use Rattle.std.proofs.Common.{◌≡◌, ◌≤◌, true, List, take, drop, length, ap, ◌∙◌, subst, arith}
use Rattle.std.specs.List.{list_all}
use Rattle.std.proofs.lemmas.List.{length-take}
use Rattle.account.specs.declared.line.Line.{Line}
use Rattle.account.specs.Lines.{same_isin, any}
use Rattle.account.specs.ByIsin.{lines_beside, OtherFirst}
use Rattle.account.proofs.Together.{counted_beside}
use Rattle.account.proofs.by_isin.ByIsin.has_beside.Goals as goal

pub returns : goal.returns
returns c =
    let i = c.args.isin in
    let is = λ (l : Line). same_isin l.isin i in
    let two = c.before-beside.result in
    let b = c.leading-2.result in
    let e : two ≡ lines_beside c.args.rank c.args.self.now = c.before-beside.ensures ∙ ap (take 2) (c.from.ensures ∙ ap (λ n. drop n c.args.self.now) c.saturating_sub.ensures) in
    let few : length two ≤ 2 = omega (arith, ap length c.before-beside.ensures, length-take 2 c.from.result) in
    let m = c.leading-2.ensures in
    let l = c.leading.ensures in
    let second = c.from-2.ensures in
    counted_beside i two c.leading.result b few l.within l.all l.rest
    (subst (λ (ls : List Line). b ≤ length ls) second m.within)
    (subst (λ ls. list_all is (take b ls) ≡ true) second m.all)
    (subst (λ ls. OtherFirst i (drop b ls)) second m.rest)
    ∙ ap (any is) e
