use Rattle.std.proofs.Common.{Ok, length, ap, ◌∙◌, arith}
use Rattle.std.specs.Option.{option_map}
use Rattle.account.specs.declared.scope.Scope.TheVariants.{CashOnlyLines}
use Rattle.valuation.specs.Quotes.{quote_parts}
use Rattle.valuation.proofs.LineQuotes.{quoted, titles_beside, quote_there}
use Rattle.valuation.proofs.Scopes.{lines_cash}
use Rattle.valuation.proofs.isin_lines.IsinLines.quote.Goals as goal

pub returns-then-cash_only-len : goal.returns-then-cash_only-len
returns-then-cash_only-len g c = λ k titled some.
    let r = c.args.self.now in
    let s = g.B.Basis.setting r.basis.now in
    ap (option_map (λ q. Ok (quote_parts q))) c.ok.ensures.value ∙ quote_there s r.isin c.quote_of.result (quoted s r.isin k r.lines titled r.faultless some) c.quote_of.ensures

pub returns-else-cash_only-len : goal.returns-else-cash_only-len
returns-else-cash_only-len g c = λ k titled some.
    let r = c.args.self.now in
    let s = g.B.Basis.setting r.basis.now in
    let sum = c.scope_sums-cash_only.ensures in
    let there = titles_beside r.isin k r.lines titled r.same some in
    let so_many = ap length (lines_cash s r.isin r.lines) in
    let counted = (c.requires CashOnlyLines).lines in
    absurd (omega (arith, there, so_many, counted, ap (λ p. p.lines) sum, c.len.ensures, c.if-cash_only-len.false))
