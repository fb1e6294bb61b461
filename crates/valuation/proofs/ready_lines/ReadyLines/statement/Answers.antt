use Rattle.std.proofs.Common.{◌∙◌, arith, rules}
use Rattle.valuation.proofs.Margins.{cents_are, amounts_are, count_is, places_are}
use Rattle.valuation.proofs.ready_lines.ReadyLines.statement.Goals as goal

pub returns : goal.returns
returns g c =
    let s = g.B.Basis.setting c.args.self.now.basis.now in
    let none = c.new-tally.ensures.none in
    let all = c.add_rows.ensures.tallied in
    let lent = all.lent ∙ c.new-tally.ensures.lender in
    let placed = places_are none all in
    record {
      cents = c.total.ensures.cents ∙ cents_are none all;
      rounded = omega (arith, c.total.ensures.rounded, c.trades_in.ensures.is, amounts_are s c.args.self.now.lines.now none all);
      count = count_is none all;
      places = search rules;
    }
