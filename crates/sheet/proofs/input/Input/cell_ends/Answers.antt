use Rattle.std.proofs.Common.{◌≤◌, length, take, SomeIff, ap, subst, ◌∙◌}
use Rattle.text.specs.Cells.{cells}
use Rattle.text.specs.Ends.{TakesEnds}
use Rattle.sheet.proofs.Front.{in_front}
use Rattle.sheet.proofs.input.Input.cell_ends.Goals as goal

pub returns : goal.returns
returns c =
    let front = in_front c.args.line.now c.self.inside.ahead.now (ap (λ left. take 1 left.lines) c.self.view_is ∙ c.requires) in
    subst (λ line. record { count : SomeIff c.cell_ends.result (length (cells line) ≤ length c.args.room.now) (length (cells line)); room : TakesEnds line c.args.room.now c.cell_ends.new.room }) front c.cell_ends.ensures
