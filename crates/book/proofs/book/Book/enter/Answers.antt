use Rattle.std.proofs.Common.{refl}
use Rattle.book.specs.Books.{today_of, room_for}
use Rattle.account.proofs.ByIsin.{formed_small, taken_small}
use Rattle.book.proofs.Entering.{enter_answers, enter_leaves}
use Rattle.book.proofs.ValidLines.{insert_taken, insert_titles}
use Rattle.book.proofs.book.Book.enter.Goals as goal

pub insert-requires : goal.insert-requires
insert-requires c =
    let b = c.args.self.now in
    let a = c.in_ok-places.ensures in
    record { places = a.1; small = taken_small (today_of b) b.lines.records b.valid; own = formed_small c.args.line a.0.formed }

pub invariant_of-self : goal.invariant_of-self
invariant_of-self c =
    let b = c.args.self.now in
    let a = c.in_ok-places.ensures.0 in
    let i = c.insert.ensures.change in
    record {
      ascends = i.ascends;
      valid = insert_taken (today_of b) (room_for b) c.args.line b.lines.records _ a i.leaves b.valid;
      titles = insert_titles (today_of b) (room_for b) c.args.line b.lines.records _ a i.leaves b.titles;
    }

pub returns : goal.returns
returns c =
    let b = c.args.self.now in
    let a = c.in_ok-places.ensures.0 in
    let i = c.insert.ensures.change in
    record {
      answers = enter_answers (today_of b) (room_for b) c.args.line b.lines.records _ c.insert.result a i;
      leaves = enter_leaves (today_of b) (room_for b) c.args.line b.lines.records _ c.insert.result a i;
      frame = record { market = refl; room = c.insert.ensures.room; memory = c.insert.ensures.memory };
    }
