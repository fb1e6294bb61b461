use Rattle.std.proofs.Common.{◌≡◌, ◌≤◌, true, List, sym, refl, subst, arith}
use Rattle.quantities.specs.Ranges.{most_titles}
use Rattle.account.specs.declared.line.Line.{Line}
use Rattle.account.specs.Answers.{titles_of}
use Rattle.account.specs.Valid.{all_valid}
use Rattle.account.proofs.ByIsin.{taken_small}
use Rattle.book.specs.Books.{today_of}
use Rattle.book.proofs.Withdrawing.{withdraw_answers, withdraw_line, withdraw_leaves}
use Rattle.book.proofs.ValidLines.{taken_without, titles_without}
use Rattle.book.proofs.book.Book.withdraw.Goals as goal

pub remove-requires : goal.remove-requires
remove-requires c = let b = c.args.self.now in taken_small (today_of b) b.lines.records b.valid

pub invariant_of-self : goal.invariant_of-self
invariant_of-self c =
    let b = c.args.self.now in
    let r = c.args.reference in
    let o = c.remove.ensures.change in
    record {
      ascends = o.ascends;
      valid = subst (λ (ms : List Line). all_valid (today_of b) ms ≡ true) (sym o.leaves) (taken_without (today_of b) r b.lines.records b.valid);
      titles = λ i k. subst (λ (ms : List Line). titles_of i k ms ≤ most_titles) (sym o.leaves) (omega (arith, titles_without i k r b.lines.records, b.titles i k));
    }

pub returns : goal.returns
returns c =
    let ls = c.args.self.now.lines.records in
    let r = c.args.reference in
    let o = c.remove.ensures.change in
    record {
      answers = withdraw_answers r ls _ c.remove.result c.if-reference-eq0.false o;
      line = withdraw_line r ls _ c.remove.result c.if-reference-eq0.false o;
      leaves = withdraw_leaves r ls _ c.remove.result c.if-reference-eq0.false o;
      frame = record { market = refl; room = c.remove.ensures.room; memory = c.remove.ensures.memory };
    }
