use Rattle.std.proofs.Common.{◌≡◌, ◌+◌, ◌<◌, ◌≤◌, true, Err, List, take, drop, sym, ap, ◌∙◌, subst, arith}
use Rattle.std.specs.List.{AllByRecursion as All}
use Rattle.std.proofs.lemmas.Bool.{leb-true, leb-false}
use Rattle.std.proofs.lemmas.Result.{err_from_is_err_and}
use Rattle.quantities.specs.Ranges.{most_titles}
use Rattle.register.specs.Keys.{Ascends, has_rank}
use Rattle.register.specs.Search.{IsPlace}
use Rattle.account.specs.declared.line.Line.{Line}
use Rattle.account.specs.Lines.{block_name, same_isin, keep, any}
use Rattle.account.specs.Calls.{refused}
use Rattle.account.specs.Answers.{is_well_formed, is_well_dated, titles_of, titles_with}
use Rattle.account.specs.ByIsin.{isin_line_rank, lines_beside, lines_by_isin, FitsKey, StandTogether}
use Rattle.account.proofs.ByIsin.{formed_small, taken_small, by_isin_law, absent}
use Rattle.account.proofs.Formed.{formed_titles}
use Rattle.account.proofs.Ranked.{placed_absent}
use Rattle.account.proofs.Sides.{by_isin_fit, beside_place}
use Rattle.book.specs.Books.{today_of}
use Rattle.book.specs.LineChecks.{block_titles}
use Rattle.book.proofs.Entering.{well_formed, too_many}
use Rattle.book.proofs.OfIsin.{known_beside, titles_by_isin}
use Rattle.book.proofs.book.Book.admit.Goals as goal
use Rattle.book.proofs.book.Book.admit.Goals.{After-lines_of-same_isin, In_ok-check_isin, In_ok-check_date}

module _ (c : After-lines_of-same_isin) where
  rises : Ascends isin_line_rank (lines_by_isin c.args.self.now.lines.records)
  rises = let b = c.args.self.now in (by_isin_law b.lines.records c.by_isin-standing.ensures.ascends (taken_small (today_of b) b.lines.records b.valid)).rises

  listed : Ascends isin_line_rank c.by_isin-standing.result
  listed = subst (Ascends isin_line_rank) (sym c.by_isin-standing.ensures.lines) rises

  together : StandTogether c.args.line.now.isin (take c.rank_of-by_isin.result c.by_isin-standing.result) (drop c.rank_of-by_isin.result c.by_isin-standing.result)
  together =
      let b = c.args.self.now in
      let r = c.rank_of-by_isin.ensures in
      beside_place c.args.line.now c.by_isin-standing.result c.rank_of-by_isin.result r.fits (subst (All FitsKey) (sym c.by_isin-standing.ensures.lines) (by_isin_fit (today_of b) b.lines.records b.valid)) listed (r.parts listed)

  same : c.lines_of-same_isin.result ≡ keep (λ l. same_isin l.isin c.args.line.now.isin) (lines_by_isin c.args.self.now.lines.records)
  same = c.lines_of-same_isin.ensures together ∙ ap (keep (λ l. same_isin l.isin c.args.line.now.isin)) c.by_isin-standing.ensures.lines

  titles : block_titles (block_name c.args.line.now.block) c.lines_of-same_isin.result ≡ titles_of c.args.line.now.isin (block_name c.args.line.now.block) c.args.self.now.lines.records
  titles = titles_by_isin c.args.line.now.isin (block_name c.args.line.now.block) c.args.self.now.lines.records c.lines_of-same_isin.result c.by_isin-standing.ensures.ascends same

pub check_isin-requires : goal.check_isin-requires
check_isin-requires c = λ e.
    let b = c.args.self.now in
    let i = c.args.line.now.isin in
    let beside = λ (ls : List Line). any (λ l. same_isin l.isin i) (lines_beside c.rank_of-by_isin.result ls) ≡ true in
    known_beside (today_of b) i b.lines.records c.rank_of-by_isin.result b.valid b.ascends (subst beside c.by_isin-standing.ensures.lines (sym c.has_beside.ensures ∙ e))

formed : (c : In_ok-check_isin) → is_well_formed c.args.line.now ≡ true
formed c = well_formed c.args.line.now c.in_ok-check_parts.ensures c.in_ok-check_isin.ensures

dated : (c : In_ok-check_date) → is_well_dated (today_of c.args.self.now) c.args.line.now.block ≡ true
dated c = ap (λ day. is_well_dated day c.args.line.now.block) (sym c.today.ensures) ∙ c.in_ok-check_date.ensures

pub check_titles-requires : goal.check_titles-requires
check_titles-requires c =
    let b = c.args.self.now in
    let l = c.args.line.now in
    record {
      standing = subst (λ n. n ≤ most_titles) (sym (titles (goal.at.check_titles-requires c).After-lines_of-same_isin)) (b.titles l.isin (block_name l.block));
      own = formed_titles l (formed (goal.at.check_titles-requires c).In_ok-check_isin);
    }

pub returns-in_err-check_titles : goal.returns-in_err-check_titles
returns-in_err-check_titles c =
    let b = c.args.self.now in
    let l = c.args.line.now in
    let same = titles (goal.at.returns-in_err-check_titles c).After-lines_of-same_isin in
    let p = err_from_is_err_and c.from_residual-in_err-check_titles.result c.from_residual-in_err-check_titles.ensures.1 in
    let h = c.in_err-check_titles.ensures in
    let many : most_titles < titles_with l b.lines.records = subst (λ n. most_titles < n + l.titles) same (leb-false _ _ h.0) in
    rw (p.1, p.2)
    (λ room. ap (λ n. refused n l.reference) h.1
    ∙ too_many (today_of b) room b.lines.records l (formed (goal.at.returns-in_err-check_titles c).In_ok-check_isin) c.in-Err.ensures.place.1.absent (dated (goal.at.returns-in_err-check_titles c).In_ok-check_date) many)

pub returns : goal.returns
returns c =
    let b = c.args.self.now in
    let l = c.args.line.now in
    let s = (goal.at.returns c).After-lines_of-same_isin in
    let form = formed (goal.at.returns c).In_ok-check_isin in
    let e = c.by_isin-standing.ensures.lines in
    let r = c.rank_of-by_isin.ensures in
    let new = c.in-Err.ensures.place.1.absent in (
      record {
        formed = form;
        new = new;
        dated = dated (goal.at.returns c).In_ok-check_date;
        titles = subst (λ n. n + l.titles ≤ most_titles) (titles s) (leb-true _ _ c.in_ok-check_titles.ensures);
      },
      record {
        by_reference = c.in-Err.ensures.place;
        by_isin =
            subst (λ xs. IsPlace isin_line_rank (isin_line_rank l) xs (Err c.rank_of-by_isin.result)) e
            (placed_absent isin_line_rank (isin_line_rank l) c.by_isin-standing.result c.rank_of-by_isin.result (listed s) r.within (r.parts (listed s))
            (ap (has_rank isin_line_rank (isin_line_rank l)) e ∙ absent l b.lines.records (formed_small l form) (taken_small (today_of b) b.lines.records b.valid) new));
      },
    )
