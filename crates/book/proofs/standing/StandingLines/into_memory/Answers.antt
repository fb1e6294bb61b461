use Rattle.std.proofs.Common.{take, ap, ap₂, sym, ◌∙◌, subst}
use Rattle.account.specs.ByIsin.{lines_at}
use Rattle.account.specs.Slots.{HoldsLines, HoldsByIsin}
use Rattle.book.specs.Standing.{LinesInMemory}
use Rattle.book.proofs.BothOrders.{as_long}
use Rattle.book.proofs.standing.StandingLines.into_memory.Goals as goal

pub returns : goal.returns
returns c =
    let t = c.self.inside.by_reference in
    let order = c.self.inside.by_isin in
    let memory = c.into_memory-2.result.now in
    let sorted : HoldsByIsin t.records memory =
    ap (λ n. lines_at (take n memory) t.records) (sym (as_long t order c.self.invariant))
    ∙ ap (λ ps. lines_at ps t.records) c.into_memory-2.ensures.front
    ∙ c.self.invariant.same_lines in
    record {
      same = ap₂ (λ a b. (a, b)) c.into_memory.ensures.same c.into_memory-2.ensures.same ∙ ap (λ (s : LinesInMemory). s.memory) c.self.view_is;
      lines = subst (λ (s : LinesInMemory). HoldsLines s.records c.into_memory.result.now) c.self.view_is c.into_memory.ensures.front;
      by_isin = subst (λ (s : LinesInMemory). HoldsByIsin s.records memory) c.self.view_is sorted;
    }
