-- A list of calls that is worked through keeps what is promised.
use Rattle.std.proofs.Common.{◌≡◌, ℕ, List, [], ℤ, sym, ap, ◌∙◌, subst, ap₂}
use Rattle.netting.specs.Rules.{Netting}
use Rattle.curve.specs.Curves.{Discounting}
use Rattle.market.specs.Contents.{Quotes}
use Rattle.account.specs.declared.line.Line.{Line}
use Rattle.account.specs.declared.slot.Slot.{Slot}
use Rattle.account.specs.Settings.{Setting}
use Rattle.account.specs.Calls.{Answer, lines_standing_from, lines_standing}
use Rattle.account.specs.Answers.{margin_answer, EachDue}
use Rattle.account.specs.Slots.{events, HoldsLines, HoldsByIsin}
use Rattle.account.specs.History.{HistoryKept, WorkedThrough, JointKept, SameKept}
use Rattle.account.proofs.Answered.{joint_law}
use Rattle.account.proofs.SameLines.{same_lines_law}
use Rattle.account.proofs.History.{history_law}
use Rattle.valuation.specs.Setups.{setting_with}
use Rattle.book.specs.declared.book.Book.{Book}
use Rattle.book.specs.declared.journal.Journal.{Journal}
use Rattle.book.specs.Journals.{events_of, WorksThroughJournal}
use Rattle.book.specs.Books.{lines_of, room_for, market_of, AnswersEachCall}

-- ---- a book without lines that takes the calls, and is then asked its margin
module _ {reach : ℕ} {rate : ℕ → ℤ} {charged : ℕ → ℕ → ℕ} {m : Quotes} {room : ℕ} {book worked : Book} {before after : List Slot} {places : List Line} {by_isin : List ℕ} {last : Answer} where
  pub worked_through : Netting charged → Discounting reach rate → lines_of book ≡ [] → room_for book ≡ room → market_of book ≡ m →
      AnswersEachCall (setting_with reach rate charged (market_of book)) before book after worked → last ≡ margin_answer (setting_with reach rate charged (market_of worked)) (lines_of worked) →
      HoldsLines (lines_of worked) places → HoldsByIsin (lines_of worked) by_isin → WorkedThrough (setting_with reach rate charged m) room before after places by_isin last
  worked_through net rates empty roomy same t e front sorted =
      let s : Setting = setting_with reach rate charged m in
      let es = events after in
      let stand : lines_of worked ≡ lines_standing es = t.leaves ∙ ap (λ ls. lines_standing_from ls es) empty in
      let each : EachDue s room [] es =
      subst (λ ls. EachDue s room ls es) empty
      (subst (λ n. EachDue s n (lines_of book) es) roomy (subst (λ k. EachDue (setting_with reach rate charged k) (room_for book) (lines_of book) es) same t.each)) in
      let due : last ≡ margin_answer s (lines_standing es) = e ∙ ap₂ (λ k ls. margin_answer (setting_with reach rate charged k) ls) (t.frame.market ∙ same) stand in
      record {
        calls = t.calls;
        answers = t.answers;
        kept = subst (HistoryKept s room es) (sym due) (history_law s room es net rates each);
        lines = subst (λ ls. HoldsLines ls places) stand front;
        lines_by_isin = subst (λ ls. HoldsByIsin ls by_isin) stand sorted;
      }

-- ---- journals that are worked through
module _ {s : Setting} {ja jb na nb : Journal} {la lb : Answer} (net : Netting s.charged) (wa : WorksThroughJournal s ja na la) (wb : WorksThroughJournal s jb nb lb) where
  pub joint_kept : {jc nc : Journal} {lc : Answer} → WorksThroughJournal s jc nc lc → JointKept (events_of na) (events_of nb) (events_of nc) la lb lc
  joint_kept wc ma ka mb kb joint ea eb =
      let r = joint_law s _ _ _ ma ka mb kb net joint (sym wa.worked.kept.last_due ∙ ea) (sym wb.worked.kept.last_due ∙ eb) in
      (r.0, r.1, wc.worked.kept.last_due ∙ r.2, r.3)

  pub same_kept : SameKept (events_of na) (events_of nb) la lb
  same_kept m k same = (
    λ e. wb.worked.kept.last_due ∙ same_lines_law s _ _ m k net same (sym wa.worked.kept.last_due ∙ e),
    λ e. wa.worked.kept.last_due ∙ same_lines_law s _ _ m k net (λ x. sym (same x)) (sym wb.worked.kept.last_due ∙ e),
  )
