-- What passes a test, in words.
use Rattle.std.proofs.Common.{◌≡◌, ℕ, suc, true, eqb, List, [], ◌∷◌, length, refl, ap, arith}
use Rattle.std.proofs.lemmas.Bool.{and_parts, and_from, eqb-true, eq-eqb, leb-true, le-leb}
use Rattle.market.specs.Days.{is_next_day}
use Rattle.account.specs.declared.block.Block.{Block}
use Rattle.account.specs.declared.block.Block.TheVariants.{Trade, Failed, Held, CashOnly}
use Rattle.account.specs.Answers.{is_well_dated}
use Rattle.rows.specs.declared.day.DayRow.{DayRow}
use Rattle.sheet.specs.Sheets.{Rest}
use Rattle.run.specs.Accepted.{IsNextDay}
use Rattle.account.specs.Checks.{IsInItsDays}
use Rattle.run.specs.Laws.{NothingStands}
use Rattle.run.specs.Runs.{nothing_left}

pub next_day : (d : DayRow) → is_next_day d.today d.next ≡ true → IsNextDay d
next_day d h = let p = and_parts _ _ h in (leb-true _ _ p.0, leb-true _ _ p.1)

pub next_passes : (d : DayRow) → IsNextDay d → is_next_day d.today d.next ≡ true
next_passes d h = and_from _ _ (le-leb _ _ h.0) (le-leb _ _ h.1)

pub dated : (today : ℕ) (b : Block) → is_well_dated today b ≡ true → IsInItsDays today b
dated today (Trade d) h = let p = and_parts _ _ h in (leb-true _ _ p.0, leb-true _ _ p.1)
dated today (Failed d) h = leb-true _ _ h
dated today (Held d) h = leb-true _ _ h
dated today (CashOnly d) h = leb-true _ _ h

pub date_passes : (today : ℕ) (b : Block) → IsInItsDays today b → is_well_dated today b ≡ true
date_passes today (Trade d) h = and_from _ _ (le-leb _ _ h.0) (le-leb _ _ h.1)
date_passes today (Failed d) h = le-leb _ _ h
date_passes today (Held d) h = le-leb _ _ h
date_passes today (CashOnly d) h = le-leb _ _ h

none_of : {X : Type 0} (xs : List X) → eqb (length xs) 0 ≡ true → xs ≡ []
none_of [] e = refl
none_of (x ∷ xs) e = absurd (omega (arith, eqb-true (suc (length xs)) 0 e))

pub nothing_stands : (left : Rest) → nothing_left left ≡ true → NothingStands left
nothing_stands left e = let p = and_parts (eqb (length left.lines) 0) (eqb (length left.loose) 0) e in (none_of left.lines p.0, none_of left.loose p.1)

pub nothing_passes : (left : Rest) → NothingStands left → nothing_left left ≡ true
nothing_passes left n = and_from _ _ (eq-eqb (length left.lines) 0 (ap length n.0)) (eq-eqb (length left.loose) 0 (ap length n.1))
