-- Rows that are all kept are right.
use Rattle.std.proofs.Common.{◌≡◌, ℕ, ◌+◌, ◌≤◌, ◌<◌, true, false, ltb, List, [], ◌∷◌, length, Ok, ap, ◌∙◌, subst, arith}
use Rattle.std.proofs.lemmas.Bool.{ltb-true}
use Rattle.std.specs.List.{AllByRecursion as All}
use Rattle.quantities.specs.declared.isin.Isin.{Isin}
use Rattle.register.specs.Keys.{has_rank, inserted_by}
use Rattle.register.specs.Contents.{Table}
use Rattle.curve.specs.declared.point.Point.{Point}
use Rattle.curve.specs.Points.{point_rank}
use Rattle.market.specs.Contents.{Quotes}
use Rattle.market.specs.Records.{price_rank, percentage_rank}
use Rattle.market.specs.declared.price.Price.{Price}
use Rattle.account.specs.declared.line.Line.{Line}
use Rattle.account.specs.declared.block_name.BlockName.{BlockName}
use Rattle.account.specs.Calls.{line_rank}
use Rattle.account.specs.Answers.{titles_of}
use Rattle.account.proofs.Sorted.{inserted_long}
use Rattle.book.proofs.ValidLines.{titles_first, titles_inserted, titles_admitted}
use Rattle.account.specs.Checks.{IsInItsDays}
use Rattle.run.specs.KeptSheets.{Keeping}
use Rattle.run.specs.Kept.{keep_percentage, keep_price, keep_point, DayLines, keep_line}
use Rattle.run.proofs.Tests.{dated}
use Rattle.run.proofs.RecordsOfRows.{PutsNew}
use Rattle.run.proofs.RecordsBy.{Distinct, AreNew, still_apart}
use Rattle.run.proofs.RowKinds.{record_kept, line_kept}
use Rattle.run.proofs.Sheets.{KeptAll}

-- ---- records that are put in one after another
module _ {X S : Type 0} (keeping : Keeping X S) (rank : X → ℕ) (held : S → List X) where
  all_new : PutsNew rank keeping held → (s t : S) (xs : List X) → KeptAll keeping s xs t → AreNew rank (held s) xs × Distinct rank xs
  all_new puts s t [] k = (tt, tt)
  all_new puts s t (x ∷ xs) k =
      let p = puts s k.0 x k.1.0 in
      let r = all_new puts k.0 t xs k.1.1 in
      let a = still_apart rank x (held s) xs (subst (λ ys. AreNew rank ys xs) p.1 r.0) in
      ((p.0, a.1), (a.0, r.1))

  pub all_distinct : PutsNew rank keeping held → (s t : S) (xs : List X) → KeptAll keeping s xs t → Distinct rank xs
  all_distinct puts s t xs k = (all_new puts s t xs k).1

  -- what is kept had a free place
  abbrev pub Fills : (S → ℕ) → Type 0
  Fills room = (s : S) (x : X) (u : S) → keeping s x ≡ Ok u → (length (held s) < room s) × (room u ≡ room s)

  pub few_kept : (room : S → ℕ) → PutsNew rank keeping held → Fills room → (s t : S) (xs : List X) → length (held s) ≤ room s → KeptAll keeping s xs t → length (held s) + length xs ≤ room s
  few_kept room puts fills s t [] l k = omega arith
  few_kept room puts fills s t (x ∷ xs) l k =
      let longer = ap length (puts s k.0 x k.1.0).1 ∙ inserted_long rank x (held s) in
      let f = fills s x k.0 k.1.0 in
      let free = f.0 in
      let same = f.1 in
      let rest = few_kept room puts fills k.0 t xs (omega (arith, longer, free, same)) k.1.1 in
      omega (arith, longer, same, rest)

price_kept : (s : Quotes) (p : Price) (u : Quotes) → keep_price s p ≡ Ok u → (has_rank price_rank (price_rank p) s.prices ≡ false) × ((ltb (length s.prices) s.room ≡ true) × (u ≡ record s { prices = inserted_by price_rank p s.prices }))
price_kept s p u e = record_kept price_rank (λ ps. record s { prices = ps }) _ p s.prices u e

point_kept : (s : Table Point) (p : Point) (u : Table Point) → keep_point s p ≡ Ok u → (has_rank point_rank (point_rank p) s.records ≡ false) × ((ltb (length s.records) s.room ≡ true) × (u ≡ record s { records = inserted_by point_rank p s.records }))
point_kept s p u e = record_kept point_rank (λ ps. record s { records = ps }) _ p s.records u e

pub price_puts : PutsNew price_rank keep_price (λ q. q.prices)
price_puts s u p e = let k = price_kept s p u e in (k.0, ap (λ (q : Quotes). q.prices) k.1.1)

pub price_fills : Fills keep_price price_rank (λ q. q.prices) (λ q. q.room)
price_fills s p u e = let k = price_kept s p u e in (ltb-true _ _ k.1.0, ap (λ (q : Quotes). q.room) k.1.1)

pub point_puts : PutsNew point_rank keep_point (λ h. h.records)
point_puts s u p e = let k = point_kept s p u e in (k.0, ap (λ (h : Table Point). h.records) k.1.1)

pub point_fills : Fills keep_point point_rank (λ h. h.records) (λ h. h.room)
point_fills s p u e = let k = point_kept s p u e in (ltb-true _ _ k.1.0, ap (λ (h : Table Point). h.room) k.1.1)

pub percentage_puts : PutsNew percentage_rank keep_percentage (λ q. q.percentages)
percentage_puts s u p e =
    let k = record_kept percentage_rank (λ ps. record s { percentages = ps }) true p s.percentages u e in
    (k.0, ap (λ (q : Quotes). q.percentages) k.1.1)

-- ---- lines that are entered one after another
pub line_puts : PutsNew line_rank keep_line (λ h. h.standing)
line_puts h u l e = let k = line_kept h l u e in (k.new, ap (λ (g : DayLines). g.standing) k.put_in)

pub line_fills : Fills keep_line line_rank (λ h. h.standing) (λ h. h.room)
line_fills h l u e = let k = line_kept h l u e in (k.room_left, ap (λ (g : DayLines). g.room) k.put_in)

pub lines_dated : (h t : DayLines) (ls : List Line) → KeptAll keep_line h ls t → All (λ l. IsInItsDays h.today l.block) ls
lines_dated h t [] k = tt
lines_dated h t (l ∷ ls) k =
    let p = line_kept h l k.0 k.1.0 in
    (dated h.today l.block p.dated, lines_dated (record h { standing = inserted_by line_rank l h.standing }) t ls (subst (λ u. KeptAll keep_line u ls t) p.put_in k.1.1))

pub few_titles : (h t : DayLines) (ls : List Line) (i : Isin) (k : BlockName) → titles_of i k h.standing ≤ 2000000 → KeptAll keep_line h ls t → titles_of i k h.standing + titles_of i k ls ≤ 2000000
few_titles h t [] i k m kept = omega arith
few_titles h t (l ∷ ls) i k m kept =
    let a = line_kept h l kept.0 kept.1.0 in
    let u : DayLines = record h { standing = inserted_by line_rank l h.standing } in
    let within = titles_admitted h.today l h.standing (record { formed = a.formed; new = a.new; dated = a.dated; titles = a.titles }) i k m in
    let rest = few_titles u t ls i k within (subst (λ g. KeptAll keep_line g ls t) a.put_in kept.1.1) in
    omega (arith, rest, titles_inserted i k l h.standing, titles_first i k l ls)
