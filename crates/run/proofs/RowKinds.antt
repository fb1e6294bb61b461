-- What is kept of the rows of each kind, and with which numbers a row is turned away.
use Rattle.std.proofs.Common.{◌≡◌, ℕ, ◌≤◌, ◌<◌, Bool, true, false, cond, not, ltb, List, [], ◌∷◌, length, Option, Some, Ok, Err, Result, sym, refl, ap, ◌∙◌, arith}
use Rattle.std.proofs.lemmas.Bool.{and_parts, false≢true, ltb-true, ltb-false}
use Rattle.quantities.specs.declared.refusal.Refusal.TheVariants.{KeyPresent, Full}
use Rattle.quantities.specs.Ranges.{most_titles}
use Rattle.register.specs.Keys.{has_rank, inserted_by}
use Rattle.register.specs.Contents.{Table}
use Rattle.register.specs.Changes.{put}
use Rattle.curve.specs.declared.point.Point.{Point}
use Rattle.curve.specs.Points.{point_rank}
use Rattle.market.specs.Contents.{Quotes}
use Rattle.market.specs.Days.{is_next_day}
use Rattle.market.specs.Records.{price_rank, percentage_rank}
use Rattle.market.specs.declared.price.Price.{Price}
use Rattle.market.specs.declared.percentage.Percentage.{Percentage}
use Rattle.account.specs.declared.line.Line.{Line}
use Rattle.account.specs.Calls.{Answer, accepted, refused, line_rank}
use Rattle.account.specs.Answers.{is_well_formed, is_well_dated, titles_with, enter_answer}
use Rattle.rows.specs.declared.day.DayRow.{DayRow}
use Rattle.rows.specs.Days.{days, day_in_range}
use Rattle.rows.specs.Percentages.{percentages, percentage_in_range}
use Rattle.rows.specs.Points.{points, point_in_range}
use Rattle.rows.specs.Prices.{prices, price_in_range}
use Rattle.rows.specs.Positions.{positions, line_in_range}
use Rattle.rows.proofs.Rows.{days_law, percentages_law, points_law, prices_law, positions_law}
use Rattle.run.specs.Refusals.{RowRefusal}
use Rattle.run.specs.KeptSheets.{Keeping}
use Rattle.run.specs.Kept.{kept_table, kept_day, keep_day, keep_percentage, keep_price, keep_point, DayLines, kept_line, keep_line}
use Rattle.run.specs.Laws.{records_with}
use Rattle.run.proofs.Sheets.{Ranged, KeptAll}

pub days_known : Ranged days day_in_range
days_known = record { fitting = λ cell h. (days_law.read cell h).1; judged = λ cell. refl }

pub percentages_known : Ranged percentages percentage_in_range
percentages_known = record { fitting = λ cell h. (percentages_law.read cell h).1; judged = λ cell. refl }

pub points_known : Ranged points point_in_range
points_known = record { fitting = λ cell h. (points_law.read cell h).1; judged = λ cell. refl }

pub prices_known : Ranged prices price_in_range
prices_known = record { fitting = λ cell h. (prices_law.read cell h).1; judged = λ cell. refl }

pub positions_known : Ranged positions line_in_range
positions_known = record { fitting = λ cell h. (positions_law.read cell h).1; judged = λ cell. refl }

-- ---- a row is turned away with one of the numbers of the book, and by its reference
abbrev pub Numbered : ℕ → RowRefusal → Type 0
Numbered r d = (6 ≤ d.number) × ((d.number ≤ 9) × (d.reference ≡ r))

turned_by : {S : Type 0} (n r : ℕ) (d : RowRefusal) → 6 ≤ n → n ≤ 9 → ◌≡◌ {A = Result S RowRefusal} (Err (record { number = n; reference = r })) (Err d) → Numbered r d
turned_by n r d h k e =
    let s : record { number = n; reference = r } ≡ d = cc in
    let m : n ≡ d.number = ap (λ (t : RowRefusal). t.number) s in
    (omega arith, (omega arith, ap (λ (t : RowRefusal). t.reference) (sym s)))

pub day_turned : (before : Option DayRow) (r : DayRow) (d : RowRefusal) → day_in_range r ≡ true → keep_day before r ≡ Err d → Numbered 0 d
day_turned before r d h e = go (is_next_day r.today r.next) e
  where
    go : (b : Bool) → kept_day r (cond b (Ok (r.today, r.next)) (Err 7)) ≡ Err d → Numbered 0 d
    go true e = cc
    go false e = turned_by 7 0 d (omega arith) (omega arith) e

pub day_kept : (before : Option DayRow) (r : DayRow) (u : Option DayRow) → keep_day before r ≡ Ok u → (is_next_day r.today r.next ≡ true) × (u ≡ Some r)
day_kept before r u e = go (is_next_day r.today r.next) e
  where
    go : (b : Bool) → kept_day r (cond b (Ok (r.today, r.next)) (Err 7)) ≡ Ok u → (b ≡ true) × (u ≡ Some r)
    go true e = (refl, cc)
    go false e = cc

-- a record is put in
module _ {X S : Type 0} (rank : X → ℕ) (keep : List X → S) (free : Bool) (x : X) (before : List X) where
  abbrev Put : Bool → Bool → Result S RowRefusal
  Put present free = kept_table keep (cond present (Err KeyPresent) (cond free (Ok (inserted_by rank x before)) (Err Full)))

  -- one that is kept has a new key and a free place
  pub record_kept : (t : S) → kept_table keep (put rank free x before) ≡ Ok t → (has_rank rank (rank x) before ≡ false) × ((free ≡ true) × (t ≡ keep (inserted_by rank x before)))
  record_kept t e = go (has_rank rank (rank x) before) free e
    where
      go : (p f : Bool) → Put p f ≡ Ok t → (p ≡ false) × ((f ≡ true) × (t ≡ keep (inserted_by rank x before)))
      go true f e = cc
      go false true e = (refl, (refl, cc))
      go false false e = cc

  record_turned : (d : RowRefusal) → kept_table keep (put rank free x before) ≡ Err d → Numbered 0 d
  record_turned d e = go (has_rank rank (rank x) before) free e
    where
      go : (p f : Bool) → Put p f ≡ Err d → Numbered 0 d
      go true f e = turned_by 6 0 d (omega arith) (omega arith) e
      go false true e = cc
      go false false e = turned_by 9 0 d (omega arith) (omega arith) e

-- records are put in, one after another, into what s holds
module _ {X S : Type 0} (rank : X → ℕ) (free : S → Bool) (held : S → List X) (with_held : S → List X → S) where
  abbrev Keeper : Keeping X S
  Keeper s x = kept_table (with_held s) (put rank (free s) x (held s))

  records_kept : ((s : S) → s ≡ with_held s (held s)) →
      ((s : S) (ys xs : List X) → with_held (with_held s ys) (records_with rank (held (with_held s ys)) xs) ≡ with_held s (records_with rank ys xs)) →
      (s t : S) (xs : List X) → KeptAll Keeper s xs t → t ≡ with_held s (records_with rank (held s) xs)
  records_kept whole over s t [] k = sym k ∙ whole s
  records_kept whole over s t (x ∷ xs) k =
      let first = (record_kept rank (with_held s) (free s) x (held s) k.0 k.1.0).1.1 in
      records_kept whole over k.0 t xs k.1.1 ∙ (ap (λ u. with_held u (records_with rank (held u) xs)) first ∙ over s (inserted_by rank x (held s)) xs)

pub prices_kept : (s t : Quotes) (ps : List Price) → KeptAll keep_price s ps t → t ≡ record s { prices = records_with price_rank s.prices ps }
prices_kept = records_kept price_rank (λ s. ltb (length s.prices) s.room) (λ s. s.prices) (λ s ps. record s { prices = ps }) (λ s. refl) (λ s ys xs. refl)

pub price_turned : (s : Quotes) (p : Price) (d : RowRefusal) → price_in_range p ≡ true → keep_price s p ≡ Err d → Numbered 0 d
price_turned s p d h e = record_turned price_rank (λ ps. record s { prices = ps }) (ltb (length s.prices) s.room) p s.prices d e

pub percentages_kept : (s t : Quotes) (ps : List Percentage) → KeptAll keep_percentage s ps t → t ≡ record s { percentages = records_with percentage_rank s.percentages ps }
percentages_kept = records_kept percentage_rank (λ s. true) (λ s. s.percentages) (λ s ps. record s { percentages = ps }) (λ s. refl) (λ s ys xs. refl)

pub percentage_turned : (s : Quotes) (p : Percentage) (d : RowRefusal) → percentage_in_range p ≡ true → keep_percentage s p ≡ Err d → Numbered 0 d
percentage_turned s p d h e = record_turned percentage_rank (λ ps. record s { percentages = ps }) true p s.percentages d e

pub points_kept : (s t : Table Point) (ps : List Point) → KeptAll keep_point s ps t → t ≡ record s { records = records_with point_rank s.records ps }
points_kept = records_kept point_rank (λ s. ltb (length s.records) s.room) (λ s. s.records) (λ s ps. record s { records = ps }) (λ s. refl) (λ s ys xs. refl)

pub point_turned : (s : Table Point) (p : Point) (d : RowRefusal) → point_in_range p ≡ true → keep_point s p ≡ Err d → Numbered 0 d
point_turned s p d h e = record_turned point_rank (λ ps. record s { records = ps }) (ltb (length s.records) s.room) p s.records d e

-- ---- a line is taken as a book takes it
module _ (h : DayLines) (l : Line) where
  abbrev Due : Bool → Bool → Bool → Bool → Bool → Answer
  Due formed present dated many room =
      cond (not formed) (refused 4 l.reference) (cond present (refused 6 l.reference) (cond (not dated) (refused 7 l.reference) (cond many (refused 8 l.reference) (cond room accepted (refused 9 l.reference)))))

  -- one that is kept passes each test, and is put in
  pub record LineKept (u : DayLines) : Type 0 where
    pub accepts : accepted ≡ enter_answer h.today h.room h.standing l
    pub formed : is_well_formed l ≡ true
    pub new : has_rank line_rank l.reference h.standing ≡ false
    pub dated : is_well_dated h.today l.block ≡ true
    pub titles : titles_with l h.standing ≤ most_titles
    pub room_left : length h.standing < h.room
    pub put_in : u ≡ record h { standing = inserted_by line_rank l h.standing }

  pub line_kept : (u : DayLines) → keep_line h l ≡ Ok u → LineKept u
  line_kept u e =
      let p = go (is_well_formed l) (has_rank line_rank l.reference h.standing) (is_well_dated h.today l.block) (ltb most_titles (titles_with l h.standing)) (ltb (length h.standing) h.room) e in
      record { accepts = p.5; formed = p.0; new = p.1; dated = p.2; titles = ltb-false most_titles (titles_with l h.standing) p.3; room_left = ltb-true (length h.standing) h.room p.4; put_in = p.6 }
    where
      go : (f p d m r : Bool) → kept_line h l (Due f p d m r) ≡ Ok u →
          (f ≡ true) × (p ≡ false) × (d ≡ true) × (m ≡ false) × (r ≡ true) × (accepted ≡ Due f p d m r) × (u ≡ record h { standing = inserted_by line_rank l h.standing })
      go false p d m r e = cc
      go true true d m r e = cc
      go true false false m r e = cc
      go true false true true r e = cc
      go true false true false true e = (refl, refl, refl, refl, refl, refl, cc)
      go true false true false false e = cc

  pub line_turned : (d : RowRefusal) → line_in_range l ≡ true → keep_line h l ≡ Err d → Numbered l.reference d
  line_turned d i e = go (is_well_formed l) (has_rank line_rank l.reference h.standing) (is_well_dated h.today l.block) (ltb most_titles (titles_with l h.standing)) (ltb (length h.standing) h.room) (and_parts _ _ i).0 e
    where
      go : (f p d' m r : Bool) → f ≡ true → kept_line h l (Due f p d' m r) ≡ Err d → Numbered l.reference d
      go false p d' m r t e = absurd (false≢true t)
      go true true d' m r t e = turned_by 6 l.reference d (omega arith) (omega arith) e
      go true false false m r t e = turned_by 7 l.reference d (omega arith) (omega arith) e
      go true false true true r t e = turned_by 8 l.reference d (omega arith) (omega arith) e
      go true false true false true t e = cc
      go true false true false false t e = turned_by 9 l.reference d (omega arith) (omega arith) e
