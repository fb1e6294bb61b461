-- What is kept after the rows above decides whether a row is taken, just as they do.
use Rattle.std.proofs.Common.{◌≡◌, ℕ, ◌+◌, ◌⊎◌, inl, inr, Bool, true, false, cond, not, eqb, ltb, List, [], ◌∷◌, ◌++◌, length, Option, Some, None, Ok, Err, Result, sym, refl, ap, ◌∙◌, subst, ⊎_elim, arith}
use Rattle.std.proofs.lemmas.Bool.{and_parts, cond_both, both_ways, false_from_ne_true, ltb-true, ltb-false, lt-ltb, le-ltb}
use Rattle.quantities.specs.declared.isin.Isin.{Isin}
use Rattle.quantities.specs.declared.refusal.Refusal.TheVariants.{KeyPresent, Full}
use Rattle.quantities.specs.Ranges.{most_titles}
use Rattle.register.specs.Keys.{has_rank, inserted_by}
use Rattle.register.specs.Changes.{put}
use Rattle.register.specs.Contents.{Table}
use Rattle.curve.specs.declared.point.Point.{Point}
use Rattle.curve.specs.Points.{point_rank}
use Rattle.market.specs.Contents.{Quotes}
use Rattle.market.specs.Days.{is_next_day}
use Rattle.market.specs.Records.{price_rank, percentage_rank}
use Rattle.market.specs.declared.percentage.Percentage.{Percentage}
use Rattle.market.specs.declared.price.Price.{Price}
use Rattle.account.specs.declared.line.Line.{Line}
use Rattle.account.specs.declared.block_name.BlockName.{BlockName}
use Rattle.account.specs.Lines.{block_name}
use Rattle.account.specs.Calls.{Answer, accepted, refused, line_rank}
use Rattle.account.specs.Answers.{is_well_formed, is_well_dated, titles_of, titles_with, enter_answer}
use Rattle.book.proofs.ValidLines.{titles_first, titles_inserted}
use Rattle.rows.specs.declared.day.DayRow.{DayRow}
use Rattle.rows.specs.Days.{day_in_range}
use Rattle.rows.specs.Percentages.{percentage_in_range}
use Rattle.rows.specs.Points.{point_in_range}
use Rattle.rows.specs.Prices.{price_in_range}
use Rattle.rows.specs.Positions.{line_in_range}
use Rattle.run.specs.Refusals.{RowRefusal}
use Rattle.run.specs.KeptSheets.{Keeping}
use Rattle.run.specs.Kept.{kept_table, kept_day, keep_day, keep_percentage, keep_price, keep_point, DayLines, kept_line, keep_line}
use Rattle.run.specs.Runs.{most_points, most_prices, most_lines}
use Rattle.run.specs.Laws.{records_with, records_by}
use Rattle.run.specs.Accepted.{NoneHasKey}
use Rattle.account.specs.Checks.{IsInItsDays}
use Rattle.run.proofs.Tests.{next_day, next_passes, dated, date_passes}
use Rattle.run.proofs.RecordsOfRows.{records_long}
use Rattle.run.proofs.Keys.{IsRankOf, tranches_ranked, terms_ranked, isins_ranked, references_ranked, none_has, rank_new, one_has, rank_stands}
use Rattle.run.specs.Causes.{RowCause, KeyStandsAbove, NoPlaceIsLeft, DayCause, PercentageCause, PointCause, PriceCause, LineCause, no_reference}

-- ---- what is kept is what the rows above make of it, and a row comes to what they make of it
module _ {Row S : Type 0} (in_range : Row → Bool) (keeping : Keeping Row S) (Cause : RowCause Row) (reference : Row → ℕ) (Holds : List Row → S → Type 0) where
  abbrev pub Comes : List Row → Row → Result S RowRefusal → Type 0
  Comes above r (Ok u) = Holds (above ++ (r ∷ [])) u × ((n : ℕ) → Cause above r n → ⊥)
  Comes above r (Err d) = Cause above r d.number × (d.reference ≡ reference r)

  pub record Judged : Type 0 where
    pub comes : (above : List Row) (s : S) (r : Row) → in_range r ≡ true → Holds above s → Comes above r (keeping s r)
    pub one : (above : List Row) (r : Row) (n m : ℕ) → Cause above r n → Cause above r m → n ≡ m

-- ---- records by rank, as the rows above have them
module _ {X : Type 0} (rank : X → ℕ) where
  has_inserted : (k : ℕ) (x : X) (xs : List X) → has_rank rank k (inserted_by rank x xs) ≡ has_rank rank k (x ∷ xs)
  has_inserted k x [] = refl
  has_inserted k x (y ∷ ys) =
      cond_both (ltb (rank x) (rank y)) (x ∷ (y ∷ ys)) (y ∷ inserted_by rank x ys) (λ zs. has_rank rank k zs ≡ has_rank rank k (x ∷ (y ∷ ys))) (λ e. refl)
      (λ e. ap (cond (eqb (rank y) k) true) (has_inserted k x ys) ∙ either_way (eqb (rank y) k) (eqb (rank x) k) (has_rank rank k ys))
    where
      either_way : (a b c : Bool) → cond a true (cond b true c) ≡ cond b true (cond a true c)
      either_way true true c = refl
      either_way true false c = refl
      either_way false b c = refl

  has_with : (k : ℕ) (before xs : List X) → has_rank rank k (records_with rank before xs) ≡ cond (has_rank rank k before) true (has_rank rank k xs)
  has_with k before [] = whole (has_rank rank k before)
    where
      whole : (b : Bool) → b ≡ cond b true false
      whole true = refl
      whole false = refl
  has_with k before (x ∷ xs) =
      has_with k (inserted_by rank x before) xs ∙ (ap (λ b. cond b true (has_rank rank k xs)) (has_inserted k x before) ∙ in_turn (eqb (rank x) k) (has_rank rank k before) (has_rank rank k xs))
    where
      in_turn : (a b c : Bool) → cond (cond a true b) true c ≡ cond b true (cond a true c)
      in_turn true true c = refl
      in_turn true false c = refl
      in_turn false b c = refl

  with_more : (before xs : List X) (x : X) → records_with rank before (xs ++ (x ∷ [])) ≡ inserted_by rank x (records_with rank before xs)
  with_more before [] x = refl
  with_more before (y ∷ ys) x = with_more (inserted_by rank y before) ys x

  pub has_by : (k : ℕ) (xs : List X) → has_rank rank k (records_by rank xs) ≡ has_rank rank k xs
  has_by k xs = has_with k [] xs

  pub long_by : (xs : List X) → length (records_by rank xs) ≡ length xs
  long_by xs = omega (arith, records_long rank [] xs)

  -- what comes of putting a record in: by the rows above, and by whether a place is free
  pub put_by : {S : Type 0} (P : Result S RowRefusal → Type 0) (keep : List X → S) (free : Bool) (x : X) (above held : List X) → held ≡ records_by rank above →
      (has_rank rank (rank x) above ≡ true → P (Err (record { number = 6; reference = 0 }))) →
      (has_rank rank (rank x) above ≡ false → free ≡ true → inserted_by rank x held ≡ records_by rank (above ++ (x ∷ [])) → P (Ok (keep (inserted_by rank x held)))) →
      (has_rank rank (rank x) above ≡ false → free ≡ false → P (Err (record { number = 9; reference = 0 }))) →
      P (kept_table keep (put rank free x held))
  put_by P keep free x above held h present put_in full =
      cond_both (has_rank rank (rank x) held) (Err KeyPresent) (cond free (Ok (inserted_by rank x held)) (Err Full)) (λ r. P (kept_table keep r))
      (λ e. present (same ∙ e))
      (λ e. cond_both free (Ok (inserted_by rank x held)) (Err Full) (λ r. P (kept_table keep r))
      (λ f. put_in (same ∙ e) f (ap (inserted_by rank x) h ∙ sym (with_more [] above x)))
      (λ f. full (same ∙ e) f))
    where
      same : has_rank rank (rank x) above ≡ has_rank rank (rank x) held
      same = sym (ap (has_rank rank (rank x)) h ∙ has_by (rank x) above)

-- ---- rows whose keys differ, with room for so many
module _ {X K : Type 0} (key : X → K) (rank : X → ℕ) (r : IsRankOf key rank) (above : List X) (x : X) where
  stands_above : has_rank rank (rank x) above ≡ true → KeyStandsAbove key above x 6
  stands_above h = let o = one_has key rank r x above h in record { number_is = refl; earlier = o.0; stands = o.1.0; wrong = o.1.1 }

  present : (n : ℕ) → KeyStandsAbove key above x n → has_rank rank (rank x) above ≡ true
  present n c = rank_stands key rank r x c.earlier above c.stands c.wrong

  not_both : (n : ℕ) → KeyStandsAbove key above x n → NoneHasKey key x above → ⊥
  not_both n c new = both_ways _ (rank_new key rank r x above new) (present n c)

  module _ (most : ℕ) where
    abbrev Either : ℕ → Type 0
    Either k = KeyStandsAbove key above x k ⊎ NoPlaceIsLeft key most above x k

    one_of_two : (n m : ℕ) → Either n → Either m → n ≡ m
    one_of_two n m (inl c) (inl d) = c.number_is ∙ sym d.number_is
    one_of_two n m (inl c) (inr d) = absurd (not_both n c d.new_key)
    one_of_two n m (inr c) (inl d) = absurd (not_both m d c.new_key)
    one_of_two n m (inr c) (inr d) = c.number_is ∙ sym d.number_is

module _ {X K S : Type 0} (key : X → K) (rank : X → ℕ) (r : IsRankOf key rank) (most room : ℕ) (above held : List X) (x : X) (room_is : room ≡ most) (h : held ≡ records_by rank above)
    (keep : List X → S) (in_range : X → Bool) (keeping : Keeping X S) (Holds : List X → S → Type 0) (holds : inserted_by rank x held ≡ records_by rank (above ++ (x ∷ [])) → Holds (above ++ (x ∷ [])) (keep (inserted_by rank x held))) where
  abbrev Of : List X → X → ℕ → Type 0
  Of a y k = KeyStandsAbove key a y k ⊎ NoPlaceIsLeft key most a y k

  long : length held ≡ length above
  long = ap length h ∙ long_by rank above

  put_comes : Comes in_range keeping Of no_reference Holds above x (kept_table keep (put rank (ltb (length held) room) x held))
  put_comes = put_by rank (Comes in_range keeping Of no_reference Holds above x) keep (ltb (length held) room) x above held h
      (λ p. (inl (stands_above key rank r above x p), refl))
      (λ p f i. let few = ltb-true (length held) room f in (
        holds i,
        λ n c. ⊎_elim
            (λ (k : KeyStandsAbove key above x n). not_both key rank r above x n k (none_has key rank r x above p))
            (λ (k : NoPlaceIsLeft key most above x n). let w = k.wrong in absurd (omega (arith, long)))
            c,
      ))
      (λ p f. let full = ltb-false (length held) room f in (inr (record { number_is = refl; new_key = none_has key rank r x above p; wrong = omega (arith, long) }), refl))

-- ---- what is kept, sheet by sheet
-- the last of the rows of the day
abbrev pub last_day : List DayRow → Option DayRow
last_day [] = None
last_day (d ∷ []) = Some d
last_day (d ∷ (e ∷ es)) = last_day (e ∷ es)

last_added : (above : List DayRow) (d : DayRow) → Some d ≡ last_day (above ++ (d ∷ []))
last_added [] d = refl
last_added (e ∷ []) d = refl
last_added (e ∷ (f ∷ fs)) d = last_added (f ∷ fs) d

abbrev pub HoldsDay : List DayRow → Option DayRow → Type 0
HoldsDay above s = s ≡ last_day above

abbrev pub HoldsPercentages : List Percentage → Quotes → Type 0
HoldsPercentages above q = (q.percentages ≡ records_by percentage_rank above) × ((q.prices ≡ []) × (q.room ≡ most_prices))

abbrev pub HoldsPoints : List Point → Table Point → Type 0
HoldsPoints above h = (h.records ≡ records_by point_rank above) × (h.room ≡ most_points)

abbrev pub HoldsPrices : List Price → Quotes → Type 0
HoldsPrices above q = (q.prices ≡ records_by price_rank above) × (q.room ≡ most_prices)

abbrev pub HoldsLines : ℕ → List Line → DayLines → Type 0
HoldsLines today above h = (h.standing ≡ records_by line_rank above) × ((h.today ≡ today) × (h.room ≡ most_lines))

pub days_judged : Judged day_in_range keep_day DayCause no_reference HoldsDay
days_judged = record { comes = λ above s d i h. go above s d (is_next_day d.today d.next) refl; one = λ above d n m c e. c.number_is ∙ sym e.number_is }
  where
    go : (above : List DayRow) (s : Option DayRow) (d : DayRow) (b : Bool) → is_next_day d.today d.next ≡ b → Comes day_in_range keep_day DayCause no_reference HoldsDay above d (kept_day d (cond b (Ok (d.today, d.next)) (Err 7)))
    go above s d true e = (last_added above d, λ n c. c.wrong (next_day d e))
    go above s d false e = (record { number_is = refl; wrong = λ h. both_ways _ e (next_passes d h) }, refl)

pub percentages_judged : Judged percentage_in_range keep_percentage PercentageCause no_reference HoldsPercentages
percentages_judged = record {
  comes = λ above q p i h.
      put_by percentage_rank (Comes percentage_in_range keep_percentage PercentageCause no_reference HoldsPercentages above p) (λ ps. record q { percentages = ps }) true p above q.percentages h.0
      (λ k. (stands_above (λ q. q.tranche) percentage_rank tranches_ranked above p k, refl))
      (λ k f e. ((e, h.1), λ n c. both_ways _ k (present (λ q. q.tranche) percentage_rank tranches_ranked above p n c)))
      (λ k f. absurd (both_ways true f refl));
  one = λ above p n m c d. c.number_is ∙ sym d.number_is;
}

pub points_judged : Judged point_in_range keep_point PointCause no_reference HoldsPoints
points_judged = record {
  comes = λ above s p i h. put_comes (λ q. q.term) point_rank terms_ranked 64 s.room above s.records p h.1 h.0 (λ ps. record s { records = ps }) point_in_range keep_point HoldsPoints (λ e. (e, h.1));
  one = λ above p n m c d. one_of_two (λ q. q.term) point_rank terms_ranked above p 64 n m c d;
}

pub prices_judged : Judged price_in_range keep_price PriceCause no_reference HoldsPrices
prices_judged = record {
  comes = λ above s p i h. put_comes (λ q. q.isin) price_rank isins_ranked 256 s.room above s.prices p h.1 h.0 (λ ps. record s { prices = ps }) price_in_range keep_price HoldsPrices (λ e. (e, h.1));
  one = λ above p n m c d. one_of_two (λ q. q.isin) price_rank isins_ranked above p 256 n m c d;
}

-- ---- the lines
pub titles_with_rows : (i : Isin) (k : BlockName) (before ls : List Line) → titles_of i k (records_with line_rank before ls) ≡ titles_of i k before + titles_of i k ls
titles_with_rows i k before [] = omega arith
titles_with_rows i k before (l ∷ ls) = omega (arith, titles_with_rows i k (inserted_by line_rank l before) ls, titles_inserted i k l before, titles_first i k l ls)

titles_by : (i : Isin) (k : BlockName) (ls : List Line) → titles_of i k (records_by line_rank ls) ≡ titles_of i k ls
titles_by i k ls = omega (arith, titles_with_rows i k [] ls)

module _ (today : ℕ) (above : List Line) (l : Line) where
  -- the number by what is wrong
  abbrev Number : Bool → Bool → Bool → ℕ
  Number present dated many = cond present 6 (cond (not dated) 7 (cond many 8 9))

  -- the tests of a line, by its causes
  new : NoneHasKey (λ m. m.reference) l above → has_rank line_rank l.reference above ≡ false
  new h = rank_new (λ m. m.reference) line_rank references_ranked l above h

  not_new : (n : ℕ) → KeyStandsAbove (λ m. m.reference) above l n → has_rank line_rank l.reference above ≡ true
  not_new n c = present (λ m. m.reference) line_rank references_ranked above l n c

  in_days : IsInItsDays today l.block → is_well_dated today l.block ≡ true
  in_days h = date_passes today l.block h

  fresh : has_rank line_rank l.reference above ≡ false → NoneHasKey (λ m. m.reference) l above
  fresh h = none_has (λ m. m.reference) line_rank references_ranked l above h

  outside : (IsInItsDays today l.block → ⊥) → is_well_dated today l.block ≡ false
  outside h = false_from_ne_true _ (λ d. h (dated today l.block d))

  numbered : (n : ℕ) → LineCause today above l n → n ≡ Number (has_rank line_rank l.reference above) (is_well_dated today l.block) (ltb most_titles (titles_with l above))
  numbered n (inl (inl c)) = c.number_is ∙ rw (not_new n c) refl
  numbered n (inl (inr c)) = c.number_is ∙ rw (new c.new_key, outside c.wrong) refl
  numbered n (inr (inl c)) = c.number_is ∙ rw (new c.new_key, in_days c.dated, lt-ltb most_titles (titles_with l above) c.wrong) refl
  numbered n (inr (inr c)) = c.number_is ∙ rw (new c.new_key, in_days c.dated, le-ltb most_titles (titles_with l above) c.within) refl

  module _ (h : DayLines) (holds : HoldsLines today above h) where
    abbrev Came : Answer → Type 0
    Came a = Comes line_in_range keep_line (LineCause today) (λ r. r.reference) (HoldsLines today) above l (kept_line h l a)

    titles_are : titles_with l h.standing ≡ titles_with l above
    titles_are = ap (titles_with l) holds.0 ∙ ap (λ n. n + l.titles) (titles_by l.isin (block_name l.block) above)

    line_comes : is_well_formed l ≡ true → Comes line_in_range keep_line (LineCause today) (λ r. r.reference) (HoldsLines today) above l (keep_line h l)
    line_comes formed = by_tests (has_rank line_rank l.reference above) (is_well_dated today l.block) (ltb most_titles (titles_with l above)) (ltb (length above) most_lines) refl refl refl refl
      where
        present_is : has_rank line_rank l.reference h.standing ≡ has_rank line_rank l.reference above
        present_is = ap (has_rank line_rank l.reference) holds.0 ∙ has_by line_rank l.reference above

        dated_is : is_well_dated h.today l.block ≡ is_well_dated today l.block
        dated_is = ap (λ t. is_well_dated t l.block) holds.1.0

        room_is : ltb (length h.standing) h.room ≡ ltb (length above) most_lines
        room_is = ap (λ n. ltb n h.room) (ap length holds.0 ∙ long_by line_rank above) ∙ ap (ltb (length above)) holds.1.1

        answer : (p d m r : Bool) → has_rank line_rank l.reference above ≡ p → is_well_dated today l.block ≡ d → ltb most_titles (titles_with l above) ≡ m → ltb (length above) most_lines ≡ r →
            enter_answer h.today h.room h.standing l ≡ cond p (refused 6 l.reference) (cond (not d) (refused 7 l.reference) (cond m (refused 8 l.reference) (cond r accepted (refused 9 l.reference))))
        answer p d m r e f g k = rw (formed, present_is ∙ e, dated_is ∙ f, ap (ltb most_titles) titles_are ∙ g, room_is ∙ k) refl

        by_tests : (p d m r : Bool) → has_rank line_rank l.reference above ≡ p → is_well_dated today l.block ≡ d → ltb most_titles (titles_with l above) ≡ m → ltb (length above) most_lines ≡ r → Came (enter_answer h.today h.room h.standing l)
        by_tests p d m r e f g k = subst Came (sym (answer p d m r e f g k)) (by_answer p d m r e f g k)
          where
            by_answer : (p d m r : Bool) → has_rank line_rank l.reference above ≡ p → is_well_dated today l.block ≡ d → ltb most_titles (titles_with l above) ≡ m → ltb (length above) most_lines ≡ r →
                Came (cond p (refused 6 l.reference) (cond (not d) (refused 7 l.reference) (cond m (refused 8 l.reference) (cond r accepted (refused 9 l.reference)))))
            by_answer true d m r e f g k = (inl (inl (stands_above (λ m. m.reference) line_rank references_ranked above l e)), refl)
            by_answer false false m r e f g k = (inl (inr (record { number_is = refl; new_key = fresh e; wrong = λ h. both_ways _ f (in_days h) })), refl)
            by_answer false true true r e f g k = (inr (inl (record { number_is = refl; new_key = fresh e; dated = dated today l.block f; wrong = ltb-true most_titles (titles_with l above) g })), refl)
            by_answer false true false false e f g k = (inr (inr (record { number_is = refl; new_key = fresh e; dated = dated today l.block f; within = ltb-false most_titles (titles_with l above) g; wrong = ltb-false (length above) most_lines k })), refl)
            by_answer false true false true e f g k = ((ap (inserted_by line_rank l) holds.0 ∙ sym (with_more line_rank [] above l), holds.1), no_cause)
              where
                no_cause : (n : ℕ) → LineCause today above l n → ⊥
                no_cause n (inl (inl c)) = both_ways _ e (not_new n c)
                no_cause n (inl (inr c)) = c.wrong (dated today l.block f)
                no_cause n (inr (inl c)) = let w = c.wrong in let x = ltb-false most_titles (titles_with l above) g in omega arith
                no_cause n (inr (inr c)) = let w = c.wrong in let x = ltb-true (length above) most_lines k in omega arith

pub lines_judged : (today : ℕ) → Judged line_in_range keep_line (LineCause today) (λ r. r.reference) (HoldsLines today)
lines_judged today = record {
  comes = λ above h l i holds. line_comes today above l h holds (and_parts (is_well_formed l) _ i).0;
  one = λ above l n m c d. numbered today above l n c ∙ sym (numbered today above l m d);
}
