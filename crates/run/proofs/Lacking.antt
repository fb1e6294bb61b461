-- A line of delivered rows has no fault just where the rows have what it needs.
use Rattle.std.proofs.Common.{◌≡◌, ◌≢◌, ℕ, inl, inr, Bool, true, false, cond, not, ◌&&◌, eqb, List, [], ◌∷◌, Some, sym, refl, ap, ◌∙◌, arith}
use Rattle.std.proofs.lemmas.Bool.{false≢true, both_ways, false_from_ne_true, lt-ltb, ltb-true}
use Rattle.std.specs.List.{Contains}
use Rattle.quantities.specs.declared.isin.Isin.{Isin}
use Rattle.quantities.specs.Dates.{residual_life}
use Rattle.quantities.specs.Tranches.{tranche}
use Rattle.register.specs.Keys.{has_rank, found_by}
use Rattle.market.specs.declared.price.Price.{Price}
use Rattle.market.specs.Records.{isin_rank, price_rank, percentage_rank}
use Rattle.account.specs.declared.line.Line.{Line}
use Rattle.account.specs.declared.block_name.BlockName.TheVariants.{Trade as trade, CashOnly as cash_only}
use Rattle.account.specs.Lines.{block_name, is_same_block, is_trade}
use Rattle.account.specs.Settings.{Setting, has_price, has_percentage, has_rate, price_record, tranche_of, maturity_or_zero}
use Rattle.account.specs.Answers.{is_well_formed, fault}
use Rattle.account.proofs.Formed.{formed_parts}
use Rattle.account.proofs.Terms.{same_kind_is}
use Rattle.run.specs.Accepted.{IsPriced, IsQuoted, IsRated, LacksNothing, account_of_rows}
use Rattle.run.specs.Causes.{Lacks}
use Rattle.run.specs.Laws.{DeliveredRows, records_by}
use Rattle.run.proofs.Keys.{isin_of_rank}
use Rattle.run.proofs.Reach.{reached_by, reaches}
use Rattle.run.proofs.RecordsBy.{Distinct, rank_among, found_with}

found_has : {X : Type 0} (f : X → ℕ) (k : ℕ) (x : X) (xs : List X) → found_by f k xs ≡ Some x → has_rank f k xs ≡ true
found_has f k x [] e = cc
found_has f k x (y ∷ ys) e = go (eqb (f y) k) e (found_has f k x ys)
  where
    go : (b : Bool) → cond b (Some y) (found_by f k ys) ≡ Some x → (found_by f k ys ≡ Some x → has_rank f k ys ≡ true) → cond b true (has_rank f k ys) ≡ true
    go true e rest = refl
    go false e rest = rest e

-- the number of a fault, by what is missing
abbrev Number : Bool → Bool → Bool → Bool → Bool → ℕ
Number c p q t r = cond c 0 (cond (not p) 10 (cond (not q) 11 (cond (t && not r) 12 0)))

no_price : (c p q t r : Bool) → c ≡ false → p ≡ false → Number c p q t r ≡ 10
no_price c p q t r a b = rw (a, b) refl

no_percentage : (c p q t r : Bool) → c ≡ false → p ≡ true → q ≡ false → Number c p q t r ≡ 11
no_percentage c p q t r a b d = rw (a, b, d) refl

no_rate : (c p q t r : Bool) → c ≡ false → p ≡ true → q ≡ true → t ≡ true → r ≡ false → Number c p q t r ≡ 12
no_rate c p q t r a b d e f = rw (a, b, d, e, f) refl

-- no fault: of what a line needs nothing is missing
none_missing : (c p q t r : Bool) → Number c p q t r ≡ 0 → c ≡ false → (p ≡ true) × ((q ≡ true) × (t ≡ true → r ≡ true))
none_missing true p q t r e n = absurd (both_ways true n refl)
none_missing false false q t r e n = absurd (omega arith)
none_missing false true false t r e n = absurd (omega arith)
none_missing false true true true false e n = absurd (omega arith)
none_missing false true true true true e n = (refl, (refl, λ h. refl))
none_missing false true true false r e n = (refl, (refl, λ h. absurd (false≢true h)))

all_there : (c p q t r : Bool) → (c ≡ false → (p ≡ true) × (q ≡ true)) → (t ≡ true → r ≡ true) → Number c p q t r ≡ 0
all_there true p q t r a b = refl
all_there false p q true r a b = rw ((a refl).0, (a refl).1, b refl) refl
all_there false p q false r a b = rw ((a refl).0, (a refl).1) refl

module _ {bytes : List ℕ} (rows : DeliveredRows bytes) (prices_once : Distinct price_rank rows.price_rows) where
  abbrev setting : Setting
  setting = (account_of_rows rows).setting

  -- the record of an ISIN is the row of its price, and its tranche goes by the maturity there
  record_is : (p : Price) (i : Isin) → Contains rows.price_rows p → p.isin ≡ i → price_record setting i ≡ Some p
  record_is p i c e =
      ap (λ j. found_by price_rank (isin_rank j) (records_by price_rank rows.price_rows)) (sym e) ∙ found_with price_rank p [] rows.price_rows prices_once c refl

  tranche_is : (p : Price) (i : Isin) → Contains rows.price_rows p → p.isin ≡ i → tranche_of setting i ≡ tranche (residual_life rows.day.today p.maturity)
  tranche_is p i c e = ap (λ r. tranche (residual_life rows.day.today (maturity_or_zero r))) (record_is p i c e)

  priced_by : (l : Line) → is_well_formed l ≡ true → has_price setting l.isin ≡ true → IsPriced rows l
  priced_by l w h =
      let p = rank_among price_rank [] rows.price_rows (isin_rank l.isin) h refl in
      record { price = p.0; price_row = p.1.0; isin = isin_of_rank p.0.isin l.isin p.0.valid (formed_parts l w).isin p.1.1 }

  quoted_by : (l : Line) → is_well_formed l ≡ true → has_price setting l.isin ≡ true → has_percentage setting l.isin ≡ true → IsQuoted rows l
  quoted_by l w hp hq =
      let p = priced_by l w hp in
      let q = rank_among percentage_rank [] rows.percentage_rows (tranche_of setting l.isin) hq refl in
      record { priced = p; percentage = q.0; percentage_row = q.1.0; tranche_is = q.1.1 ∙ tranche_is p.price l.isin p.price_row p.isin }

  rated_by : (l : Line) → has_rate setting l ≡ true → IsRated rows l
  rated_by l h =
      let p = reached_by [] rows.point_rows _ tt (omega arith) (ltb-true _ _ h) in
      record { point = p.0; point_row = p.1.0; reaches = p.1.1 }

  pub lacks_nothing : (l : Line) → is_well_formed l ≡ true → fault setting l ≡ 0 → LacksNothing rows l
  lacks_nothing l w e =
      let parts = none_missing (is_same_block (block_name l.block) cash_only) (has_price setting l.isin) (has_percentage setting l.isin) (is_trade l) (has_rate setting l) e in
      record {
        quoted = λ n. let p = parts (false_from_ne_true _ (λ s. n (same_kind_is (block_name l.block) cash_only s))) in quoted_by l w p.0 p.1.0;
        rated = λ t.
            let p = parts (ap (λ k. is_same_block k cash_only) t) in
            rated_by l (p.1.1 (ap (λ k. is_same_block k trade) t));
      }

  has_its_price : (l : Line) → IsPriced rows l → has_price setting l.isin ≡ true
  has_its_price l p = found_has price_rank (isin_rank l.isin) p.price (records_by price_rank rows.price_rows) (record_is p.price l.isin p.price_row p.isin)

  has_its_rate : (l : Line) → IsRated rows l → has_rate setting l ≡ true
  has_its_rate l r = lt-ltb _ _ (reaches [] rows.point_rows r.point _ tt r.point_row r.reaches)

  module _ (tranches_once : Distinct percentage_rank rows.percentage_rows) where
    has_its_percentage : (l : Line) → IsQuoted rows l → has_percentage setting l.isin ≡ true
    has_its_percentage l q =
        let percentage = found_with percentage_rank q.percentage [] rows.percentage_rows tranches_once q.percentage_row refl in
        let here = q.tranche_is ∙ sym (tranche_is q.priced.price l.isin q.priced.price_row q.priced.isin) in
        ap (λ k. has_rank percentage_rank k (records_by percentage_rank rows.percentage_rows)) (sym here)
        ∙ found_has percentage_rank (percentage_rank q.percentage) q.percentage (records_by percentage_rank rows.percentage_rows) percentage

    pub no_fault : (l : Line) → LacksNothing rows l → fault setting l ≡ 0
    no_fault l h =
        all_there (is_same_block (block_name l.block) cash_only) (has_price setting l.isin) (has_percentage setting l.isin) (is_trade l) (has_rate setting l)
        (λ n. let q = h.quoted (λ c. both_ways _ n (ap (λ k. is_same_block k cash_only) c)) in (has_its_price l q.priced, has_its_percentage l q))
        (λ t. has_its_rate l (h.rated (same_kind_is (block_name l.block) trade t)))

    -- ---- what a line lacks is its fault
    module _ (l : Line) (w : is_well_formed l ≡ true) where
      not_cash : block_name l.block ≢ cash_only → is_same_block (block_name l.block) cash_only ≡ false
      not_cash n = false_from_ne_true _ (λ s. n (same_kind_is (block_name l.block) cash_only s))

      pub fault_is : (n : ℕ) → Lacks rows l n → fault setting l ≡ n
      fault_is n (inl k) = no_price _ _ _ _ _ (not_cash k.with_titles) (false_from_ne_true _ (λ h. k.wrong (priced_by l w h))) ∙ sym k.number_is
      fault_is n (inr (inl k)) =
          no_percentage _ _ _ _ _ (not_cash k.with_titles) (has_its_price l k.priced) (false_from_ne_true _ (λ h. k.wrong (quoted_by l w (has_its_price l k.priced) h)))
          ∙ sym k.number_is
      fault_is n (inr (inr k)) =
          no_rate _ _ _ _ _ (ap (λ b. is_same_block b cash_only) k.trade) (has_its_price l k.quoted.priced) (has_its_percentage l k.quoted) (ap (λ b. is_same_block b trade) k.trade) (false_from_ne_true _ (λ h. k.wrong (rated_by l h)))
          ∙ sym k.number_is

      pub lacks : fault setting l ≢ 0 → Lacks rows l (fault setting l)
      lacks = go (is_same_block (block_name l.block) cash_only) (has_price setting l.isin) (has_percentage setting l.isin) (is_trade l) (has_rate setting l) refl refl refl refl refl
        where
          titles : is_same_block (block_name l.block) cash_only ≡ false → block_name l.block ≢ cash_only
          titles a = λ c. both_ways _ a (ap (λ b. is_same_block b cash_only) c)

          go : (c p q t r : Bool) → is_same_block (block_name l.block) cash_only ≡ c → has_price setting l.isin ≡ p → has_percentage setting l.isin ≡ q → is_trade l ≡ t → has_rate setting l ≡ r → Number c p q t r ≢ 0 → Lacks rows l (Number c p q t r)
          go true p q t r a b d e f h = absurd (h refl)
          go false false q t r a b d e f h = inl (record { number_is = refl; with_titles = titles a; wrong = λ p. both_ways _ b (has_its_price l p) })
          go false true false t r a b d e f h = inr (inl (record { number_is = refl; with_titles = titles a; priced = priced_by l w b; wrong = λ q. both_ways _ d (has_its_percentage l q) }))
          go false true true true false a b d e f h = inr (inr (record { number_is = refl; trade = same_kind_is (block_name l.block) trade e; quoted = quoted_by l w b d; wrong = λ x. both_ways _ f (has_its_rate l x) }))
          go false true true true true a b d e f h = absurd (h refl)
          go false true true false r a b d e f h = absurd (h refl)
