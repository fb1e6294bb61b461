-- A cell fits just where it spells what its column may hold.
use Rattle.std.proofs.Common.{◌≡◌, ℕ, ◌≤◌, ◌⊎◌, ◌↔◌, Bool, true, false, cond, ◌&&◌, Option, Some, None, refl, sym, ap, subst, ◌∙◌, inl, inr, ⊎_elim, nat_le, lit<, ℤ, ◌≤ℤ◌, Decides, arith}
use Rattle.std.specs.Prelude.{is_some, option_map, option_and_then, codes, int_le}
use Rattle.std.specs.Str.{bytes_eq}
use Rattle.std.specs.Bool.{passes}
use Rattle.std.specs.Int.Signed.{le_z_yes}
use Rattle.std.proofs.lemmas.Bool.{and_parts, and_from, false≢true, leb-true, le-leb}
use Rattle.std.proofs.lemmas.Slice.Eq.{bytes_eq-Decides}
use Rattle.text.specs.Cells.{Cell}
use Rattle.text.specs.Numbers.{number, number_in, signed_number, signed_number_in}
use Rattle.text.proofs.Spelled.{spelling_law}
use Rattle.quantities.specs.Ranges.{lowest_rate, highest_rate, most_titles}
use Rattle.quantities.specs.Tranches.{tranche_number}
use Rattle.account.specs.declared.block_name.BlockName.{BlockName}
use Rattle.account.specs.declared.block_name.BlockName.TheVariants.{Trade as trade, Failed as failed, Held as held, CashOnly as cash_only}
use Rattle.rows.specs.Forms.{date_in, isin_in}
use Rattle.rows.specs.Days.{mode_in, curve_in}
use Rattle.rows.specs.Percentages.{tranche_in, percentage_in}
use Rattle.rows.specs.Points.{term_in, rate_in}
use Rattle.rows.specs.Prices.{price_in}
use Rattle.rows.specs.Positions.{reference_in, side_in, block_in, titles_in, cash_in}
use Rattle.rows.specs.Columns.{IsNumber, IsSigned, IsDate, IsIsin, IsMode, IsCurve, IsSide, IsTitled, IsBlock, DayColumns, PercentageColumns, PointColumns, PriceColumns, TitlesColumn, PositionColumns}
use Rattle.rows.proofs.Quantities.{int_le_yes, price_in_number, percentage_in_number, tranche_in_number, rate_in_number}

same_test : {b c : Bool} {P : Type 0} → b ≡ c → (c ≡ true) ↔ P → (b ≡ true) ↔ P
same_test e d = (λ h. d.0 (sym e ∙ h), λ p. e ∙ d.1 p)

-- ---- numbers in a range
some_if : {X : Type 0} (b : Bool) (x : X) → is_some (cond b (Some x) None) ≡ b
some_if true x = refl
some_if false x = refl

within_range : {X : Type 0} (test : X → Bool) (P : X → Type 0) → ((x : X) → (test x ≡ true) ↔ P x) → (o : Option X) →
    (is_some (option_and_then (λ x. cond (test x) (Some x) None) o) ≡ true) ↔ ((x : X) × ((o ≡ Some x) × P x))
within_range test P d None = (λ e. cc, λ h. let s = h.1.0 in cc)
within_range test P d (Some x) = (
  λ e. (x, (refl, (d x).0 (sym (some_if (test x) x) ∙ e))),
  λ h. let same : h.0 ≡ x = (let s = h.1.0 in cc) in some_if (test x) x ∙ (d x).1 (subst P same h.1.1),
)

numbers : (low high : ℕ) (cell : Cell) → (is_some (number_in low high cell) ≡ true) ↔ IsNumber low high cell
numbers low high cell =
    within_range (λ n. nat_le low n && nat_le n high) (λ n. (low ≤ n) × (n ≤ high))
    (λ n. (λ e. let p = and_parts _ _ e in (leb-true _ _ p.0, leb-true _ _ p.1), λ h. and_from _ _ (le-leb _ _ h.0) (le-leb _ _ h.1))) (number cell)

signed_numbers : (low high : ℤ) (cell : Cell) → (is_some (signed_number_in low high cell) ≡ true) ↔ IsSigned low high cell
signed_numbers low high cell =
    within_range (λ z. int_le low z && int_le z high) (λ z. (low ≤ℤ z) × (z ≤ℤ high))
    (λ z. (λ e. let p = and_parts _ _ e in (le_z_yes (passes _ p.0), le_z_yes (passes _ p.1)), λ h. and_from _ _ (int_le_yes _ _ h.0) (int_le_yes _ _ h.1))) (signed_number cell)

same_some : {X Y : Type 0} (get : X → Y) (o : Option X) (p : Option Y) → option_map get o ≡ p → is_some o ≡ is_some p
same_some get None p e = ap is_some e
same_some get (Some x) p e = ap is_some e

dates : (cell : Cell) → (is_some (date_in cell) ≡ true) ↔ IsDate cell
unfolding date_in
dates cell = numbers 0 65535 cell

tranches : (cell : Cell) → (is_some (tranche_in cell) ≡ true) ↔ IsNumber 1 6 cell
tranches cell = same_test (same_some tranche_number (tranche_in cell) _ (tranche_in_number cell)) (numbers 1 6 cell)

percents : (cell : Cell) → (is_some (percentage_in cell) ≡ true) ↔ IsNumber 0 10000 cell
percents cell = same_test (same_some (λ p. p.basis_points) (percentage_in cell) _ (percentage_in_number cell)) (numbers 0 10000 cell)

terms : (cell : Cell) → (is_some (term_in cell) ≡ true) ↔ IsNumber 0 65535 cell
unfolding term_in
terms cell = numbers 0 65535 cell

rates : (cell : Cell) → (is_some (rate_in cell) ≡ true) ↔ IsSigned lowest_rate highest_rate cell
rates cell = same_test (same_some (λ r. r.basis_points) (rate_in cell) _ (rate_in_number cell)) (signed_numbers lowest_rate highest_rate cell)

unit_prices : (cell : Cell) → (is_some (price_in cell) ≡ true) ↔ IsNumber 1 2000000 cell
unit_prices cell = same_test (same_some (λ p. p.millionths) (price_in cell) _ (price_in_number cell)) (numbers 1 2000000 cell)

references : (cell : Cell) → (is_some (reference_in cell) ≡ true) ↔ IsNumber 1 4294967295 cell
unfolding reference_in
references cell = numbers 1 4294967295 cell

cash : (cell : Cell) → (is_some (cash_in cell) ≡ true) ↔ IsNumber 0 1000000000000 cell
unfolding cash_in
cash cell = numbers 0 1000000000000 cell

isins : (cell : Cell) → (is_some (isin_in cell) ≡ true) ↔ IsIsin cell
unfolding isin_in
isins cell = same_test (some_if _ _) (λ e. e, λ e. e)

-- ---- letters
one_more : {X : Type 0} {P R : Type 0} (b : Bool) (x : X) (o : Option X) → Decides b P → (is_some o ≡ true) ↔ R → (is_some (cond b (Some x) o) ≡ true) ↔ (P ⊎ R)
one_more true x o d more = (λ e. inl (d.0 refl), λ h. refl)
one_more false x o d more = (λ e. inr (more.0 e), ⊎_elim (λ p. absurd (false≢true (d.1 p))) more.1)

last_one : {X : Type 0} {P : Type 0} (b : Bool) (x : X) → Decides b P → (is_some (cond b (Some x) None) ≡ true) ↔ P
last_one b x d = same_test (some_if b x) d

two_letters : {X : Type 0} (x y : X) (a b cell : Cell) → (is_some (cond (bytes_eq cell a) (Some x) (cond (bytes_eq cell b) (Some y) None)) ≡ true) ↔ ((cell ≡ a) ⊎ (cell ≡ b))
two_letters x y a b cell = one_more _ x _ (bytes_eq-Decides cell a) (last_one _ y (bytes_eq-Decides cell b))

modes : (cell : Cell) → (is_some (mode_in cell) ≡ true) ↔ IsMode cell
unfolding mode_in
modes cell = two_letters _ _ (codes "N") (codes "G") cell

curves : (cell : Cell) → (is_some (curve_in cell) ≡ true) ↔ IsCurve cell
unfolding curve_in
curves cell = two_letters _ _ (codes "S") (codes "L") cell

sides : (cell : Cell) → (is_some (side_in cell) ≡ true) ↔ IsSide cell
unfolding side_in
sides cell = two_letters _ _ (codes "B") (codes "S") cell

blocks : (cell : Cell) → (is_some (block_in cell) ≡ true) ↔ IsBlock cell
unfolding block_in
blocks cell =
    let from_t = one_more _ trade _ (bytes_eq-Decides cell (codes "T"))
    (one_more _ failed _ (bytes_eq-Decides cell (codes "F"))
    (one_more _ held _ (bytes_eq-Decides cell (codes "H")) (last_one _ cash_only (bytes_eq-Decides cell (codes "C"))))) in (
      λ e. ⊎_elim (λ t. inl (inl t)) (⊎_elim (λ f. inl (inr (inl f))) (⊎_elim (λ h. inl (inr (inr h))) inr)) (from_t.0 e),
      λ b. from_t.1 (⊎_elim (⊎_elim inl (λ r. inr (⊎_elim inl (λ h. inr (inl h)) r))) (λ c. inr (inr (inr c))) b),
    )

-- ---- titles, by the block beside them
no_some : {X : Type 0} (o : Option X) → (is_some o ≡ true → ⊥) → o ≡ None
no_some None h = refl
no_some (Some x) h = absurd (h refl)

beside : (block cell : Cell) (letter : Option BlockName) (low high : ℕ) → block_in block ≡ letter → titles_in letter cell ≡ number_in low high cell →
    (is_some (titles_in (block_in block) cell) ≡ true) ↔ IsNumber low high cell
beside block cell letter low high b t = same_test (ap is_some (ap (λ o. titles_in o cell) b ∙ t)) (numbers low high cell)

titled : (block cell : Cell) → IsTitled block → (is_some (titles_in (block_in block) cell) ≡ true) ↔ IsNumber 1 most_titles cell
unfolding block_in titles_in
titled block cell =
    ⊎_elim (λ t. beside block cell (Some trade) 1 most_titles (ap block_in t) refl)
    (⊎_elim (λ f. beside block cell (Some failed) 1 most_titles (ap block_in f) refl) (λ h. beside block cell (Some held) 1 most_titles (ap block_in h) refl))

is_zero : (cell : Cell) → IsNumber 0 0 cell → cell ≡ codes "0"
is_zero cell (n, h) =
    let none : n ≡ 0 = (let most = h.1.1 in omega arith) in
    spelling_law cell 0 (lit< tt) (h.0 ∙ ap Some none) ∙ sym (spelling_law (codes "0") 0 (lit< tt) refl)

cash_only_titles : (block cell : Cell) → block ≡ codes "C" → (is_some (titles_in (block_in block) cell) ≡ true) ↔ (cell ≡ codes "0")
unfolding block_in titles_in
cash_only_titles block cell c =
    let is = beside block cell (Some cash_only) 0 0 (ap block_in c) refl in (λ e. is_zero cell (is.0 e), λ z. rw (c, z) refl)

any_titles : (block cell : Cell) → ¬ IsBlock block → (is_some (titles_in (block_in block) cell) ≡ true) ↔ IsNumber 0 most_titles cell
unfolding titles_in
any_titles block cell other = beside block cell None 0 most_titles (no_some (block_in block) (λ e. other ((blocks block).0 e))) refl

-- ---- the columns of each kind
pub day_columns : DayColumns
day_columns =
    record {
      today = record { named = refl; fits = λ cell. dates (cell 0) };
      next = record { named = refl; fits = λ cell. dates (cell 1) };
      mode = record { named = refl; fits = λ cell. modes (cell 2) };
      curve = record { named = refl; fits = λ cell. curves (cell 3) };
    }

pub percentage_columns : PercentageColumns
percentage_columns =
    record {
      tranche = record { named = refl; fits = λ cell. tranches (cell 0) };
      percentage = record { named = refl; fits = λ cell. percents (cell 1) };
    }

pub point_columns : PointColumns
point_columns =
    record {
      term = record { named = refl; fits = λ cell. terms (cell 0) };
      rate = record { named = refl; fits = λ cell. rates (cell 1) };
    }

pub price_columns : PriceColumns
price_columns =
    record {
      isin = record { named = refl; fits = λ cell. isins (cell 0) };
      price = record { named = refl; fits = λ cell. unit_prices (cell 1) };
      maturity = record { named = refl; fits = λ cell. dates (cell 2) };
    }

titles_column : TitlesColumn
titles_column =
    record {
      named = refl;
      titled = λ cell. titled (cell 3) (cell 4);
      cash_only = λ cell. cash_only_titles (cell 3) (cell 4);
      no_block = λ cell. any_titles (cell 3) (cell 4);
    }

pub position_columns : PositionColumns
position_columns =
    record {
      reference = record { named = refl; fits = λ cell. references (cell 0) };
      isin = record { named = refl; fits = λ cell. isins (cell 1) };
      side = record { named = refl; fits = λ cell. sides (cell 2) };
      block = record { named = refl; fits = λ cell. blocks (cell 3) };
      titles = titles_column;
      cash = record { named = refl; fits = λ cell. cash (cell 5) };
      date = record { named = refl; fits = λ cell. dates (cell 6) };
    }
