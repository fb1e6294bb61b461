-- Each part of a row has one spelling.
use Rattle.std.proofs.Common.{◌≡◌, ℕ, ◌<◌, ◌^◌, true, ◌&&◌, Option, Some, None, refl, sym, ap, ◌∙◌, lit<, ℤ, pos, negsuc, ◌≤ℤ◌, arith}
use Rattle.std.specs.Prelude.{codes, is_some, unwrap_or, nat_le, unsigned_abs, ◌==◌}
use Rattle.std.specs.Fmt.{decimal, signed_decimal}
use Rattle.std.proofs.lemmas.Bool.{cond-true}
use Rattle.std.proofs.lemmas.Bool.Decides.{nat_tests}
use Rattle.std.proofs.lemmas.Option.{cond_some, option_and_then_some}
use Rattle.std.proofs.lemmas.Int.{ints}
use Rattle.text.specs.Cells.{Cell}
use Rattle.text.specs.Numbers.{signed_number}
use Rattle.text.proofs.Spelled.{signed_printed_law, signed_spelling_law}
use Rattle.quantities.specs.declared.isin.Isin.{Isin}
use Rattle.quantities.specs.Isins.{is_isin}
use Rattle.quantities.specs.declared.range.Rate.{Rate}
use Rattle.quantities.specs.Ranges.{most_cash, most_titles, highest_reference, highest_price, highest_percentage, lowest_rate, highest_rate, longest_curve_term}
use Rattle.quantities.specs.Tranches.{tranche_number}
use Rattle.account.specs.declared.side.Side.{Side}
use Rattle.account.specs.declared.side.Side.TheVariants.{Bought, Sold}
use Rattle.account.specs.declared.block.Block.{Block}
use Rattle.account.specs.declared.block.Block.TheVariants.{Trade, Failed, Held, CashOnly}
use Rattle.account.specs.Lines.{block_name, date, dated_block}
use Rattle.account.specs.Answers.{has_titles}
use Rattle.rows.specs.declared.mode.Mode.{Mode}
use Rattle.rows.specs.declared.mode.Mode.TheVariants.{Net, Gross}
use Rattle.rows.specs.declared.curve_shape.CurveShape.{CurveShape}
use Rattle.rows.specs.declared.curve_shape.CurveShape.TheVariants.{Step, Sloping}
use Rattle.account.specs.declared.block_name.BlockName.{BlockName}
use Rattle.account.specs.declared.block_name.BlockName.TheVariants.{Trade as trade, Failed as failed, Held as held, CashOnly as cash_only}
use Rattle.rows.specs.Forms.{date_in, is_date, last_date, isin_in}
use Rattle.rows.specs.Days.{mode_in, mode_cell, curve_in, curve_cell}
use Rattle.rows.specs.Percentages.{tranche_of_number, tranche_in, percentage_of_number, percentage_in}
use Rattle.rows.specs.Points.{term_in, rate_of_number, rate_in}
use Rattle.rows.specs.Prices.{price_of_number, price_in}
use Rattle.rows.specs.Positions.{reference_in, side_in, side_cell, block_in, block_cell, titles_in, cash_in}
use Rattle.rows.proofs.Quantities.{unit_price_back, unit_price_number, margin_percentage_back, margin_percentage_number, rate_back, rate_number, tranche_back, tranche_has_number, tranche_small}
use Rattle.rows.proofs.CellSpellings.{Spells, spelling-unwrap_or, unwrap_or-spelling, same_range, numbers, numbers_to, quantities, or_letter}

pub dates : Spells date_in is_date decimal
unfolding date_in
dates = numbers_to last_date (lit< tt)

pub tranches : Spells tranche_in (λ t. true) (λ t. decimal (tranche_number t))
unfolding tranche_in
tranches = quantities tranche_of_number tranche_number 6 (lit< tt) tranche_small tranche_back tranche_has_number

pub percents : Spells percentage_in (λ p. true) (λ p. decimal p.basis_points)
unfolding percentage_in
percents = quantities percentage_of_number (λ p. p.basis_points) highest_percentage (lit< tt) (λ p. p.within) margin_percentage_back margin_percentage_number

pub terms : Spells term_in (λ n. nat_le n longest_curve_term) decimal
unfolding term_in
terms = numbers_to longest_curve_term (lit< tt)

small_between : (z : ℤ) → lowest_rate ≤ℤ z → z ≤ℤ highest_rate → unsigned_abs z < 2 ^ 63
small_between (pos n) l h = grind (arith, ints)
small_between (negsuc n) l h = grind (arith, ints)

rate_small : (r : Rate) → unsigned_abs r.basis_points < 2 ^ 63
rate_small r = small_between r.basis_points r.above r.within

pub rates : Spells rate_in (λ r. true) (λ r. signed_decimal r.basis_points)
unfolding rate_in
rates =
    record {
      read = λ cell r e.
          (option_and_then_some rate_of_number (signed_number cell) r e (λ z o m. sym (signed_spelling_law cell r.basis_points (rate_small r) (o ∙ ap Some (sym (rate_number z r m))))), refl);
      spelled = λ r h. rw (signed_printed_law r.basis_points (rate_small r)) (rate_back r);
    }

pub unit_prices : Spells price_in (λ p. true) (λ p. decimal p.millionths)
unfolding price_in
unit_prices = quantities price_of_number (λ p. p.millionths) highest_price (lit< tt) (λ p. p.within) unit_price_back unit_price_number

pub references : Spells reference_in (λ n. nat_le 1 n && nat_le n highest_reference) decimal
unfolding reference_in
references = numbers 1 highest_reference (lit< tt)

pub cash : Spells cash_in (λ n. nat_le n most_cash) decimal
unfolding cash_in
cash = numbers_to most_cash (lit< tt)

pub isins : Spells isin_in (λ i. is_isin i.bytes) (λ i. i.bytes)
unfolding isin_in
isins =
    record {
      read = λ cell i e.
          let c = cond_some (is_isin cell) (record { bytes = cell }) i e in
          (ap (λ (j : Isin). j.bytes) (sym c.1), ap (λ (j : Isin). is_isin j.bytes) (sym c.1) ∙ c.0);
      spelled = λ i h. cond-true _ _ _ h;
    }

mode_spelled : (mode : Mode) → mode_in (mode_cell mode) ≡ Some mode
unfolding mode_in
mode_spelled Net = refl
mode_spelled Gross = refl

pub modes : Spells mode_in (λ mode. true) mode_cell
unfolding mode_in
modes =
    record {
      read = λ cell mode e.
          (or_letter mode_cell cell (codes "N") Net mode _ refl (or_letter mode_cell cell (codes "G") Gross mode None refl (λ f. cc)) e, refl);
      spelled = λ mode h. mode_spelled mode;
    }

curve_spelled : (shape : CurveShape) → curve_in (curve_cell shape) ≡ Some shape
unfolding curve_in
curve_spelled Step = refl
curve_spelled Sloping = refl

pub curves : Spells curve_in (λ shape. true) curve_cell
unfolding curve_in
curves =
    record {
      read = λ cell shape e.
          (or_letter curve_cell cell (codes "S") Step shape _ refl (or_letter curve_cell cell (codes "L") Sloping shape None refl (λ f. cc)) e, refl);
      spelled = λ shape h. curve_spelled shape;
    }

side_spelled : (side : Side) → side_in (side_cell side) ≡ Some side
unfolding side_in
side_spelled Bought = refl
side_spelled Sold = refl

pub sides : Spells side_in (λ side. true) side_cell
unfolding side_in
sides =
    record {
      read = λ cell side e.
          (or_letter side_cell cell (codes "B") Bought side _ refl (or_letter side_cell cell (codes "S") Sold side None refl (λ f. cc)) e, refl);
      spelled = λ side h. side_spelled side;
    }

-- the letter of a block, which its date does not change
abbrev letter_cell : BlockName → Cell
letter_cell letter = block_cell (dated_block letter 0)

letter_spelled : (letter : BlockName) → block_in (letter_cell letter) ≡ Some letter
unfolding block_in
letter_spelled trade = refl
letter_spelled failed = refl
letter_spelled held = refl
letter_spelled cash_only = refl

block_read : (cell : Cell) (letter : BlockName) → block_in cell ≡ Some letter → letter_cell letter ≡ cell
unfolding block_in
block_read cell letter =
    or_letter letter_cell cell (codes "T") trade letter _ refl
    (or_letter letter_cell cell (codes "F") failed letter _ refl
    (or_letter letter_cell cell (codes "H") held letter _ refl (or_letter letter_cell cell (codes "C") cash_only letter None refl (λ e. cc))))

letters : Spells block_in (λ letter. true) letter_cell
letters = record { read = λ cell letter e. (block_read cell letter e, refl); spelled = λ letter h. letter_spelled letter }

undated : (letter : BlockName) (day : ℕ) → block_cell (dated_block letter day) ≡ letter_cell letter
undated trade day = refl
undated failed day = refl
undated held day = refl
undated cash_only day = refl

pub block_fitted : (cell : Cell) (day : ℕ) → is_some (block_in cell) ≡ true → block_cell (dated_block (unwrap_or (block_in cell) cash_only) day) ≡ cell
block_fitted cell day h = undated (unwrap_or (block_in cell) cash_only) day ∙ (spelling-unwrap_or letters cell cash_only h).0

pub date_of_block : (letter : BlockName) (day : ℕ) → date (dated_block letter day) ≡ day
date_of_block trade day = refl
date_of_block failed day = refl
date_of_block held day = refl
date_of_block cash_only day = refl

pub block_made : (block : Block) → (is_some (block_in (block_cell block)) ≡ true) × (dated_block (unwrap_or (block_in (block_cell block)) cash_only) (date block) ≡ block)
unfolding block_in
block_made (Trade day) = (refl, refl)
block_made (Failed day) = (refl, refl)
block_made (Held day) = (refl, refl)
block_made (CashOnly day) = (refl, refl)

none_at_most : (n : ℕ) → nat_le n 0 ≡ (n == 0)
none_at_most n = grind (arith, nat_tests)

titles : (letter : BlockName) (day : ℕ) → Spells (titles_in (Some letter)) (has_titles (block_name (dated_block letter day))) decimal
unfolding titles_in
titles trade day = numbers 1 most_titles (lit< tt)
titles failed day = numbers 1 most_titles (lit< tt)
titles held day = numbers 1 most_titles (lit< tt)
titles cash_only day = same_range (λ n. n == 0) none_at_most (numbers_to 0 (lit< tt))

pub titles_fitted : (letter : Option BlockName) (cell : Cell) (day : ℕ) → is_some letter ≡ true → is_some (titles_in letter cell) ≡ true →
    (decimal (unwrap_or (titles_in letter cell) 0) ≡ cell) × (has_titles (block_name (dated_block (unwrap_or letter cash_only) day)) (unwrap_or (titles_in letter cell) 0) ≡ true)
titles_fitted None cell day l h = cc
titles_fitted (Some letter) cell day l h = spelling-unwrap_or (titles letter day) cell 0 h

pub titles_made : (block : Block) (n : ℕ) → has_titles (block_name block) n ≡ true →
    (is_some (titles_in (block_in (block_cell block)) (decimal n)) ≡ true) × (unwrap_or (titles_in (block_in (block_cell block)) (decimal n)) 0 ≡ n)
unfolding block_in
titles_made (Trade day) n h = unwrap_or-spelling (titles trade day) n 0 h
titles_made (Failed day) n h = unwrap_or-spelling (titles failed day) n 0 h
titles_made (Held day) n h = unwrap_or-spelling (titles held day) n 0 h
titles_made (CashOnly day) n h = unwrap_or-spelling (titles cash_only day) n 0 h
