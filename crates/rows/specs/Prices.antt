-- The prices: one for each ISIN, with its maturity.
use Rattle.std.specs.Prelude.{ℕ, Bool, [], ◌∷◌, Option, is_some, unwrap_or, codes, nat_le, option_and_then, refl}
use Rattle.std.specs.Bool.{passes}
use Rattle.std.specs.Fmt.{decimal}
use lib.Dec.{leb→le}
use Rattle.text.specs.Cells.{Cell}
use Rattle.text.specs.Numbers.{number}
use Rattle.quantities.specs.declared.range.UnitPrice.{UnitPrice}
use Rattle.quantities.specs.Isins.{is_isin}
use Rattle.quantities.specs.Ranges.{lowest_price, highest_price}
use Rattle.sheet.specs.Kinds.{SheetKind}
use Rattle.market.specs.declared.price.Price.{Price}
use Rattle.rows.specs.Forms.{Spelling, date_in, isin_in, is_date, if_passed, if_both}

-- a number as a price, in its range
abbrev pub price_of_number : ℕ → Option UnitPrice
price_of_number n =
    if_both (nat_le lowest_price n) (nat_le n highest_price)
    (λ low high.
    record {
      millionths = n;
      above = leb→le _ _ (passes _ low);
      within = leb→le _ _ (passes _ high);
    })

unfoldable pub price_in : Cell → Option UnitPrice
price_in cell = option_and_then price_of_number (number cell)

-- the price of the ISIN that a cell holds
abbrev pub isin_price : Cell → UnitPrice → ℕ → Option Price
isin_price cell price maturity =
    if_passed (is_isin cell)
    (λ valid.
    record {
      isin = record { bytes = cell };
      price = price;
      maturity = maturity;
      valid = valid;
    })

-- in the place of a price where a cell holds none
abbrev pub no_unit_price : UnitPrice
no_unit_price = record { millionths = lowest_price; above = leb→le _ _ tt; within = leb→le _ _ tt }

-- in the place of a price where a cell does not fit
abbrev pub no_price : Price
no_price =
    record {
      isin = record { bytes = codes "XX0000000002" };
      price = no_unit_price;
      maturity = 0;
      valid = refl;
    }

abbrev pub prices : SheetKind Price
prices =
    record {
      mark = codes "PRC";
      needed = codes "ISIN" ∷ (codes "PRICE" ∷ (codes "MATURITY" ∷ []));
      fits = λ cell.
          is_some (isin_in (cell 0))
          ∷ (is_some (price_in (cell 1))
          ∷ (is_some (date_in (cell 2)) ∷ []));
      row = λ cell.
          let price = unwrap_or (price_in (cell 1)) no_unit_price in
          let maturity = unwrap_or (date_in (cell 2)) 0 in
          unwrap_or (isin_price (cell 0) price maturity) no_price;
    }

-- the other parts of a price are in their ranges by its type
abbrev pub price_in_range : Price → Bool
price_in_range price = is_date price.maturity

-- how a price is spelled
abbrev pub price_spelling : Price → Spelling
price_spelling price =
    (codes "ISIN", price.isin.bytes)
    ∷ ((codes "PRICE", decimal price.price.millionths)
    ∷ ((codes "MATURITY", decimal price.maturity) ∷ []))
