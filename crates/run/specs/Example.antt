-- Accounts delivered as five sheets, and what their runs come to.
use Rattle.std.specs.Prelude.{◌≡◌, ℕ, List, ◌++◌, Ok, Err, codes}
use Rattle.run.specs.Refusals.{refusal_of_run, refusal_of_margin}
use Rattle.run.specs.Runs.{run}

-- by the letters of the netting rule and of the form of the curve
abbrev pub day_sheet : List ℕ → List ℕ → List ℕ
day_sheet mode curve =
    codes "DAY;1\nTODAY;NEXT;MODE;CURVE\n9000;9001;"
    ++ (mode ++ (codes ";" ++ (curve ++ codes "\nEND;1\n")))

abbrev pub percentage_sheet : List ℕ
percentage_sheet = codes "PAR;1\nTRANCHE;PCT\n1;50\n4;200\nEND;2\n"

abbrev pub point_sheet : List ℕ
point_sheet = codes "CRV;1\nTERM;RATE\n364;360\nEND;1\n"

-- the price of the first ISIN, and what follows it
abbrev pub price_sheet : List ℕ → List ℕ
price_sheet others =
    codes "PRC;1\nISIN;PRICE;MATURITY\nES0000001018;1010000;11000\n" ++ others

abbrev pub second_price_row : List ℕ
second_price_row = codes "ES0000002024;999999;9100\nEND;2\n"

abbrev pub no_second_price_row : List ℕ
no_second_price_row = codes "END;1\n"

abbrev pub position_sheet : List ℕ
position_sheet =
    codes "POS;2\nREF;ISIN;SIDE;BLOCK;TRADED;TITLES;CASH;DATE\n"
    ++ (codes "1;ES0000001018;B;T;1500;1000;101000000;9101\n"
    ++ (codes "2;ES0000001018;S;T;400;400;40400000;9001\n"
    ++ (codes "3;ES0000002024;B;F;9;3;300000;8998\n"
    ++ (codes "4;ES0000001018;B;C;;0;2500;9000\n" ++ codes "END;4\n"))))

abbrev pub example_sheets : List ℕ → List ℕ → List ℕ
example_sheets mode others =
    day_sheet mode (codes "S")
    ++ (percentage_sheet ++ (point_sheet ++ (price_sheet others ++ position_sheet)))

-- their statement, by the worst scenario of the trades
abbrev pub example_statement : List ℕ → List ℕ
example_statement scenario =
    codes "STM;1\nISIN;BLOCK;SCEN;IM;VM\nES0000001018;T;"
    ++ (scenario
    ++ (codes ";2020000;1000000\nES0000001018;C;0;2500;0\n"
    ++ codes "ES0000002024;F;0;1500;-1\nTOTAL;1024001;6\nEND;3\n"))

-- a trade of term 13 and a held line, under a curve of two points
abbrev pub two_point_sheets : List ℕ → List ℕ
two_point_sheets curve =
    day_sheet (codes "N") curve
    ++ (codes "PAR;1\nTRANCHE;PCT\n4;200\nEND;1\n"
    ++ (codes "CRV;1\nRATE;TERM\n95;20\n100;10\nEND;2\n"
    ++ (price_sheet no_second_price_row
    ++ (codes "POS;1\nREF;ISIN;SIDE;BLOCK;TITLES;CASH;DATE\n"
    ++ (codes "1;ES0000001018;S;T;1000;100000000;9014\n"
    ++ codes "2;ES0000001018;B;H;2;200000;9000\nEND;2\n")))))

-- their statement, by the variation margin of the trade and the margin of both lines
abbrev pub two_point_statement : List ℕ → List ℕ → List ℕ
two_point_statement variation margin =
    codes "STM;1\nISIN;BLOCK;SCEN;IM;VM\nES0000001018;T;1;2020000;"
    ++ (variation
    ++ (codes "\nES0000001018;H;0;4040;2000\nTOTAL;" ++ (margin ++ codes ";5\nEND;2\n")))

-- the runs as they are worked out
pub record ExampleRuns : Type 0 where
  -- by the net rule and by the gross one
  pub net_run :
      run (example_sheets (codes "N") second_price_row) 200 ≡ Ok (example_statement (codes "3"))
  pub gross_run :
      run (example_sheets (codes "G") second_price_row) 200 ≡ Ok (example_statement (codes "1"))
  -- without the second price
  pub unpriced :
      run (example_sheets (codes "N") no_second_price_row) 200 ≡ Err (refusal_of_margin 10 3)
  -- by the step curve, whose rate is 95, and by the sloping one, whose rate is 98
  pub step_run :
      run (two_point_sheets (codes "S")) 200
      ≡ Ok (two_point_statement (codes "-1034294") (codes "3056334"))
  pub sloping_run :
      run (two_point_sheets (codes "L")) 200
      ≡ Ok (two_point_statement (codes "-1035377") (codes "3057417"))
  -- a buffer that is one byte short
  pub short_buffer : run (example_sheets (codes "N") second_price_row) 131 ≡ Err (refusal_of_run 14)
