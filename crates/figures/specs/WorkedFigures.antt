-- The worked figures, of the definitions together.
use Rattle.std.specs.Prelude.{◌≡◌, ℕ, ◌+◌, List, [], ◌∷◌, pos, negsuc, Ok, Err, codes}
use Rattle.std.proofs.Common.{lit≤}
use Rattle.std.specs.Int.Signed.{le_z_yes}
use Rattle.quantities.specs.declared.range.Rate.{Rate}
use Rattle.quantities.specs.Amounts.{present_up, present_down, initial_margin, market_value}
use Rattle.quantities.specs.Dates.{term_answer}
use Rattle.quantities.specs.Isins.{isin_answer}
use Rattle.quantities.specs.Tranches.{tranche}
use Rattle.curve.specs.declared.point.Point.{Point}
use Rattle.curve.specs.Points.{reach_of, step_rate, sloping_rate}
use Rattle.netting.specs.Rules.{net, gross, both_sides}
use Rattle.account.specs.declared.line.Line.{Line}
use Rattle.account.specs.declared.side.Side.TheVariants.{Bought, Sold}
use Rattle.account.specs.declared.block.Block.TheVariants.{Held, CashOnly}
use Rattle.account.specs.declared.scenario.Scenario.TheVariants.{AllTrades, WithoutToday, AfterNext}
use Rattle.account.specs.declared.scope.Scope.TheVariants.{Trades, HeldLines}
use Rattle.account.specs.Settings.{Setting}
use Rattle.account.specs.Rows.{statement_rows}
use Rattle.account.specs.Exact.{fraction_of, exact_margin}
use Rattle.account.specs.Calls.{accepted, refused, given, lines_standing}
use Rattle.account.specs.Answers.{enter_answer, margin_answer, EachDue}
use Rattle.figures.specs.SampleAccounts.{first_isin, second_isin, first_price, both_prices, short_percentage, both_percentages, flat_rate, peak_rate, sample_setting, account_setting, sample_line, account_lines, sample_row, sample_statement, EqualFractions, ten_titles_bought, ten_titles_sold, cents_both_ways, three_titles_both_ways, three_titles_paid, cash_both_ways, titles_bought_today, account_calls, refused_calls}

abbrev rate_of_100 : Rate
rate_of_100 = record { basis_points = pos 100; above = le_z_yes tt; within = le_z_yes tt }

abbrev rate_of_95 : Rate
rate_of_95 = record { basis_points = pos 95; above = le_z_yes tt; within = le_z_yes tt }

-- the points (10, 100) and (20, 95)
abbrev two_points : List Point
two_points =
    record { term = 10; rate = rate_of_100; within = lit≤ tt }
    ∷ (record { term = 20; rate = rate_of_95; within = lit≤ tt } ∷ [])

-- the setting of the account without the price of the second ISIN
abbrev setting_of_one_price : Setting
setting_of_one_price = sample_setting (first_price ∷ []) both_percentages 365 flat_rate net

-- the setting of the account without the percentage of the first ISIN
abbrev setting_of_one_percentage : Setting
setting_of_one_percentage = sample_setting both_prices (short_percentage ∷ []) 365 flat_rate net

-- the setting of the account with a curve that ends before so many days
abbrev setting_of_reach : ℕ → Setting
setting_of_reach reach = sample_setting both_prices both_percentages reach flat_rate net

-- the setting of the account with a rate for a term of 100 days alone
abbrev setting_of_peak : Setting
setting_of_peak = sample_setting both_prices both_percentages 365 peak_rate net

-- ten titles bought, and three paid in another block
abbrev surplus_in_one_block : List Line
surplus_in_one_block = ten_titles_bought ∷ (three_titles_paid ∷ [])

-- three held titles sold
abbrev held_titles_sold : List Line
held_titles_sold = sample_line 1 second_isin Sold 3 300000 (Held 9000) ∷ []

-- the lines that stand after the calls of the account
abbrev lines_after_calls : List Line
lines_after_calls =
    ten_titles_bought ∷ (sample_line 3 first_isin Bought 0 100 (CashOnly 9000) ∷ [])

-- 1,999,999 titles of an ISIN that stand already
abbrev titles_near_the_most : List Line
titles_near_the_most = titles_bought_today 1 1999999 ∷ []

pub record WorkedFigures : Type 0 where
  -- a trade's term, from any today
  pub term_today : (today : ℕ) → term_answer today today ≡ Ok 0
  pub term_tomorrow : (today : ℕ) → term_answer today (today + 1) ≡ Ok 0
  pub term_latest : (today : ℕ) → term_answer today (today + 365) ≡ Ok 364
  pub term_too_late : (today : ℕ) → term_answer today (today + 366) ≡ Err 7
  -- 101,000,000 cents, and 1 cent, at 360 basis points for 100 days
  pub present_value_up : present_up 101000000 (pos 360) 100 ≡ 100000000
  pub present_value_down : present_down 101000000 (pos 360) 100 ≡ 100000000
  pub one_cent_up : present_up 1 (pos 360) 100 ≡ 1
  pub one_cent_down : present_down 1 (pos 360) 100 ≡ 0
  -- 1,000 titles bought and 400 sold
  pub charged_net : net 1000 400 ≡ 600
  pub charged_gross : gross 1000 400 ≡ 1000
  pub charged_both_sides : both_sides 1000 400 ≡ 1400
  -- the tranche of a residual life
  pub life_365 : tranche 365 ≡ 1
  pub life_366 : tranche 366 ≡ 2
  pub life_7300 : tranche 7300 ≡ 5
  pub life_7301 : tranche 7301 ≡ 6
  pub isin_passes : isin_answer (codes "ES0000001018") ≡ Ok (codes "ES0000001018")
  pub isin_refused : isin_answer (codes "ES0000001017") ≡ Err 4
  -- three titles at 999,999, with a percentage of 50
  pub initial_margin_of_three : initial_margin 3 999999 50 ≡ 1500
  pub value_bought : market_value 999999 3 0 ≡ pos 299999
  pub value_sold : market_value 999999 0 3 ≡ negsuc 299999
  -- the two points at term 13, and their reach
  pub sloping_at_13 : sloping_rate two_points 13 ≡ pos 98
  pub step_at_13 : step_rate two_points 13 ≡ pos 95
  pub reach_of_points : reach_of two_points ≡ 21
  -- the account of four lines
  pub account_margin : margin_answer (account_setting net) account_lines ≡ given 1024001 6
  -- its exact margin is 1,024,000.2985
  pub account_exact :
      EqualFractions
      (exact_margin (account_setting net) account_lines)
      (fraction_of (pos 10240002985) 10000)
  pub account_rows :
      statement_rows (account_setting net) account_lines ≡ sample_statement AfterNext
  pub account_rows_gross :
      statement_rows (account_setting gross) account_lines ≡ sample_statement AllTrades
  pub no_second_price : margin_answer setting_of_one_price account_lines ≡ refused 10 3
  pub no_percentage : margin_answer setting_of_one_percentage account_lines ≡ refused 11 1
  pub no_rate : margin_answer (setting_of_reach 100) account_lines ≡ refused 12 1
  pub empty_margin : (s : Setting) → margin_answer s [] ≡ given 0 0
  -- the largest charge has no initial margin
  pub worst_by_charge :
      statement_rows (account_setting net) (ten_titles_bought ∷ (ten_titles_sold 900000 9000 ∷ []))
      ≡ sample_row first_isin (Trades AllTrades) 0 (negsuc 99999) ∷ []
  -- a surplus that settles today leaves scenario 2 without lines
  pub none_left :
      statement_rows (account_setting net) (ten_titles_sold 2000000 9000 ∷ [])
      ≡ sample_row first_isin (Trades WithoutToday) 0 (pos 0) ∷ []
  -- each trade is discounted at the rate of its own term
  pub rates_by_term :
      statement_rows setting_of_peak (ten_titles_bought ∷ (ten_titles_sold 1010000 9051 ∷ []))
      ≡ sample_row first_isin (Trades AllTrades) 0 (pos 10000) ∷ []
  pub cents_rounded_apart : margin_answer (account_setting net) cents_both_ways ≡ given 1 4
  pub surplus_stays_in_its_block :
      margin_answer (account_setting net) surplus_in_one_block ≡ given 10200 5
  pub surplus_stays_in_its_block_exactly :
      EqualFractions
      (exact_margin (account_setting net) surplus_in_one_block)
      (fraction_of (pos 10200) 1)
  pub both_sides_charged :
      margin_answer (account_setting net) three_titles_both_ways ≡ given 6000 4
  pub sold_value :
      statement_rows (account_setting net) held_titles_sold
      ≡ sample_row second_isin HeldLines 1500 (pos 0) ∷ []
  -- only trades need a rate, and cash-only lines need nothing
  pub rate_not_needed : margin_answer (setting_of_reach 0) three_titles_both_ways ≡ given 6000 4
  pub nothing_needed :
      margin_answer (sample_setting [] [] 0 flat_rate net) cash_both_ways ≡ given 100 0
  pub cash_by_isin : margin_answer (account_setting net) cash_both_ways ≡ given 100 0
  pub standing_lines : lines_standing account_calls ≡ lines_after_calls
  pub standing_margin :
      margin_answer (account_setting net) (lines_standing account_calls) ≡ given 10300 3
  -- 2,000,000 titles together pass, and one more is refused
  pub most_titles_together :
      enter_answer 9000 9 titles_near_the_most (titles_bought_today 2 1) ≡ accepted
  pub too_many_titles_together :
      enter_answer 9000 9 titles_near_the_most (titles_bought_today 2 2) ≡ refused 8 2
  -- the answers above are the ones due, and so are the refusals of enter and withdraw in order
  pub calls_due : EachDue (account_setting net) 9 [] account_calls
  pub refusals_due : EachDue (account_setting net) 2 [] refused_calls
