-- The lines of a scope are those of its block, without those that take no part.
use Rattle.std.proofs.Common.{◌≡◌, ℕ, ◌+◌, ◌≤◌, Bool, true, false, cond, ◌&&◌, List, [], ◌∷◌, length, refl, ap, ◌∙◌, arith}
use Rattle.quantities.specs.declared.isin.Isin.{Isin}
use Rattle.quantities.specs.Ranges.{most_titles}
use Rattle.account.specs.declared.side.Side.{Side}
use Rattle.account.specs.declared.side.Side.TheVariants.{Bought, Sold}
use Rattle.account.specs.declared.line.Line.{Line}
use Rattle.account.specs.declared.scenario.Scenario.TheVariants.{AllTrades}
use Rattle.account.specs.declared.scope.Scope.{Scope}
use Rattle.account.specs.declared.scope.Scope.TheVariants.{Trades, FailedLines, HeldLines, CashOnlyLines}
use Rattle.account.specs.Lines.{if_bought, if_sold, is_in_block, keep, sum_of}
use Rattle.account.specs.declared.block_name.BlockName.{BlockName}
use Rattle.account.specs.declared.block_name.BlockName.TheVariants.{Trade as trade, Failed as failed, Held as held, CashOnly as cash_only}
use Rattle.account.specs.Settings.{Setting}
use Rattle.account.specs.Charges.{titles_bought, titles_sold}
use Rattle.account.specs.Answers.{titles_of}
use Rattle.account.specs.Rows.{block_of}
use Rattle.valuation.specs.declared.per_side.PerSide.{PerSide}
use Rattle.valuation.specs.PerSide.{IsSumPerSide}
use Rattle.valuation.specs.Scopes.{whole_scope, takes_part, is_in_row, row_lines}
use Rattle.valuation.proofs.LineLoops.{kept_length}

pub lines_split : (s : Setting) (i : Isin) (scope : Scope) (ls : List Line) → row_lines s i scope ls ≡ keep (takes_part s scope) (keep (is_in_block i (block_of scope)) ls)
lines_split s i scope [] = refl
lines_split s i scope (l ∷ ls) = ap (λ ms. cond (is_in_row s i scope l) (l ∷ ms) ms) (lines_split s i scope ls) ∙ go (is_in_block i (block_of scope) l)
  where
    go : (b : Bool) → cond (b && takes_part s scope l) (l ∷ keep (takes_part s scope) (keep (is_in_block i (block_of scope)) ls)) (keep (takes_part s scope) (keep (is_in_block i (block_of scope)) ls))
        ≡ keep (takes_part s scope) (cond b (l ∷ keep (is_in_block i (block_of scope)) ls) (keep (is_in_block i (block_of scope)) ls))
    go true = refl
    go false = refl

-- ---- their titles
both_titles : (ls : List Line) → titles_bought ls + titles_sold ls ≡ sum_of (λ l. l.titles) ls
both_titles [] = refl
both_titles (l ∷ ls) = omega (arith, both_titles ls, go l.side)
  where
    go : (s : Side) → if_bought s l.titles + if_sold s l.titles ≡ l.titles
    go Bought = omega arith
    go Sold = omega arith

kept_less : (f : Line → ℕ) (p : Line → Bool) (ls : List Line) → sum_of f (keep p ls) ≤ sum_of f ls
kept_less f p [] = omega arith
kept_less f p (l ∷ ls) = go (p l) (kept_less f p ls)
  where
    go : (b : Bool) → sum_of f (keep p ls) ≤ sum_of f ls → sum_of f (cond b (l ∷ keep p ls) (keep p ls)) ≤ f l + sum_of f ls
    go true h = omega arith
    go false h = omega arith

titles_within : (s : Setting) (ls : List Line) → ((i : Isin) (k : BlockName) → titles_of i k ls ≤ most_titles) → (i : Isin) (scope : Scope) → titles_bought (row_lines s i scope ls) + titles_sold (row_lines s i scope ls) ≤ most_titles
titles_within s ls titles i scope =
    let k : List Line = keep (is_in_block i (block_of scope)) ls in
    let e : sum_of (λ (l : Line). l.titles) (row_lines s i scope ls) ≡ sum_of (λ (l : Line). l.titles) (keep (takes_part s scope) k) = ap (sum_of (λ (l : Line). l.titles)) (lines_split s i scope ls) in
    omega (arith, both_titles (row_lines s i scope ls), e, kept_less (λ (l : Line). l.titles) (takes_part s scope) k, titles i (block_of scope))

pub sums_within : (s : Setting) (ls : List Line) → ((i : Isin) (k : BlockName) → titles_of i k ls ≤ most_titles) → (i : Isin) (scope : Scope) {p : PerSide} → IsSumPerSide (λ l. l.titles) (row_lines s i scope ls) p → p.bought + p.sold ≤ most_titles
sums_within s ls titles i scope e = omega (arith, e.bought, e.sold, titles_within s ls titles i scope)

-- ---- how many they are
pub lines_few : (s : Setting) (ls : List Line) → length ls ≤ 65535 → (i : Isin) (scope : Scope) → length (row_lines s i scope ls) ≤ 65535
lines_few s ls few i scope = omega (arith, kept_length (is_in_row s i scope) ls)

pub block_few : (ls : List Line) → length ls ≤ 65535 → (i : Isin) (k : BlockName) → length (keep (is_in_block i k) ls) ≤ 65535
block_few ls few i k = omega (arith, kept_length (is_in_block i k) ls)

pub lines_fewer : (s : Setting) (i : Isin) (scope : Scope) (ls : List Line) → length (row_lines s i scope ls) ≤ length (keep (is_in_block i (block_of scope)) ls)
lines_fewer s i scope ls = omega (arith, ap length (lines_split s i scope ls), kept_length (takes_part s scope) (keep (is_in_block i (block_of scope)) ls))

-- ---- scopes that leave no line of their block out
keep_all : (ls : List Line) → keep (λ (l : Line). true) ls ≡ ls
keep_all [] = refl
keep_all (l ∷ ls) = ap (λ ms. l ∷ ms) (keep_all ls)

pub lines_all : (s : Setting) (i : Isin) (ls : List Line) → row_lines s i (Trades AllTrades) ls ≡ keep (is_in_block i trade) ls
lines_all s i ls = lines_split s i (Trades AllTrades) ls ∙ keep_all (keep (is_in_block i trade) ls)

pub lines_failed : (s : Setting) (i : Isin) (ls : List Line) → row_lines s i FailedLines ls ≡ keep (is_in_block i failed) ls
lines_failed s i ls = lines_split s i FailedLines ls ∙ keep_all (keep (is_in_block i failed) ls)

pub lines_held : (s : Setting) (i : Isin) (ls : List Line) → row_lines s i HeldLines ls ≡ keep (is_in_block i held) ls
lines_held s i ls = lines_split s i HeldLines ls ∙ keep_all (keep (is_in_block i held) ls)

pub lines_cash : (s : Setting) (i : Isin) (ls : List Line) → row_lines s i CashOnlyLines ls ≡ keep (is_in_block i cash_only) ls
lines_cash s i ls = lines_split s i CashOnlyLines ls ∙ keep_all (keep (is_in_block i cash_only) ls)

pub lines_of_block : (s : Setting) (i : Isin) (k : BlockName) (ls : List Line) → row_lines s i (whole_scope k) ls ≡ keep (is_in_block i k) ls
lines_of_block s i trade ls = lines_all s i ls
lines_of_block s i failed ls = lines_failed s i ls
lines_of_block s i held ls = lines_held s i ls
lines_of_block s i cash_only ls = lines_cash s i ls
