-- The sums of the lines of one ISIN, line by line.
use Rattle.std.proofs.Common.{◌≡◌, ℕ, ◌+◌, ◌≤◌, Bool, true, false, cond, ◌&&◌, List, [], ◌∷◌, length, sym, refl, ap, ◌∙◌, arith}
use Rattle.quantities.specs.Ranges.{most_titles}
use Rattle.quantities.specs.declared.isin.Isin.{Isin}
use Rattle.account.specs.declared.line.Line.{Line}
use Rattle.account.specs.declared.scope.Scope.{Scope}
use Rattle.account.specs.Lines.{block_name, is_same_block, same_isin, if_bought, if_sold, sum_of}
use Rattle.account.specs.Rows.{block_of}
use Rattle.account.specs.Settings.{Setting}
use Rattle.valuation.specs.declared.line_sums.LineSums.{LineSums}
use Rattle.valuation.specs.LineSums.{IsSumOf, SumsWithin, AddsLine}
use Rattle.valuation.specs.Scopes.{takes_part, is_in_scope, is_in_row, row_lines}
use Rattle.valuation.specs.Cash.{cash_of}
use Rattle.valuation.proofs.LineLoops.{Summed, summed_more, summed_all, Bounded, bounded_more, bounded_all, bounded_most, bought_most, sold_most}

-- a number of each line that passes p, at most b each, added up to n before the rest
pub record Adding (b : ℕ) (f : Line → ℕ) (p : Line → Bool) (ls rest : List Line) (n : ℕ) : Type 0 where
  pub sum : Summed f p ls rest n
  pub high : Bounded b p ls rest n

adding_more : {b : ℕ} {f : Line → ℕ} {p : Line → Bool} {ls rest next : List Line} {l : Line} {n m : ℕ} (t : Bool) → rest ≡ l ∷ next → t ≡ p l → f l ≤ b → m ≡ n + cond t (f l) 0 → Adding b f p ls rest n → Adding b f p ls next m
adding_more {b} {f} {l = l} {n} {m} t h e d q a = record { sum = summed_more t h e q a.sum; high = bounded_more t h e (within t q) a.high }
  where
    within : (u : Bool) → m ≡ n + cond u (f l) 0 → m ≤ n + cond u b 0
    within true r = omega arith
    within false r = omega arith

ones : (ls : List Line) → sum_of (λ (l : Line). 1) ls ≡ length ls
ones [] = refl
ones (l ∷ ls) = omega (arith, ones ls)

-- the sums for a row, before the rest
pub record SumsBefore (s : Setting) (i : Isin) (scope : Scope) (ls rest : List Line) (p : LineSums) : Type 0 where
  pub lines : Adding 1 (λ l. 1) (is_in_row s i scope) ls rest p.lines
  pub bought : Adding 2000000000000 (λ l. if_bought l.side l.titles) (is_in_row s i scope) ls rest p.titles.bought
  pub sold : Adding 2000000000000 (λ l. if_sold l.side l.titles) (is_in_row s i scope) ls rest p.titles.sold
  pub charged : Adding 2000000000000 (λ l. if_bought l.side (cash_of s l)) (is_in_row s i scope) ls rest p.cash.bought
  pub credited : Adding 2000000000000 (λ l. if_sold l.side (cash_of s l)) (is_in_row s i scope) ls rest p.cash.sold

module _ (s : Setting) (i : Isin) (scope : Scope) (ls : List Line) where
  scope_is_row : (l : Line) → same_isin l.isin i ≡ true → is_in_scope s scope l ≡ is_in_row s i scope l
  scope_is_row l e = ap (λ b. (b && is_same_block (block_name l.block) (block_of scope)) && takes_part s scope l) (sym e)

  pub before_next : {rest next : List Line} {l : Line} {cash : ℕ} {p q : LineSums} → rest ≡ l ∷ next → same_isin l.isin i ≡ true → l.titles ≤ most_titles → cash ≡ cash_of s l → cash ≤ 2000000000000 →
      AddsLine s scope l cash p q → SumsBefore s i scope ls rest p → SumsBefore s i scope ls next q
  before_next {l = l} {cash} {p} h e few c m w a =
      let d : l.titles ≤ 2000000000000 = omega arith in
      let t = is_in_scope s scope l in
      let u = scope_is_row l e in
      let n : cash_of s l ≤ 2000000000000 = omega arith in
      record {
        lines = adding_more t h u (omega arith) w.lines a.lines;
        bought = adding_more t h u (bought_most l.side l.titles _ d) w.bought a.bought;
        sold = adding_more t h u (sold_most l.side l.titles _ d) w.sold a.sold;
        charged = adding_more t h u (bought_most l.side (cash_of s l) _ n) (w.charged ∙ ap (λ x. p.cash.bought + cond t (if_bought l.side x) 0) c) a.charged;
        credited = adding_more t h u (sold_most l.side (cash_of s l) _ n) (w.credited ∙ ap (λ x. p.cash.sold + cond t (if_sold l.side x) 0) c) a.credited;
      }

  pub before_room : {rest : List Line} {p : LineSums} → length ls ≤ 65535 → SumsBefore s i scope ls rest p → SumsWithin 65535 p
  before_room few a =
      record {
        lines = omega (arith, bounded_most a.lines.high);
        titles = record { bought = omega (arith, bounded_most a.bought.high); sold = omega (arith, bounded_most a.sold.high) };
        cash = record { bought = omega (arith, bounded_most a.charged.high); sold = omega (arith, bounded_most a.credited.high) };
      }

  pub before_end : {rest : List Line} {p : LineSums} → rest ≡ [] → SumsBefore s i scope ls rest p → IsSumOf s (row_lines s i scope ls) p
  before_end h a =
      record {
        lines = summed_all h a.lines.sum ∙ ones (row_lines s i scope ls);
        titles = record { bought = summed_all h a.bought.sum; sold = summed_all h a.sold.sum };
        cash = record { bought = summed_all h a.charged.sum; sold = summed_all h a.credited.sum };
        within = record { bought = bounded_all a.charged.high; sold = bounded_all a.credited.high };
      }
