-- What lines without a fault have: a quote.
use Rattle.std.proofs.Common.{◌≡◌, ℕ, ◌<◌, ◌≤◌, Bool, true, false, cond, not, List, [], ◌∷◌, length, Some, Result, Ok, Err, refl, ap, subst, ⊎_elim, arith, rules}
use Rattle.std.proofs.lemmas.Bool.{and_parts, cases_Bool, cond-false}
use Rattle.std.specs.List.{list_all}
use Rattle.std.specs.Option.{option_map}
use Rattle.std.specs.Result.{result_ok}
use Rattle.quantities.specs.RangeChecks.{numbers_of}
use Rattle.quantities.specs.declared.refusal.Refusal.{Refusal}
use Rattle.quantities.specs.declared.isin.Isin.{Isin}
use Rattle.account.specs.declared.line.Line.{Line}
use Rattle.account.specs.Lines.{block_name, is_same_block, same_isin, is_in_block, keep}
use Rattle.account.specs.declared.block_name.BlockName.{BlockName}
use Rattle.account.specs.declared.block_name.BlockName.TheVariants.{Trade as trade, Failed as failed, Held as held, CashOnly as cash_only}
use Rattle.account.specs.Settings.{Setting, has_price, has_percentage}
use Rattle.account.specs.Answers.{fault}
use Rattle.account.proofs.Terms.{same_isin_decides}
use Rattle.valuation.specs.Checks.{Faultless}
use Rattle.valuation.specs.declared.quote.Quote.{Quote}
use Rattle.valuation.specs.Quotes.{quote_parts, quote_answer}
use Rattle.valuation.proofs.Counted.{of_blocks, all_counted}

other_kind : (a k : BlockName) → is_same_block a k ≡ true → is_same_block k cash_only ≡ false → is_same_block a cash_only ≡ false
other_kind trade k h n = refl
other_kind failed k h n = refl
other_kind held k h n = refl
other_kind cash_only trade h n = cc
other_kind cash_only failed h n = cc
other_kind cash_only held h n = cc
other_kind cash_only cash_only h n = n

-- a line with no fault has one, unless it is for cash only
line_quoted : (s : Setting) (l : Line) → is_same_block (block_name l.block) cash_only ≡ false → fault s l ≡ 0 → (has_price s l.isin ≡ true) × (has_percentage s l.isin ≡ true)
line_quoted s l n e = go (is_same_block (block_name l.block) cash_only) (has_price s l.isin) (has_percentage s l.isin) _ n e
  where
    go : (t p q : Bool) (m : ℕ) → t ≡ false → cond t 0 (cond (not p) 10 (cond (not q) 11 m)) ≡ 0 → (p ≡ true) × (q ≡ true)
    go true p q m n e = (cc, cc)
    go false true true m n e = (refl, refl)
    go false true false m n e = absurd (omega arith)
    go false false q m n e = absurd (omega arith)

-- and so has an ISIN with such a line
pub quoted : (s : Setting) (i : Isin) (k : BlockName) (ls : List Line) → is_same_block k cash_only ≡ false → Faultless s ls → 1 ≤ length (keep (is_in_block i k) ls) → (has_price s i ≡ true) × (has_percentage s i ≡ true)
quoted s i k [] n f h = absurd (omega arith)
quoted s i k (l ∷ ls) n f h =
    ⊎_elim
    (λ e. let p = and_parts (same_isin l.isin i) (is_same_block (block_name l.block) k) e in
    subst (λ j. (has_price s j ≡ true) × (has_percentage s j ≡ true)) ((same_isin_decides l.isin i).0 p.0) (line_quoted s l (other_kind (block_name l.block) k p.1 n) f.0))
    (λ e. quoted s i k ls n f.1 (subst (λ ms. 1 ≤ length ms) (cond-false (is_in_block i k l) (l ∷ keep (is_in_block i k) ls) (keep (is_in_block i k) ls) e) h))
    (cases_Bool (is_in_block i k l))

-- a block with titles has lines only where not all are for cash only
pub titles_beside : (i : Isin) (k : BlockName) (ls : List Line) → is_same_block k cash_only ≡ false → list_all (λ l. same_isin l.isin i) ls ≡ true → 1 ≤ length (keep (is_in_block i k) ls) → length (keep (is_in_block i cash_only) ls) < length ls
titles_beside i trade ls n h some = omega (arith, of_blocks i ls, all_counted i ls h)
titles_beside i failed ls n h some = omega (arith, of_blocks i ls, all_counted i ls h)
titles_beside i held ls n h some = omega (arith, of_blocks i ls, all_counted i ls h)
titles_beside i cash_only ls n h some = let z : ◌≡◌ {A = Bool} true false = n in cc

-- and then its quote is found
pub quote_there : (s : Setting) (i : Isin) (r : Result Quote Refusal) → (has_price s i ≡ true) × (has_percentage s i ≡ true) → numbers_of quote_parts r ≡ quote_answer s i → option_map (λ q. Ok (quote_parts q)) (result_ok r) ≡ Some (quote_answer s i)
quote_there s i r h e = go r e
  where
    go : (r : Result Quote Refusal) → numbers_of quote_parts r ≡ quote_answer s i → option_map (λ q. Ok (quote_parts q)) (result_ok r) ≡ Some (quote_answer s i)
    go (Ok q) e = ap Some e
    go (Err x) e = let priced = h.0 in let ranked = h.1 in search rules
