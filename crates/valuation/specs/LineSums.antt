-- What the lines come to that a row is worked on.
use Rattle.std.specs.Prelude.{◌≡◌, ℕ, ◌+◌, ◌≤◌, if◌then◌else◌, List, length}
use Rattle.std.specs.Coded.{Coded-set, coded_ℕ, le_prop}
use Rattle.account.specs.declared.line.Line.{Line}
use Rattle.account.specs.declared.scope.Scope.{Scope}
use Rattle.account.specs.Lines.{if_bought, if_sold}
use Rattle.account.specs.Settings.{Setting}
use Rattle.valuation.specs.declared.line_sums.LineSums.{LineSums}
use Rattle.valuation.specs.Cash.{cash_of}
use Rattle.valuation.specs.PerSide.{IsSumPerSide, PerSideWithin}
use Rattle.valuation.specs.Scopes.{is_in_scope}

-- the sums of no lines
abbrev pub no_sums : LineSums
no_sums =
    record {
      lines = 0;
      titles = record { bought = 0; sold = 0 };
      cash = record { bought = 0; sold = 0 };
    }

-- the sums of lines: how many they are, their titles and their cash
pub record IsSumOf (s : Setting) (ls : List Line) (p : LineSums) : Type 0 where
  pub lines : p.lines ≡ length ls
  pub titles : IsSumPerSide (λ l. l.titles) ls p.titles
  pub cash : IsSumPerSide (cash_of s) ls p.cash
  pub within : PerSideWithin (length ls) p.cash

pub IsSumOf-prop : (s : Setting) (ls : List Line) (p : LineSums) → IsProp (IsSumOf s ls p)
IsSumOf-prop s ls p a b j =
    record {
      lines = Coded-set coded_ℕ _ _ a.lines b.lines j;
      titles =
          record {
            bought = Coded-set coded_ℕ _ _ a.titles.bought b.titles.bought j;
            sold = Coded-set coded_ℕ _ _ a.titles.sold b.titles.sold j;
          };
      cash =
          record {
            bought = Coded-set coded_ℕ _ _ a.cash.bought b.cash.bought j;
            sold = Coded-set coded_ℕ _ _ a.cash.sold b.cash.sold j;
          };
      within =
          record {
            bought = le_prop a.within.bought b.within.bought j;
            sold = le_prop a.within.sold b.within.sold j;
          };
    }

-- the sums of n lines
pub record SumsWithin (n : ℕ) (p : LineSums) : Type 0 where
  pub lines : p.lines ≤ n
  pub titles : PerSideWithin n p.titles
  pub cash : PerSideWithin n p.cash

-- a number of a line that a row is worked on, and 0 of any other
abbrev pub if_in_scope : Setting → Scope → Line → ℕ → ℕ
if_in_scope s scope l n = if is_in_scope s scope l then n else 0

-- the sums for a row with one more line and its cash, where the row is worked on it
pub record AddsLine (s : Setting) (scope : Scope) (l : Line) (cash : ℕ) (before after : LineSums)
    : Type 0 where
  pub lines : after.lines ≡ before.lines + if_in_scope s scope l 1
  pub bought :
      after.titles.bought ≡ before.titles.bought + if_in_scope s scope l (if_bought l.side l.titles)
  pub sold :
      after.titles.sold ≡ before.titles.sold + if_in_scope s scope l (if_sold l.side l.titles)
  pub charged :
      after.cash.bought ≡ before.cash.bought + if_in_scope s scope l (if_bought l.side cash)
  pub credited :
      after.cash.sold ≡ before.cash.sold + if_in_scope s scope l (if_sold l.side cash)
