-- The lines that a row is worked on.
use Rattle.std.specs.Prelude.{ℕ, Bool, true, not, ◌&&◌, List, ◌==◌, nat_le}
use Rattle.quantities.specs.declared.isin.Isin.{Isin}
use Rattle.account.specs.declared.line.Line.{Line}
use Rattle.account.specs.declared.scenario.Scenario.{Scenario}
use Rattle.account.specs.declared.scenario.Scenario.TheVariants.{AllTrades, WithoutToday, AfterNext}
use Rattle.account.specs.declared.scope.Scope.{Scope}
use Rattle.account.specs.declared.scope.Scope.TheVariants.{Trades, FailedLines, HeldLines, CashOnlyLines}
use Rattle.account.specs.Lines.{date, block_name, is_same_block, is_in_block, keep}
use Rattle.account.specs.declared.block_name.BlockName.{BlockName}
use Rattle.account.specs.declared.block_name.BlockName.TheVariants.{Trade as trade, Failed as failed, Held as held, CashOnly as cash_only}
use Rattle.account.specs.Settings.{Setting}
use Rattle.account.specs.Rows.{block_of}

-- the scope that leaves no line of a block out
abbrev pub whole_scope : BlockName → Scope
whole_scope trade = Trades AllTrades
whole_scope failed = FailedLines
whole_scope held = HeldLines
whole_scope cash_only = CashOnlyLines

-- whether a trade of a date takes part in a scenario
abbrev pub settles_in : Setting → Scenario → ℕ → Bool
settles_in s AllTrades d = true
settles_in s WithoutToday d = not (d == s.today)
settles_in s AfterNext d = not (nat_le d s.next)

-- whether a line of its block takes part in a row
abbrev pub takes_part : Setting → Scope → Line → Bool
takes_part s (Trades n) l = settles_in s n (date l.block)
takes_part s FailedLines l = true
takes_part s HeldLines l = true
takes_part s CashOnlyLines l = true

-- whether a line is of the block of a row and takes part in it
abbrev pub is_in_scope : Setting → Scope → Line → Bool
is_in_scope s scope l = is_same_block (block_name l.block) (block_of scope) && takes_part s scope l

-- whether a line is worked on for the row of an ISIN
abbrev pub is_in_row : Setting → Isin → Scope → Line → Bool
is_in_row s i scope l = is_in_block i (block_of scope) l && takes_part s scope l

-- the lines that the row of an ISIN is worked on
abbrev pub row_lines : Setting → Isin → Scope → List Line → List Line
row_lines s i scope ls = keep (is_in_row s i scope) ls
