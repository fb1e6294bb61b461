-- Calls and their answers as they are printed.
use Rattle.std.specs.Prelude.{ℕ, ◌-◌, List, ◌++◌, length, codes}
use Rattle.std.specs.Fmt.{decimal}
use Rattle.std.specs.List.{repeat}
use Rattle.quantities.specs.Refusals.{number, words}
use Rattle.account.specs.declared.call.Call.{Call}
use Rattle.account.specs.declared.call.Call.TheVariants.{Enter, Withdraw, AskMargin}
use Rattle.account.specs.declared.margin.Margin.{Margin}
use Rattle.account.specs.declared.reply.Reply.{Reply}
use Rattle.account.specs.declared.reply.Reply.TheVariants.{Accepted, Given}
use Rattle.account.specs.declared.line_refusal.LineRefusal.{LineRefusal}

-- a reference, with blanks behind it up to four characters
abbrev pub reference_text : ℕ → List ℕ
reference_text reference =
    let digits = decimal reference in digits ++ repeat (4 - length digits) (codes " ")

abbrev pub call_text : Call → List ℕ
call_text (Enter line) = codes "enter    " ++ reference_text line.reference
call_text (Withdraw reference) = codes "withdraw " ++ reference_text reference
call_text AskMargin = codes "margin       "

abbrev pub margin_text : Margin → List ℕ
margin_text margin =
    decimal margin.cents
    ++ (codes " cents, " ++ (decimal margin.rounded_amounts ++ codes " rounded amounts"))

abbrev pub reply_text : Reply → List ℕ
reply_text Accepted = codes "accepted"
reply_text (Given margin) = margin_text margin

abbrev pub line_refusal_text : LineRefusal → List ℕ
line_refusal_text refused =
    codes "refused " ++ (decimal (number refused.refusal)
    ++ (codes ", reference " ++ (decimal refused.reference
    ++ (codes ": " ++ words refused.refusal))))
