-- A number with blanks behind it.
use Rattle.std.proofs.Common.{◌≡◌, ℕ, ◌-◌, ◌^◌, false, [], ◌++◌, length, codes, ap, arith}
use Rattle.std.specs.Fmt.{decimal, padded_integral, char_count, format_spec}
use Rattle.std.specs.List.{repeat}
use Rattle.account.specs.Texts.{reference_text}

pub blanks_behind : (n : ℕ) → padded_integral (format_spec 32 1 0 4 (2 ^ 64 - 1)) false [] (decimal n) ≡ reference_text n
unfolding padded_integral char_count lib.Utf8.encode
blanks_behind n =
    let digits = decimal n in
    let blanks : 4 - length digits - 0 - 0 - 0 ≡ 4 - length digits = omega arith in
    ap (λ k. digits ++ repeat k (codes " ")) blanks
