use Rattle.std.proofs.Common.{◌≡◌, ℕ, ◌+◌, eqb, false, map, get_or, cond, ap, ◌∙◌, arith, w8}
use Rattle.std.specs.Int.{bit_at}
use Rattle.std.proofs.lemmas.Simd.{bitmask_splat, bit_mask_l, length-chunk, get_or-chunk}
use Rattle.std.proofs.lemmas.List.{get_or-map}
use lib.Lanes.{chunk}
use Rattle.text.proofs.window.marks.Goals as goal

pub returns : goal.returns
returns c k l =
    let is = λ (b : ℕ). eqb b c.args.separator in
    let bytes = c.args.bytes.now in
    let front = chunk 0 64 bytes in
    let long = length-chunk 0 64 bytes c.requires in
    let same : 0 + k ≡ k = omega arith in
    let at = get_or-chunk 0 64 bytes k 0 l ∙ ap (λ j. get_or bytes j 0) same in
    ap (λ m. bit_at m k) (bitmask_splat w8 eqb front 64 c.args.separator long (omega arith))
    ∙ (bit_mask_l (map is front) k ∙ ap (λ b. cond b 1 0) (get_or-map is front k 0 false (omega (arith, long)) ∙ ap is at))
