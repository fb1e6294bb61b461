-- Division that leaves no negative rest rounds down.
use Rattle.std.proofs.Common.{◌≡◌, ℕ, ℤ, pos, negsuc, refl}
use Rattle.std.specs.Int.{int_div_euclid}
use Rattle.quantities.specs.Rounding.{round_down_signed}

pub euclid_down : (z : ℤ) (d : ℕ) → int_div_euclid z (pos d) ≡ round_down_signed z d
euclid_down (pos n) d = refl
euclid_down (negsuc n) d = refl
