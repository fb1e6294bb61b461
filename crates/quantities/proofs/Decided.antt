-- What an answer says of the test behind it.
use Rattle.std.proofs.Common.{◌≡◌, ℕ, Bool, true, false, cond, Ok, Err, Result, refl, arith}

pub accepted : {Y E : Type 0} (passed : Bool) (x y : Y) (n : E) → ◌≡◌ {A = Result Y E} (Ok x) (cond passed (Ok y) (Err n)) → (passed ≡ true) × (x ≡ y)
accepted true x y n e = (refl, cc)
accepted false x y n e = let z : ◌≡◌ {A = ℕ} 0 1 = cc in absurd (omega arith)

pub refused : {Y E : Type 0} (passed : Bool) (y : Y) (m n : E) → ◌≡◌ {A = Result Y E} (Err m) (cond passed (Ok y) (Err n)) → (passed ≡ false) × (m ≡ n)
refused true y m n e = let z : ◌≡◌ {A = ℕ} 0 1 = cc in absurd (omega arith)
refused false y m n e = (refl, cc)
