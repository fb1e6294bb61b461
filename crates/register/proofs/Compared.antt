-- A comparison of keys, as one of their ranks.
use Rattle.std.proofs.Common.{◌≡◌, ℕ, ◌<◌, ◌≤◌, true, false, ltb, sym, ap, arith}
use Rattle.std.proofs.lemmas.Bool.{false≢true, lt-ltb, le-ltb}
use Rattle.std.specs.Ordering.{is_lt, is_eq}
use Rattle.std.specs.declared.cmp.Ordering.TheVariants.{Less, Equal, Greater}
use Rattle.std.specs.declared.cmp.Ordering.{Ordering}
use Rattle.register.specs.Keys.{Compares}

pub lower : {K : Type 0} (rank : K → ℕ) (a b : K) (o : Ordering) → Compares rank a b o → is_lt o ≡ ltb (rank a) (rank b)
lower rank a b Less h = rw (lt-ltb (rank a) (rank b) h)
lower rank a b Equal h =
    let e = ap rank h in
    rw (le-ltb (rank a) (rank b) (omega arith))
lower rank a b Greater h = rw (le-ltb (rank a) (rank b) (omega arith))

pub same : {K : Type 0} (rank : K → ℕ) (a b : K) (o : Ordering) → Compares rank a b o → is_eq o ≡ true → a ≡ b
same rank a b Less h e = absurd (false≢true e)
same rank a b Equal h e = h
same rank a b Greater h e = absurd (false≢true e)

pub higher : {K : Type 0} (rank : K → ℕ) (a b : K) (o : Ordering) → Compares rank a b o → is_eq o ≡ false → rank b ≤ rank a → rank b < rank a
higher rank a b Less h e l = absurd (omega arith)
higher rank a b Equal h e l = absurd (false≢true (sym e))
higher rank a b Greater h e l = h
