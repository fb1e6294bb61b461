-- The key of a line by ISIN goes by its rank.
use Rattle.std.proofs.Common.{◌≡◌, ◌^◌, ◌<◌, ap, ap₂, ⊎_elim, arith}
use Rattle.std.proofs.lemmas.Bool.{cases_order}
use Rattle.std.specs.Ordering.{nat_cmp, ordering_then}
use Rattle.std.specs.Cmp.{nat_cmp_is}
use Rattle.std.specs.declared.cmp.Ordering.TheVariants.{Less, Equal, Greater}
use Rattle.std.specs.declared.cmp.Ordering.{Ordering}
use Rattle.register.specs.Bytes.{value}
use Rattle.register.specs.Keys.{Compares}
use Rattle.account.specs.declared.isin_reference.IsinReference.{IsinReference}
use Rattle.account.specs.ByIsin.{reference_rank}

pub keyed : (a b : IsinReference) (o : Ordering) → Compares (value 0) a.isin.bytes b.isin.bytes o → a.reference < 2 ^ 32 → b.reference < 2 ^ 32 →
    Compares reference_rank a b (ordering_then o (nat_cmp a.reference b.reference))
keyed a b Less h l m = omega arith
keyed a b Greater h l m = omega arith
keyed a b Equal h l m =
    let ranks = ap (value 0) h in
    ⊎_elim
    (λ (e : a.reference ≡ b.reference). rw (← nat_cmp_is a.reference b.reference Equal e) (ap₂ (λ bs n. record { isin = record { bytes = bs }; reference = n }) h e))
    (⊎_elim
    (λ (w : a.reference < b.reference). rw (← nat_cmp_is a.reference b.reference Less w) (omega arith))
    (λ (w : b.reference < a.reference). rw (← nat_cmp_is a.reference b.reference Greater w) (omega arith)))
    (cases_order a.reference b.reference)
