use Rattle.std.proofs.Common.{◌≡◌, ◌<◌, IsTrue, length, get_or, reverse, ◌∙◌, zero-add, arith}
use Rattle.std.proofs.lemmas.List.{length_push}
use Rattle.std.proofs.lemmas.Iterator.Consumers.{YieldsList-turn}
use Rattle.std.proofs.lemmas.Iterator.Adapters.{YieldsList-from_rev_slice}
use Rattle.quantities.specs.Isins.{is_letter_or_digit}
use Rattle.quantities.proofs.Shape.{known_from_right}
use Rattle.quantities.proofs.Weights.{all_counted, byte_more}
use Rattle.quantities.proofs.isin.check_sum.Goals.{In-Some}
use Rattle.quantities.proofs.isin.check_sum.Goals as goal

pub loop-byte-init : goal.loop-byte-init
loop-byte-init c = (zero-add _ ∙ all_counted c.args.bytes.now, omega arith)

next_from_right : (c : In-Some) → (length c.loop-byte.yielded < length (reverse c.args.bytes.now)) × (c.in-Some.field-0.now ≡ get_or (reverse c.args.bytes.now) (length c.loop-byte.yielded) c.in-Some.field-0.now)
next_from_right c =
    YieldsList-turn (YieldsList-from_rev_slice c.args.bytes.now cc) c.loop-byte.yielded _ c.loop-byte.yielded_by _ _ c.in-Some.field-0 c.in-Some.is c.next.ensures.steps

known : (c : In-Some) → IsTrue (is_letter_or_digit c.in-Some.field-0.now)
known c = known_from_right c.args.bytes.now _ _ c.requires (next_from_right c)

pub weight-sum-requires : goal.weight-sum-requires
weight-sum-requires c = known ((goal.at.weight-sum-requires c).In-Some)

pub is_one_digit-doubled-requires : goal.is_one_digit-doubled-requires
is_one_digit-doubled-requires c = known ((goal.at.is_one_digit-doubled-requires c).In-Some)

pub loop-byte-preserved : goal.loop-byte-preserved
loop-byte-preserved c =
    rw (length_push c.loop-byte.yielded c.in-Some.field-0, c.is_one_digit-doubled.ensures) (
      byte_more _ _ _ _ _ _ _ (next_from_right ((goal.at.loop-byte-preserved c).In-Some)) c.weight-sum.ensures.is c.loop-byte.invariant.0,
      omega (arith, c.weight-sum.ensures.small),
    )
