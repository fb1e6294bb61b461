-- What is made where tests pass.
use Rattle.std.proofs.Common.{◌≡◌, Bool, true, false, Some, refl, ap, ◌∙◌}
use Rattle.std.specs.Prelude.{IsTrue}
use Rattle.std.proofs.Props.{props}
use Rattle.rows.specs.Forms.{if_passed, if_both}

is_true_prop : (b : Bool) → IsProp (IsTrue b)
is_true_prop b = hlevel props

pub if_passed-true : {X : Type 0} (b : Bool) (make : IsTrue b → X) (e : IsTrue b) → if_passed b make ≡ Some (make e)
if_passed-true true make e = ap (λ t. Some (make t)) (is_true_prop true refl e)
if_passed-true false make e = cc

pub if_both-true : {X : Type 0} (b c : Bool) (make : IsTrue b → IsTrue c → X) (e : IsTrue b) (h : IsTrue c) → if_both b c make ≡ Some (make e h)
if_both-true true c make e h = if_passed-true c (make refl) h ∙ ap (λ t. Some (make t h)) (is_true_prop true refl e)
if_both-true false c make e h = cc

pub if_passed-some : {X : Type 0} (b : Bool) (make : IsTrue b → X) (x : X) → if_passed b make ≡ Some x → (e : IsTrue b) × (make e ≡ x)
if_passed-some true make x e = (refl, cc)
if_passed-some false make x e = cc

pub if_both-some : {X : Type 0} (b c : Bool) (make : IsTrue b → IsTrue c → X) (x : X) → if_both b c make ≡ Some x → (e : IsTrue b) × ((h : IsTrue c) × (make e h ≡ x))
if_both-some true c make x e = (refl, if_passed-some c (make refl) x e)
if_both-some false c make x e = cc
