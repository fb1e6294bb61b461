-- What a cell says has one spelling: of each form that a cell has.
use Rattle.std.proofs.Common.{◌≡◌, ℕ, ◌<◌, ◌≤◌, ◌^◌, Bool, true, false, cond, ◌&&◌, Option, Some, None, refl, sym, ap, ◌∙◌, nat_le, arith}
use Rattle.std.specs.Prelude.{is_some, unwrap_or, option_and_then}
use Rattle.std.specs.Fmt.{decimal}
use Rattle.std.specs.Str.{bytes_eq}
use Rattle.std.proofs.lemmas.Bool.{and_parts, leb-true, cond-true}
use Rattle.std.proofs.Math.Dec.{leb-zero}
use Rattle.std.proofs.lemmas.Slice.Eq.{bytes_eq-Decides}
use Rattle.std.proofs.lemmas.Option.{option_and_then_some, cond_some}
use Rattle.text.specs.Cells.{Cell}
use Rattle.text.specs.Numbers.{number, number_in, within}
use Rattle.text.proofs.Spelled.{printed_law, spelling_law}

pub record Spells {X : Type 0} (part : Cell → Option X) (in_range : X → Bool) (spelling : X → Cell) : Type 0 where
  pub read : (cell : Cell) (x : X) → part cell ≡ Some x → (spelling x ≡ cell) × (in_range x ≡ true)
  pub spelled : (x : X) → in_range x ≡ true → part (spelling x) ≡ Some x

from_some : {X : Type 0} (P : X → Type 0) (d : X) (o : Option X) → is_some o ≡ true → ((x : X) → o ≡ Some x → P x) → P (unwrap_or o d)
from_some P d None h f = cc
from_some P d (Some x) h f = f x refl

pub spelling-unwrap_or : {X : Type 0} {part : Cell → Option X} {in_range : X → Bool} {spelling : X → Cell} → Spells part in_range spelling →
    (cell : Cell) (d : X) → is_some (part cell) ≡ true → (spelling (unwrap_or (part cell) d) ≡ cell) × (in_range (unwrap_or (part cell) d) ≡ true)
spelling-unwrap_or {part = part} {in_range = in_range} {spelling = spelling} s cell d h =
    from_some (λ x. (spelling x ≡ cell) × (in_range x ≡ true)) d (part cell) h (s.read cell)

pub unwrap_or-spelling : {X : Type 0} {part : Cell → Option X} {in_range : X → Bool} {spelling : X → Cell} → Spells part in_range spelling →
    (x d : X) → in_range x ≡ true → (is_some (part (spelling x)) ≡ true) × (unwrap_or (part (spelling x)) d ≡ x)
unwrap_or-spelling s x d h = let e = s.spelled x h in (ap is_some e, ap (λ o. unwrap_or o d) e)

number_read : (low high : ℕ) (cell : Cell) (n : ℕ) → high < 2 ^ 64 → number_in low high cell ≡ Some n → (decimal n ≡ cell) × ((nat_le low n && nat_le n high) ≡ true)
number_read low high cell n l e =
    option_and_then_some (within low high) (number cell) n e (λ m o w.
    let c = cond_some (nat_le low m && nat_le m high) m n w in
    let t : (nat_le low n && nat_le n high) ≡ true = rw (← c.1) c.0 in
    let b = leb-true n high (and_parts (nat_le low n) (nat_le n high) t).1 in
    (sym (spelling_law cell n (omega arith) (o ∙ ap Some c.1)), t))

number_spelled : (low high n : ℕ) → high < 2 ^ 64 → (nat_le low n && nat_le n high) ≡ true → number_in low high (decimal n) ≡ Some n
number_spelled low high n l h =
    let b = leb-true n high (and_parts (nat_le low n) (nat_le n high) h).1 in
    rw (printed_law n (omega arith)) (cond-true _ _ _ h)

pub numbers : (low high : ℕ) → high < 2 ^ 64 → Spells (number_in low high) (λ n. nat_le low n && nat_le n high) decimal
numbers low high l = record { read = λ cell n e. number_read low high cell n l e; spelled = λ n h. number_spelled low high n l h }

pub same_range : {X : Type 0} {part : Cell → Option X} {p : X → Bool} {spelling : X → Cell} (q : X → Bool) → ((x : X) → p x ≡ q x) → Spells part p spelling → Spells part q spelling
same_range q e s =
    record {
      read = λ cell x h. let r = s.read cell x h in (r.0, sym (e x) ∙ r.1);
      spelled = λ x h. s.spelled x (e x ∙ h);
    }

pub numbers_to : (high : ℕ) → high < 2 ^ 64 → Spells (number_in 0 high) (λ n. nat_le n high) decimal
numbers_to high l = same_range (λ n. nat_le n high) (λ n. ap (λ t. t && nat_le n high) (leb-zero n)) (numbers 0 high l)

-- quantities that numbers make
pub quantities : {X : Type 0} (make : ℕ → Option X) (get : X → ℕ) (high : ℕ) → high < 2 ^ 64 → ((x : X) → get x ≤ high) → ((x : X) → make (get x) ≡ Some x) →
    ((n : ℕ) (x : X) → make n ≡ Some x → get x ≡ n) → Spells (λ cell. option_and_then make (number cell)) (λ x. true) (λ x. decimal (get x))
quantities make get high l short back same =
    record {
      read = λ cell x e. (option_and_then_some make (number cell) x e (λ n o m. let s = short x in sym (spelling_law cell (get x) (omega arith) (o ∙ ap Some (sym (same n x m))))), refl);
      spelled = λ x h. let s = short x in (rw (printed_law (get x) (omega arith)) (back x));
    }

if_letter : {X : Type 0} (spelling : X → Cell) (cell letter : Cell) (x z : X) (o : Option X) (t : Bool) → spelling x ≡ letter → (o ≡ Some z → spelling z ≡ cell) → (t ≡ true → cell ≡ letter) → cond t (Some x) o ≡ Some z → spelling z ≡ cell
if_letter spelling cell letter x z o true s more is e = ap spelling (sym (cond_some true x z e).1) ∙ (s ∙ sym (is refl))
if_letter spelling cell letter x z o false s more is e = more e

-- one more letter of those that a cell may be
pub or_letter : {X : Type 0} (spelling : X → Cell) (cell letter : Cell) (x z : X) (o : Option X) → spelling x ≡ letter → (o ≡ Some z → spelling z ≡ cell) → cond (bytes_eq cell letter) (Some x) o ≡ Some z → spelling z ≡ cell
or_letter spelling cell letter x z o s more e = if_letter spelling cell letter x z o (bytes_eq cell letter) s more (bytes_eq-Decides cell letter).0 e
