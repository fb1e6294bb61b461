-- The first separator, by the bits that mark separators.
use Rattle.std.proofs.Common.{◌≡◌, ◌≢◌, ℕ, ◌+◌, ◌-◌, ◌<◌, ◌≤◌, Bool, true, false, cond, eqb, List, length, drop, get_or, length-drop, Some, None, le_of_suc-le-suc, lt_of_not-le, eqb-true, refl, sym, ap, ◌∙◌, arith}
use Rattle.std.specs.Int.{bit_at}
use Rattle.std.specs.List.{position}
use Rattle.std.proofs.lemmas.Bool.{eqb-false}
use Rattle.std.proofs.lemmas.Bool.Decides.{nat_tests}
use Rattle.std.proofs.lemmas.List.{get_or-drop}
use Rattle.std.proofs.lemmas.List.Sums.{position_or_len_is}

pub is_set : (b : Bool) → cond {A = ℕ} b 1 0 ≡ 1 → b ≡ true
is_set true e = refl
is_set false e = absurd (omega arith)

pub is_clear : (b : Bool) → cond {A = ℕ} b 1 0 ≡ 0 → b ≡ false
is_clear true e = absurd (omega arith)
is_clear false e = refl

module _ (p : ℕ → Bool) (bs : List ℕ) where
  pub first_at : (i : ℕ) → i < length bs → ((k : ℕ) → k < i → p (get_or bs k 0) ≡ false) → p (get_or bs i 0) ≡ true → position p bs ≡ Some i
  first_at i l before h =
      let e = position_or_len_is p bs i 0 (omega arith) before (λ _. h) in
      rw e (grind (arith, nat_tests))

  pub nowhere : ((k : ℕ) → k < length bs → p (get_or bs k 0) ≡ false) → position p bs ≡ None
  nowhere all =
      let e = position_or_len_is p bs (length bs) 0 (omega arith) all (λ l. absurd (omega arith)) in
      rw e (grind (arith, nat_tests))

-- from start on the semicolons of a line are marked, and its end
pub record Marked (line : List ℕ) (start marks : ℕ) : Type 0 where
  pub behind : (k : ℕ) → k < start → bit_at marks k ≡ 0
  pub each : (k : ℕ) → start ≤ k → k < length line → bit_at marks k ≡ cond (eqb (get_or line k 0) 59) 1 0
  pub end : bit_at marks (length line) ≡ 1

abbrev semicolon : ℕ → Bool
semicolon b = eqb b 59

-- the lowest mark is the next semicolon, or else the end
module _ (line : List ℕ) (start marks at : ℕ) (m : Marked line start marks) (set : bit_at marks at ≡ 1) (below : (k : ℕ) → k < at → bit_at marks k ≡ 0) where
  pub ahead : start ≤ at
  ahead = le_of_suc-le-suc (lt_of_not-le (λ l. absurd (omega (arith, set, m.behind at l))))

  pub up_to_end : at ≤ length line
  up_to_end = le_of_suc-le-suc (lt_of_not-le (λ l. absurd (omega (arith, m.end, below (length line) l))))

  fails : (k : ℕ) → start + k < at → semicolon (get_or (drop start line) k 0) ≡ false
  fails k l =
      let at_k = get_or-drop start line k 0 in
      ap semicolon at_k ∙ is_clear _ (sym (m.each (start + k) (omega arith) (omega (arith, l, up_to_end))) ∙ below (start + k) l)

  pub no_more : at ≡ length line → position semicolon (drop start line) ≡ None
  no_more e = nowhere semicolon (drop start line) (λ k l. fails k (omega (arith, e, l, length-drop start line)))

  pub next : at ≢ length line → position semicolon (drop start line) ≡ Some (at - start)
  next n =
      let l : at < length line = omega (arith, n, up_to_end) in
      let back : start + (at - start) ≡ at = omega (arith, ahead) in
      let here = get_or-drop start line (at - start) 0 ∙ ap (λ k. get_or line k 0) back in
      first_at semicolon (drop start line) (at - start) (omega (arith, l, ahead, length-drop start line)) (λ k less. fails k (omega (arith, less, ahead)))
      (ap semicolon here ∙ is_set _ (sym (m.each at ahead l) ∙ set))

-- what is left of the marks
pub later : (line : List ℕ) (start marks at left : ℕ) → Marked line start marks → ((k : ℕ) → k < at → bit_at marks k ≡ 0) → start ≤ at → at ≢ length line → length line < 64 → bit_at left at ≡ 0 → ((k : ℕ) → k < 64 → k ≢ at → bit_at left k ≡ bit_at marks k) → at < 64 → Marked line (at + 1) left
later line start marks at left m below from n short cleared kept l = record {
  behind = λ k h. by_place k h (eqb k at) refl;
  each = λ k h i. kept k (omega (arith, i, short)) (λ e. absurd (omega (arith, e, h))) ∙ m.each k (omega (arith, h, from)) i;
  end = kept (length line) short (λ e. n (sym e)) ∙ m.end;
}
  where
    by_place : (k : ℕ) → k < at + 1 → (b : Bool) → eqb k at ≡ b → bit_at left k ≡ 0
    by_place k h true e = ap (bit_at left) (eqb-true k at e) ∙ cleared
    by_place k h false e =
        let apart = eqb-false k at e in
        kept k (omega (arith, h, l)) apart ∙ below k (omega (arith, h, apart))
