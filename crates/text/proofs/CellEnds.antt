-- The ends of a line's cells, found one by one.
use Rattle.std.proofs.Common.{◌≡◌, ℕ, zero, suc, ◌+◌, ◌-◌, ◌<◌, ◌≤◌, eqb, Bool, true, false, List, [], ◌∷◌, length, take, drop, get_or, set, length-drop, Some, None, sym, refl, ap, ◌∙◌, arith}
use Rattle.std.specs.List.{position}
use Rattle.std.proofs.lemmas.Bool.{ltb-true, eqb-true, eqb-false}
use Rattle.std.proofs.lemmas.List.{drop_more, drop_all, drop-drop, drop-set-lt, take_all, get_or-set_same, get_or-set_other, length-set}
use Rattle.std.proofs.lemmas.List.Splits.{slice_split_first}
use Rattle.std.proofs.lemmas.Option.{cond_some}
use Rattle.text.specs.Cells.{cells}
use Rattle.text.specs.Ends.{start_of, StandsAt, EndThere, TakesEnds}
use Rattle.text.proofs.Parts.{some_part, only_one}

-- the first cells of a line end where the room says, which is as it was behind them
pub record Upto (line old room : List ℕ) (n : ℕ) : Type 0 where
  pub each : EndThere line room n
  pub start : start_of room n ≤ length line
  pub rest : drop n (cells line) ≡ cells (drop (start_of room n) line)
  pub size : length room ≡ length old
  pub behind : drop n room ≡ drop n old

first_cell : (bs : List ℕ) (k : ℕ) → position (λ b. eqb b 59) bs ≡ Some k → (k < length bs) × (cells bs ≡ take k bs ∷ cells (drop (k + 1) bs))
first_cell bs k e =
    let c = cond_some _ _ k e in
    let l = ltb-true _ _ c.0 in
    rw (← c.1) (l, slice_split_first (λ b. eqb b 59) bs 0 l)

drop_one_more : (n : ℕ) (xs ys : List ℕ) → drop n xs ≡ drop n ys → drop (n + 1) xs ≡ drop (n + 1) ys
drop_one_more n xs ys e = sym (drop-drop 1 n xs) ∙ (ap (drop 1) e ∙ drop-drop 1 n ys)

some_cell : (bs : List ℕ) → 0 < length (cells bs)
some_cell bs = some_part 59 bs

-- what a list holds from a place on
held : {X : Type 0} → (xs ys : List X) (n : ℕ) (x d : X) → drop n xs ≡ x ∷ ys → (n < length xs) × (get_or xs n d ≡ x) × (drop (n + 1) xs ≡ ys)
held xs ys n x d e =
    let l : n < length xs = omega (arith, length-drop n xs, ap length e) in
    let s = sym (drop_more xs n d l) ∙ e in
    (l, ap (λ zs. get_or zs 0 d) s, ap (drop 1) s)

module _ (line old room : List ℕ) (n p : ℕ) (l : n < length room) (u : Upto line old room n) where
  abbrev put : List ℕ
  put = set room n p

  here : get_or put n 0 ≡ p
  here = get_or-set_same room n p 0 l

  earlier : (i : ℕ) → i < n → get_or put i 0 ≡ get_or room i 0
  earlier i m = get_or-set_other room n i p 0 (λ e. absurd (omega arith))

  same_start : (i : ℕ) → i ≤ n → start_of put i ≡ start_of room i
  same_start zero m = refl
  same_start (suc i) m = ap (λ e. e + 1) (earlier i (omega arith))

  -- with one more cell, which ends at p
  placed : StandsAt line n (start_of room n) p → EndThere line put (n + 1)
  placed s i m = by_place (eqb i n) refl
    where
      by_place : (b : Bool) → eqb i n ≡ b → StandsAt line i (start_of put i) (get_or put i 0)
      by_place true e =
          let same = eqb-true i n e in
          rw (same, same_start n (omega arith), here) s
      by_place false e =
          let other = eqb-false i n e in
          let m : i < n = omega (arith, other) in
          rw (same_start i (omega arith), earlier i m) (u.each i m)

  put_size : length put ≡ length old
  put_size = length-set room n p ∙ u.size

  put_behind : drop (n + 1) put ≡ drop (n + 1) old
  put_behind = drop-set-lt (n + 1) room n p (omega arith) ∙ drop_one_more n room old u.behind

  pub next_start : start_of put (n + 1) ≡ p + 1
  next_start =
      let e : n + 1 ≡ suc n = omega arith in
      ap (start_of put) e ∙ ap (λ q. q + 1) here

  -- a cell ends at a semicolon
  pub step : (k : ℕ) → position (λ b. eqb b 59) (drop (start_of room n) line) ≡ Some k → p ≡ start_of room n + k → Upto line old put (n + 1)
  step k e q =
      let s = start_of room n in
      let f = first_cell (drop s line) k e in
      let h = held (cells line) _ n _ [] (u.rest ∙ f.1) in
      let len : k ≡ p - s = omega (arith, q) in
      let on : s + (k + 1) ≡ p + 1 = omega (arith, q) in
      let within : s + k < length line = omega (arith, f.0, length-drop s line) in
      record {
        each = placed (record { ordered = omega (arith, q); within = omega (arith, q, within); is = h.1 ∙ ap (λ j. take j (drop s line)) len });
        start = omega (arith, next_start, q, within);
        rest = h.2 ∙ ap cells (drop-drop (k + 1) s line ∙ ap (λ j. drop j line) (on ∙ sym next_start));
        size = put_size;
        behind = put_behind;
      }

  -- the last one, at the end of the line
  pub last : position (λ b. eqb b 59) (drop (start_of room n) line) ≡ None → p ≡ length line → (length (cells line) ≡ n + 1) × TakesEnds line old put
  last e q =
      let s = start_of room n in
      let h = held (cells line) _ n _ [] (u.rest ∙ only_one 59 (drop s line) e) in
      let stands : StandsAt line n s p = record { ordered = omega (arith, q, u.start); within = omega (arith, q); is = h.1 ∙ sym (take_all (p - s) (drop s line) (omega (arith, q, length-drop s line))) } in
      let count : length (cells line) ≡ n + 1 = omega (arith, h.0, length-drop (n + 1) (cells line), ap length h.2) in (
        count,
        record {
          room = put_size;
          front = λ i m. placed stands i (omega (arith, m, count));
          behind = rw count put_behind;
        },
      )

-- where the room is full, cells are left
pub full : (line old room : List ℕ) (n : ℕ) → length room ≤ n → Upto line old room n → (length room < length (cells line)) × TakesEnds line old room
full line old room n l u =
    let more : length room < length (cells line) = omega (arith, length-drop n (cells line), ap length u.rest, some_cell (drop (start_of room n) line)) in (
      more,
      record {
        room = u.size;
        front = λ i m. u.each i (omega (arith, m, l, u.size));
        behind = drop_all (length (cells line)) room (omega (arith, more)) ∙ sym (drop_all (length (cells line)) old (omega (arith, more, u.size)));
      },
    )
