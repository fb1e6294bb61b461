-- Keys that differ have ranks that differ, and keys that are one have one rank.
use Rattle.std.proofs.Common.{◌≡◌, ℕ, true, false, eqb, List, [], ◌∷◌, Option, Some, None, refl, sym, ap, ◌∙◌, ⊎_elim}
use Rattle.std.proofs.lemmas.Bool.{cases_Bool, ne_eqb, eqb-true, eqb-false, false≢true}
use Rattle.std.specs.Prelude.{if◌then◌else◌, ◌==◌}
use Rattle.std.specs.List.{Contains}
use Rattle.quantities.specs.declared.isin.Isin.{Isin}
use Rattle.quantities.specs.Isins.{is_isin}
use Rattle.quantities.specs.Tranches.{tranche_number}
use Rattle.quantities.specs.declared.tranche.Tranche.{Tranche}
use Rattle.quantities.specs.declared.tranche.Tranche.TheVariants.{UpToOneYear, UpToThreeYears, UpToFiveYears, UpToTenYears, UpToTwentyYears, OverTwentyYears}
use Rattle.register.specs.Keys.{has_rank}
use Rattle.curve.specs.declared.point.Point.{Point}
use Rattle.curve.specs.Points.{point_rank}
use Rattle.market.specs.declared.percentage.Percentage.{Percentage}
use Rattle.market.specs.declared.price.Price.{Price}
use Rattle.market.specs.Records.{isin_rank, price_rank, percentage_rank}
use Rattle.account.specs.declared.line.Line.{Line}
use Rattle.account.specs.Lines.{same_isin}
use Rattle.account.specs.Calls.{line_rank}
use Rattle.account.proofs.Formed.{isin_bytes}
use Rattle.account.proofs.Ordered.{ranks_apart}
use Rattle.account.proofs.Terms.{same_isin_decides}
use Rattle.run.specs.Accepted.{NoneHasKey, NoneTwice}
use Rattle.run.proofs.RecordsOfRows.{first, later}
use Rattle.run.proofs.RecordsBy.{Distinct, rank_apart, rank_there}

-- the tranche of a number
abbrev tranche_at : ℕ → Option Tranche
tranche_at n =
    if n == 1 then Some UpToOneYear
    else (if n == 2 then Some UpToThreeYears
    else (if n == 3 then Some UpToFiveYears
    else (if n == 4 then Some UpToTenYears
    else (if n == 5 then Some UpToTwentyYears
    else (if n == 6 then Some OverTwentyYears else None)))))

tranche_back : (t : Tranche) → tranche_at (tranche_number t) ≡ Some t
tranche_back UpToOneYear = refl
tranche_back UpToThreeYears = refl
tranche_back UpToFiveYears = refl
tranche_back UpToTenYears = refl
tranche_back UpToTwentyYears = refl
tranche_back OverTwentyYears = refl

-- tranches of one number are one
tranche_of_number : (t u : Tranche) → tranche_number t ≡ tranche_number u → t ≡ u
tranche_of_number t u e = let s : Some t ≡ Some u = sym (tranche_back t) ∙ ap tranche_at e ∙ tranche_back u in cc

-- ISINs of one rank are one
pub isin_of_rank : (i j : Isin) → is_isin i.bytes ≡ true → is_isin j.bytes ≡ true → isin_rank i ≡ isin_rank j → i ≡ j
isin_of_rank i j h k e = ⊎_elim
    (λ (s : same_isin i j ≡ true). (same_isin_decides i j).0 s)
    (λ (s : same_isin i j ≡ false). absurd (ranks_apart i j (isin_bytes i.bytes h) (isin_bytes j.bytes k) s e))
    (cases_Bool (same_isin i j))

-- rows have one key just where they have one rank
pub record IsRankOf {X K : Type 0} (key : X → K) (rank : X → ℕ) : Type 0 where
  pub to_rank : (x y : X) → key y ≡ key x → rank y ≡ rank x
  pub to_key : (x y : X) → rank y ≡ rank x → key y ≡ key x

pub tranches_ranked : IsRankOf (λ (p : Percentage). p.tranche) percentage_rank
tranches_ranked = record { to_rank = λ p q e. ap tranche_number e; to_key = λ p q e. tranche_of_number q.tranche p.tranche e }

pub terms_ranked : IsRankOf (λ (p : Point). p.term) point_rank
terms_ranked = record { to_rank = λ p q e. e; to_key = λ p q e. e }

pub isins_ranked : IsRankOf (λ (p : Price). p.isin) price_rank
isins_ranked = record { to_rank = λ p q e. ap isin_rank e; to_key = λ p q e. isin_of_rank q.isin p.isin q.valid p.valid e }

pub references_ranked : IsRankOf (λ (l : Line). l.reference) line_rank
references_ranked = record { to_rank = λ l m e. e; to_key = λ l m e. e }

module _ {X K : Type 0} (key : X → K) (f : X → ℕ) (r : IsRankOf key f) where
  pub none_has : (x : X) (ys : List X) → has_rank f (f x) ys ≡ false → NoneHasKey key x ys
  none_has x [] h = tt
  none_has x (y ∷ ys) h = let p = rank_apart f (f x) y ys h in (λ e. eqb-false (f y) (f x) p.0 (r.to_rank x y e), none_has x ys p.1)

  pub rank_new : (x : X) (ys : List X) → NoneHasKey key x ys → has_rank f (f x) ys ≡ false
  rank_new x [] a = refl
  rank_new x (y ∷ ys) a = rw (ne_eqb (f y) (f x) (λ e. a.0 (r.to_key x y e)), rank_new x ys a.1) refl

  pub one_has : (x : X) (ys : List X) → has_rank f (f x) ys ≡ true → (y : X) × (Contains ys y × (key y ≡ key x))
  one_has x [] h = absurd (false≢true h)
  one_has x (y ∷ ys) h = ⊎_elim
      (λ (q : eqb (f y) (f x) ≡ true). (y, (first y ys, r.to_key x y (eqb-true (f y) (f x) q))))
      (λ (q : eqb (f y) (f x) ≡ false). let o = one_has x ys (rw q at h) in (o.0, (later y o.0 ys o.1.0, o.1.1)))
      (cases_Bool (eqb (f y) (f x)))

  pub rank_stands : (x y : X) (ys : List X) → Contains ys y → key y ≡ key x → has_rank f (f x) ys ≡ true
  rank_stands x y ys c e = ap (λ k. has_rank f k ys) (sym (r.to_rank x y e)) ∙ rank_there f y ys c

  pub once_by_key : (xs : List X) → Distinct f xs → NoneTwice key xs
  once_by_key [] d = tt
  once_by_key (x ∷ xs) d = (none_has x xs d.0, once_by_key xs d.1)

  pub once_by_rank : (xs : List X) → NoneTwice key xs → Distinct f xs
  once_by_rank [] d = tt
  once_by_rank (x ∷ xs) d = (rank_new x xs d.0, once_by_rank xs d.1)
