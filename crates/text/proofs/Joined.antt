-- Parts joined are the bytes, and bytes joined of parts are read as those parts.
use Rattle.std.proofs.Common.{◌≡◌, ◌≢◌, ℕ, ◌<◌, eqb, List, [], ◌∷◌, ◌++◌, length, refl, ap, ◌∙◌, arith}
use Rattle.std.specs.List.{join_with_byte, onto_first}
use Rattle.std.proofs.lemmas.Bool.{cond-true, cond-false, cond_both, eq-eqb, ne_eqb, eqb-false}
use Rattle.std.proofs.lemmas.List.{length-append}
use Rattle.std.proofs.lemmas.List.Splits.{join_with_byte-slice_split}
use Rattle.text.specs.Parts.{parts, all_but_last, last}
use Rattle.text.specs.Laws.{Lacks, EachLacks, text_of, LinesLaw, LinesReadLaw, CellsLaw, CellsReadLaw}
use Rattle.text.proofs.Parts.{some_part}

module _ (s : ℕ) where
  lacks_more : (b : ℕ) (ps : List (List ℕ)) → b ≢ s → EachLacks s ps → EachLacks s (onto_first b ps)
  lacks_more b [] n h = ((n, tt), tt)
  lacks_more b (p ∷ ps) n h = ((n, h.0), h.1)

  parts_lack : (bs : List ℕ) → EachLacks s (parts s bs)
  parts_lack [] = (tt, tt)
  parts_lack (b ∷ bs) =
      cond_both (eqb b s) _ _ (EachLacks s) (λ e. (tt, parts_lack bs)) (λ e. lacks_more b (parts s bs) (eqb-false b s e) (parts_lack bs))

  one_read : (bs : List ℕ) → Lacks s bs → parts s bs ≡ bs ∷ []
  one_read [] h = refl
  one_read (b ∷ bs) h = cond-false (eqb b s) _ _ (ne_eqb b s h.0) ∙ ap (onto_first b) (one_read bs h.1)

  first_read : (bs rest : List ℕ) → Lacks s bs → parts s (bs ++ (s ∷ rest)) ≡ bs ∷ parts s rest
  first_read [] rest h = cond-true (eqb s s) _ _ (eq-eqb s s refl)
  first_read (b ∷ bs) rest h = cond-false (eqb b s) _ _ (ne_eqb b s h.0) ∙ ap (onto_first b) (first_read bs rest h.1)

  parts_read : (ps : List (List ℕ)) → 0 < length ps → EachLacks s ps → parts s (join_with_byte s ps) ≡ ps
  parts_read [] l h = absurd (omega arith)
  parts_read (p ∷ []) l h = one_read p h.0
  parts_read (p ∷ (q ∷ ps)) l h = first_read p (join_with_byte s (q ∷ ps)) h.0 ∙ ap (λ x. p ∷ x) (parts_read (q ∷ ps) (omega arith) h.1)

  lines_lack : (ps : List (List ℕ)) → EachLacks s ps → EachLacks s (all_but_last ps) × Lacks s (last ps)
  lines_lack [] h = (tt, tt)
  lines_lack (p ∷ []) h = (tt, h.0)
  lines_lack (p ∷ (q ∷ ps)) h = let t = lines_lack (q ∷ ps) h.1 in ((h.0, t.0), t.1)

  and_rest : (ls : List (List ℕ)) (rest : List ℕ) → EachLacks s ls → Lacks s rest → EachLacks s (ls ++ (rest ∷ []))
  and_rest [] rest h r = (r, tt)
  and_rest (l ∷ ls) rest h r = (h.0, and_rest ls rest h.1 r)

text_joined : (ps : List (List ℕ)) → 0 < length ps → text_of (all_but_last ps) (last ps) ≡ join_with_byte 10 ps
text_joined [] h = absurd (omega arith)
text_joined (p ∷ []) h = refl
text_joined (p ∷ (q ∷ ps)) h = ap (λ t. p ++ (10 ∷ t)) (text_joined (q ∷ ps) (omega arith))

joined_text : (ls : List (List ℕ)) (rest : List ℕ) → text_of ls rest ≡ join_with_byte 10 (ls ++ (rest ∷ []))
joined_text [] rest = refl
joined_text (l ∷ []) rest = refl
joined_text (l ∷ (m ∷ ls)) rest = ap (λ t. l ++ (10 ∷ t)) (joined_text (m ∷ ls) rest)

before_rest : (ls : List (List ℕ)) (rest : List ℕ) → (all_but_last (ls ++ (rest ∷ [])) ≡ ls) × (last (ls ++ (rest ∷ [])) ≡ rest)
before_rest [] rest = (refl, refl)
before_rest (l ∷ []) rest = (refl, refl)
before_rest (l ∷ (m ∷ ls)) rest = let t = before_rest (m ∷ ls) rest in (ap (λ x. l ∷ x) t.0, t.1)

pub lines_law : LinesLaw
lines_law text =
    let h = lines_lack 10 (parts 10 text) (parts_lack 10 text) in
    (text_joined (parts 10 text) (some_part 10 text) ∙ join_with_byte-slice_split 10 text, h.0, h.1)

pub lines_read_law : LinesReadLaw
lines_read_law ls rest h r =
    let e = ap (parts 10) (joined_text ls rest) ∙ parts_read 10 (ls ++ (rest ∷ [])) (omega (arith, length-append ls (rest ∷ []))) (and_rest 10 ls rest h r) in
    let b = before_rest ls rest in
    (ap all_but_last e ∙ b.0, ap last e ∙ b.1)

pub cells_law : CellsLaw
cells_law line = (join_with_byte-slice_split 59 line, some_part 59 line, parts_lack 59 line)

pub cells_read_law : CellsReadLaw
cells_read_law cs l h = parts_read 59 cs l h
