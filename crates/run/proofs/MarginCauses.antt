-- A margin is refused just where a line lacks something, for the one of the lowest reference.
use Rattle.std.proofs.Common.{◌≡◌, ◌≢◌, ℕ, zero, suc, ◌<◌, inl, inr, ⊎_elim, Bool, true, false, cond, eqb, List, [], ◌∷◌, length, get_or, sym, refl, ap, ap₂, ◌∙◌, subst, arith}
use Rattle.std.proofs.lemmas.Bool.{and_parts, eqb-true, eqb-false, ne_eqb}
use Rattle.std.specs.List.{Contains, AllByRecursion as All}
use Rattle.account.specs.declared.line.Line.{Line}
use Rattle.account.specs.Lines.{date}
use Rattle.account.specs.Settings.{Setting}
use Rattle.account.specs.Margin.{margin, rounded_amounts}
use Rattle.account.specs.Calls.{refused, given, line_rank}
use Rattle.account.specs.Answers.{is_well_formed, fault, answer_among}
use Rattle.account.proofs.Sorted.{Rises}
use Rattle.valuation.specs.Checks.{Faultless}
use Rattle.rows.specs.Forms.{is_date}
use Rattle.rows.specs.Positions.{line_in_range}
use Rattle.run.specs.Accepted.{NoneTurnedAway, RowsAreRight, LacksNothing, account_of_rows}
use Rattle.run.specs.Causes.{Lacks, LineLacks}
use Rattle.run.specs.Laws.{DeliveredRows}
use Rattle.run.specs.Refusals.{refusal_of_margin}
use Rattle.run.specs.Runs.{account_answer}
use Rattle.run.proofs.Lacking.{lacks_nothing, no_fault, fault_is, lacks}
use Rattle.run.proofs.RecordsBy.{new_to_none, all_with, of_all_with, rises_with}
use Rattle.run.proofs.RecordsOfRows.{first, later, nothing_in, record_of_row, row_of_record}
use Rattle.run.proofs.Taking.{ranks_once, lines_ranged, references_once}

-- ---- what is true of each line
each_of_each : {P Q : Line → Type 0} → ((l : Line) → P l → Q l) → (ls : List Line) → All P ls → All Q ls
each_of_each f [] a = tt
each_of_each f (l ∷ ls) a = (f l a.0, each_of_each f ls a.1)

both_of_each : {P Q R : Line → Type 0} → ((l : Line) → P l → Q l → R l) → (ls : List Line) → All P ls → All Q ls → All R ls
both_of_each f [] a b = tt
both_of_each f (l ∷ ls) a b = (f l a.0 b.0, both_of_each f ls a.1 b.1)

of_one : (P : Line → Type 0) (l : Line) (ls : List Line) → All P ls → (k : ℕ) → k < length ls → get_or ls k l ≡ l → P l
of_one P l [] a k h e = absurd (omega arith)
of_one P l (m ∷ ms) a zero h e = subst P e a.0
of_one P l (m ∷ ms) a (suc k) h e = of_one P l ms a.1 k (omega arith) e

module _ (s : Setting) where
  faultless_all : (ls : List Line) → Faultless s ls → All (λ l. fault s l ≡ 0) ls
  faultless_all [] f = tt
  faultless_all (l ∷ ls) f = (f.0, faultless_all ls f.1)

  all_faultless : (ls : List Line) → All (λ l. fault s l ≡ 0) ls → Faultless s ls
  all_faultless [] a = tt
  all_faultless (l ∷ ls) a = (a.0, all_faultless ls a.1)

module _ (s : Setting) (all : List Line) where
  -- ---- where a margin is given no line has a fault, and the other way
  pub given_parts : (ls : List Line) (m k : ℕ) → answer_among s all ls ≡ given m k → Faultless s ls × ((m ≡ margin s all) × (k ≡ rounded_amounts all))
  given_parts [] m k e = (tt, (cc, cc))
  given_parts (l ∷ ls) m k e = go (eqb (fault s l) 0) refl e (given_parts ls m k)
    where
      go : (b : Bool) → eqb (fault s l) 0 ≡ b → cond b (answer_among s all ls) (refused (fault s l) l.reference) ≡ given m k →
          (answer_among s all ls ≡ given m k → Faultless s ls × ((m ≡ margin s all) × (k ≡ rounded_amounts all))) → Faultless s (l ∷ ls) × ((m ≡ margin s all) × (k ≡ rounded_amounts all))
      go true q e rest = let r = rest e in ((eqb-true (fault s l) 0 q, r.0), r.1)
      go false q e rest = cc

  pub none_lacking : (ls : List Line) → Faultless s ls → answer_among s all ls ≡ given (margin s all) (rounded_amounts all)
  none_lacking [] f = refl
  none_lacking (l ∷ ls) f = rw f.0 (none_lacking ls f.1)

  -- ---- where one is refused, a line of the lowest reference has that fault
  record First (ls : List Line) (n reference : ℕ) : Type 0 where
    pub line : Line
    pub stands : Contains ls line
    pub has_fault : fault s line ≡ n
    pub wrong : n ≢ 0
    pub reference_is : line.reference ≡ reference
    pub none_lower : All (λ l. l.reference < line.reference → fault s l ≡ 0) ls

  none_below : (l : Line) (ls : List Line) → All (λ m. l.reference < m.reference) ls → All (λ m. m.reference < l.reference → fault s m ≡ 0) ls
  none_below l [] a = tt
  none_below l (m ∷ ms) a = (λ h. absurd (omega (arith, h, a.0)), none_below l ms a.1)

  first_fault : (ls : List Line) (n reference : ℕ) → Rises line_rank ls → answer_among s all ls ≡ refused n reference → First ls n reference
  first_fault [] n reference r e = let z : ◌≡◌ {A = ℕ} 0 1 = cc in absurd (omega arith)
  first_fault (l ∷ ls) n reference r e = go (eqb (fault s l) 0) refl e (first_fault ls n reference r.1)
    where
      go : (b : Bool) → eqb (fault s l) 0 ≡ b → cond b (answer_among s all ls) (refused (fault s l) l.reference) ≡ refused n reference → (answer_among s all ls ≡ refused n reference → First ls n reference) → First (l ∷ ls) n reference
      go true q e rest =
          let f = rest e in
          record { line = f.line; stands = later l f.line ls f.stands; has_fault = f.has_fault; wrong = f.wrong; reference_is = f.reference_is; none_lower = (λ h. eqb-true (fault s l) 0 q, f.none_lower) }
      go false q e rest =
          let same : fault s l ≡ n = cc in
          record { line = l; stands = first l ls; has_fault = same; wrong = λ z. eqb-false (fault s l) 0 q (same ∙ z); reference_is = cc; none_lower = (λ h. absurd (omega (arith, h)), none_below l ls r.0) }

  refused_at : (line : Line) (n : ℕ) → fault s line ≡ n → n ≢ 0 → (ls : List Line) (k : ℕ) → Rises line_rank ls → k < length ls → get_or ls k line ≡ line → All (λ l. l.reference < line.reference → fault s l ≡ 0) ls → answer_among s all ls ≡ refused n line.reference
  refused_at line n f w [] k r h e a = absurd (omega arith)
  refused_at line n f w (l ∷ ls) zero r h e a =
      let here : fault s l ≡ n = ap (fault s) e ∙ f in
      rw (ne_eqb (fault s l) 0 (λ z. w (sym here ∙ z))) (ap₂ refused here (ap (λ (m : Line). m.reference) e))
  refused_at line n f w (l ∷ ls) (suc k) r h e a =
      let below = of_one (λ m. l.reference < m.reference) line ls r.0 k (omega arith) e in
      rw (a.0 below) (refused_at line n f w ls k r.1 (omega arith) e a.1)

-- ---- rows of which none is turned away
module _ {bytes : List ℕ} (rows : DeliveredRows bytes) (taken : NoneTurnedAway rows) where
  abbrev setting : Setting
  setting = (account_of_rows rows).setting

  abbrev standing : List Line
  standing = (account_of_rows rows).standing

  formed : (l : Line) → line_in_range l ≡ true → is_well_formed l ≡ true
  formed l i = (and_parts (is_well_formed l) (is_date (date l.block)) i).0

  formed_row : (l : Line) → Contains rows.lines l → is_well_formed l ≡ true
  formed_row l c = formed l (of_one (λ m. line_in_range m ≡ true) l rows.lines (lines_ranged rows) c.0 c.1 c.2)

  rising : Rises line_rank standing
  rising = rises_with line_rank [] rows.lines tt (references_once rows taken) (new_to_none line_rank rows.lines)

  pub right_where_faultless : Faultless setting standing → RowsAreRight rows
  right_where_faultless f = record {
    taken = taken;
    none_lacks =
        both_of_each (λ l i e. lacks_nothing rows (ranks_once rows taken).0 l (formed l i) e) rows.lines (lines_ranged rows)
        (of_all_with line_rank (λ l. fault setting l ≡ 0) [] rows.lines (faultless_all setting standing f)).1;
  }

  pub refused_lacks : (n reference : ℕ) → account_answer (account_of_rows rows) ≡ refused n reference → LineLacks bytes (refusal_of_margin n reference)
  refused_lacks n reference q =
      let once = ranks_once rows taken in
      let f = first_fault setting standing standing n reference rising q in
      let delivered = ⊎_elim (nothing_in f.line) (λ c. c) (row_of_record line_rank [] rows.lines f.line f.stands) in
      record {
        rows = rows;
        taken = taken;
        line = f.line;
        delivered = delivered;
        none_lower =
            both_of_each (λ l i h lower. lacks_nothing rows once.0 l (formed l i) (h lower)) rows.lines (lines_ranged rows)
            (of_all_with line_rank (λ l. l.reference < f.line.reference → fault setting l ≡ 0) [] rows.lines f.none_lower).1;
        number = n;
        wrong = subst (Lacks rows f.line) f.has_fault (lacks rows once.0 once.1 f.line (formed_row f.line delivered) (λ z. f.wrong (sym f.has_fault ∙ z)));
        told = ap (refusal_of_margin n) (sym f.reference_is);
      }

  some_number : (l : Line) (n : ℕ) → Lacks rows l n → n ≢ 0
  some_number l n (inl k) z = omega (arith, k.number_is, z)
  some_number l n (inr (inl k)) z = omega (arith, k.number_is, z)
  some_number l n (inr (inr k)) z = omega (arith, k.number_is, z)

  pub lacks_refused : (l : Line) (n : ℕ) → Contains rows.lines l → All (λ m. m.reference < l.reference → LacksNothing rows m) rows.lines → Lacks rows l n → account_answer (account_of_rows rows) ≡ refused n l.reference
  lacks_refused l n c lower w =
      let once = ranks_once rows taken in
      let stands = record_of_row line_rank [] rows.lines l c in
      let none = all_with line_rank (λ m. m.reference < l.reference → fault setting m ≡ 0) [] rows.lines tt
      (each_of_each (λ m h below. no_fault rows once.0 once.1 m (h below)) rows.lines lower) in
      refused_at setting standing l n (fault_is rows once.0 once.1 l (formed_row l c) n w) (some_number l n w) standing stands.0 rising stands.1 stands.2 none

-- no line of rows that are right has a fault
pub faultless : {bytes : List ℕ} (rows : DeliveredRows bytes) → RowsAreRight rows → Faultless (account_of_rows rows).setting (account_of_rows rows).standing
faultless rows r =
    let once = ranks_once rows r.taken in
    let a = account_of_rows rows in
    all_faultless a.setting a.standing (all_with line_rank (λ l. fault a.setting l ≡ 0) [] rows.lines tt
    (each_of_each (λ l h. no_fault rows once.0 once.1 l h) rows.lines r.none_lacks))
