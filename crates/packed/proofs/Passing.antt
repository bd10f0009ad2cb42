-- Laws of the checks: what has passed where a run is accepted, and that a refusal is the same whatever was to follow. Assumes nothing.
use mathlib.Core.Path.{◌≡◌, refl, sym, ap, ◌∙◌}
use mathlib.Core.Bool.{Bool, true, false, ◌&&◌}
use mathlib.Core.List.{List, []}
use Prim.Native.Nat.{ℕ, ◌+◌, ◌*◌, ◌≤◌, ◌<◌}
use native.Mathlib.Nat.{lt_of_lt_of_le, mul-le-mul_right, suc-mul}
use native.Mathlib.Omega.{arith}
use lib.Dec.{leb, eqb, lit<}
use lib.ListN.{length}
use lib.IntN.{ℤ}
use borrow.Author.Tests.{leb-true, eqb-true, ne_eqb}
use Rattle.word.proofs.Laws.{both_true}
use Rattle.std.specs.Prelude.{Option, None, Some, Result, Ok, Err}
use Rattle.lent.specs.Refusing.{unless, leaves}
use Rattle.column.specs.Refusals.{lowest}
use Rattle.column.proofs.Search.{lowest_none, none_lowest, lowest_says}
use Rattle.packed.specs.declared.Refusal.{Refusal}
use Rattle.packed.specs.declared.Refusal.TheVariants.{BadTerms, BadRows, BadLength, Overfull}
use Rattle.packed.specs.Packed.{most_terms, most_rows, Batch, batch}
use Rattle.packed.specs.Calls.{Run, number_of, place_of, terms_fit, rows_fit, lengths_fit, overfull, refuse_row, sized, checked, clocked_run, plain_run, ClockedDone, PlainDone}
use Rattle.packed.specs.Parts.{Ready, Looked}

-- a number from 1 to the most
pub bounds : (n most : ℕ) → leb 1 n && leb n most ≡ true → (1 ≤ n) × (n ≤ most)
bounds n most p = let q = both_true (leb 1 n) (leb n most) p in (leb-true 1 n q.0, leb-true n most q.1)

-- the lengths that are required
lengths_equal : (g : Batch) (answers : ℕ) → lengths_fit g answers ≡ true
    → (length g.a ≡ g.rows * g.terms) × (length g.d ≡ g.rows * g.terms) × (length g.b ≡ g.rows * g.terms) × (answers ≡ 2 * g.rows)
unfolding lengths_fit
lengths_equal g answers p =
    let q3 = both_true _ (eqb answers (2 * g.rows)) p in
    let q2 = both_true _ (eqb (length g.b) (g.rows * g.terms)) q3.0 in
    let q1 = both_true (eqb (length g.a) (g.rows * g.terms)) (eqb (length g.d) (g.rows * g.terms)) q2.0 in
    (eqb-true _ _ q1.0, eqb-true _ _ q1.1, eqb-true _ _ q2.1, eqb-true _ _ q3.1)

-- ---- a number is 0 where the run is not refused, and above 0 where it is

pub zero_ok : (r : Run) → number_of r ≡ 0 → (n : ℕ) × (r ≡ Ok n)
zero_ok (Ok n) e = (n, refl)
zero_ok (Err BadTerms) e = absurd (omega arith)
zero_ok (Err BadRows) e = absurd (omega arith)
zero_ok (Err BadLength) e = absurd (omega arith)
zero_ok (Err (Overfull row)) e = absurd (omega arith)

-- so a refusal leaves what was there
left : {X : Type 0} (e : Refusal) (new old : X) → old ≡ leaves (number_of (Err e)) new old
left BadTerms new old = refl
left BadRows new old = refl
left BadLength new old = refl
left (Overfull row) new old = refl

pub clocked_refused : {g : Batch} {os : List ℤ} {ws : List ℕ} {e : Refusal} → Err e ≡ clocked_run g os ws → ClockedDone g os ws (Err e) os ws
clocked_refused {e = e} is = record { run = is; list = rw (← is) (left e _ _); answers = rw (← is) (left e _ _); exact = rw (← is) (left e _ _) }

pub plain_refused : {g : Batch} {os : List ℤ} {e : Refusal} → Err e ≡ plain_run g os → PlainDone g os (Err e) os
plain_refused {e = e} is = record { run = is; answers = rw (← is) (left e _ _) }

-- ---- three checks in a row, and the rows

abbrev three : {A : Type 0} → (x y z : Bool) → Result A Refusal → Result A Refusal
three x y z next = unless x (Err BadTerms) (unless y (Err BadRows) (unless z (Err BadLength) next))

three_pass : {A : Type 0} (x y z : Bool) (next : Result A Refusal) (v : A) → three x y z next ≡ Ok v
    → (x ≡ true) × (y ≡ true) × (z ≡ true) × (next ≡ Ok v)
three_pass true true true next v e = (refl, refl, refl, e)
three_pass true true false next v e = cc
three_pass true false z next v e = cc
three_pass false y z next v e = cc

-- a refusal is the same whatever was to follow
three_refuse : {A B : Type 0} (x y z : Bool) (v : A) (next : Result B Refusal) (r : Refusal) → three x y z (Ok v) ≡ Err r → three x y z next ≡ Err r
three_refuse true true true v next r e = cc
three_refuse true true false v next r e = cc
three_refuse true false z v next r e = cc
three_refuse false y z v next r e = cc

row_pass : {A : Type 0} (found : Option ℕ) (v w : A) → refuse_row found (Ok v) ≡ Ok w → found ≡ None
row_pass None v w e = refl
row_pass (Some j) v w e = cc

row_refuse : {A B : Type 0} (found : Option ℕ) (v : A) (w : B) (r : Refusal) → refuse_row found (Ok v) ≡ Err r → refuse_row found (Ok w) ≡ Err r
row_refuse None v w r e = cc
row_refuse (Some j) v w r e = cc

-- 14 is by the row that is found
three_row : (x y z : Bool) (found : Option ℕ) (m j : ℕ) → three x y z (refuse_row found (Ok m)) ≡ Err (Overfull j) → found ≡ Some j
three_row true true true None m j e = cc
three_row true true true (Some i) m j e = cc
three_row true true false found m j e = cc
three_row true false z found m j e = cc
three_row false y z found m j e = cc

-- what does not look at the clocks is the same for any
three_any : {X : Type 0} (f : Run → X) → ((m n : ℕ) → f (Ok m) ≡ f (Ok n)) → (x y z : Bool) (found : Option ℕ) (m n : ℕ)
    → f (three x y z (refuse_row found (Ok m))) ≡ f (three x y z (refuse_row found (Ok n)))
three_any f same true true true None m n = same m n
three_any f same true true true (Some j) m n = refl
three_any f same true true false found m n = refl
three_any f same true false z found m n = refl
three_any f same false y z found m n = refl

-- no row is overfull with fewer than eight terms
pub few_terms : (g : Batch) → g.terms < most_terms → lowest (overfull g) g.rows ≡ None
few_terms g h = none_lowest (overfull g) g.rows (λ j l. rw (ne_eqb g.terms most_terms (λ e. omega (arith, e, h))))

pub few_looked : (terms rows : ℕ) (d b : List ℤ) → terms < most_terms
    → ◌≡◌ {A = Result (Unit {0}) Refusal} (Ok tt) (refuse_row (lowest (overfull (batch terms rows [] d b)) rows) (Ok tt))
few_looked terms rows d b h = ap (λ (found : Option ℕ). refuse_row {A = Unit {0}} found (Ok tt)) (sym (few_terms (batch terms rows [] d b) h))

module _ (g : Batch) (answers : ℕ) (list : Bool) where
  -- the terms, the rows and the lengths are right
  pub record Sized : Type 0 where
    pub ready : ((j : ℕ) → j < g.rows → overfull g j ≡ false) → Ready g
    pub looked : (r : Result Unit Refusal) → Looked g r → r ≡ refuse_row (lowest (overfull g) g.rows) (Ok tt)
    pub answers_fit : answers ≡ 2 * g.rows
    pub list_fits_lem : list ≡ true
    pub goes_on_lem : (next : Run) → sized g answers list next ≡ next

  pub fits : {A : Type 0} (next : Result A Refusal) (v : A) → sized g answers list next ≡ Ok v → Sized × (next ≡ Ok v)
  unfolding sized
  fits next v accepted =
      let p = three_pass (terms_fit g.terms) (rows_fit g.rows) (lengths_fit g answers && list) next v accepted in
      let lengths = both_true (lengths_fit g answers) list p.2 in
      let equal = lengths_equal g answers lengths.0 in
      let terms = bounds g.terms most_terms p.0 in
      let few = (bounds g.rows most_rows p.1).1 in (
        record {
          ready =
              λ fit. record { some = terms.0; most = terms.1; few = few; highs = equal.0; lows = equal.1; rights = equal.2; fit = fit };
          looked = λ r found. found terms.1 few equal.1 equal.2;
          answers_fit = equal.3;
          list_fits_lem = lengths.1;
          goes_on_lem = λ next. rw (p.0, p.1, p.2);
        },
        p.3,
      )

  -- where the run is accepted, no row is overfull either
  pub record Passed : Type 0 where
    pub ready : Ready g
    pub ran : (n : ℕ) → checked g answers list n ≡ Ok n

  pub passed : Sized → lowest (overfull g) g.rows ≡ None → Passed
  unfolding checked
  passed is none =
      record {
        ready = is.ready (λ j h. lowest_none (overfull g) g.rows j none h);
        ran = λ n. is.goes_on_lem (refuse_row (lowest (overfull g) g.rows) (Ok n)) ∙ rw none;
      }

  -- as a run has it: its sizes are right; there are fewer than eight terms, or the rows are looked at
  pub ran_sized : Ok tt ≡ sized {A = Unit {0}} g answers list (Ok tt) → Sized
  ran_sized e = (fits (Ok tt) tt (sym e)).0

  pub few_passed : Sized → g.terms < most_terms → Passed
  few_passed is h = passed is (few_terms g h)

  pub looked_passed : Sized → Looked g (Ok tt) → Passed
  looked_passed is found = passed is (row_pass (lowest (overfull g) g.rows) tt tt (sym (is.looked (Ok tt) found)))

  pub all_passed : (m : ℕ) → number_of (checked g answers list m) ≡ 0 → Passed
  unfolding checked
  all_passed m accepted =
      let ran = zero_ok (checked g answers list m) accepted in
      let p = fits (refuse_row (lowest (overfull g) g.rows) (Ok m)) ran.0 ran.1 in
      passed p.0 (row_pass (lowest (overfull g) g.rows) m ran.0 p.1)

  -- a refusal by size is the run's
  pub size_refusal : {r : Refusal} (n : ℕ) → Err r ≡ sized {A = Unit {0}} g answers list (Ok tt) → Err r ≡ checked g answers list n
  unfolding checked sized
  size_refusal {r} n e =
      sym (three_refuse (terms_fit g.terms) (rows_fit g.rows) (lengths_fit g answers && list) tt (refuse_row (lowest (overfull g) g.rows) (Ok n)) r (sym e))

  -- and so is one by a row
  pub row_refusal : {r : Refusal} (n : ℕ) → Sized → Looked g (Err r) → Err r ≡ checked g answers list n
  unfolding checked
  row_refusal {r} n is found =
      sym
      (is.goes_on_lem (refuse_row (lowest (overfull g) g.rows) (Ok n))
      ∙ row_refuse (lowest (overfull g) g.rows) tt n r (sym (is.looked (Err r) found)))

  pub any_clocks : {X : Type 0} (f : Run → X) → ((m n : ℕ) → f (Ok m) ≡ f (Ok n)) → (m n : ℕ) → f (checked g answers list m) ≡ f (checked g answers list n)
  unfolding checked sized
  any_clocks f same m n = three_any f same (terms_fit g.terms) (rows_fit g.rows) (lengths_fit g answers && list) (lowest (overfull g) g.rows) m n

  -- 14 names the lowest overfull row, which is one of the run's
  pub names_lowest : (m j : ℕ) → checked g answers list m ≡ Err (Overfull j) → (j < g.rows) × (overfull g j ≡ true) × ((i : ℕ) → i < j → overfull g i ≡ false)
  unfolding checked sized
  names_lowest m j e =
      lowest_says (overfull g) g.rows j
      (three_row (terms_fit g.terms) (rows_fit g.rows) (lengths_fit g answers && list) (lowest (overfull g) g.rows) m j e)

  pub checked_place : (m : ℕ) → place_of (checked g answers list m) < most_rows
  unfolding checked sized
  checked_place m = by (terms_fit g.terms) (rows_fit g.rows) refl (lengths_fit g answers && list) (lowest (overfull g) g.rows) refl
    where
      by : (x y : Bool) → rows_fit g.rows ≡ y → (z : Bool) (found : Option ℕ) → lowest (overfull g) g.rows ≡ found → place_of (three x y z (refuse_row found (Ok m))) < most_rows
      by true true few true (Some j) is = lt_of_lt_of_le (lowest_says (overfull g) g.rows j is).0 (bounds g.rows most_rows few).1
      by true true few true None is = lit< tt
      by true true few false found is = lit< tt
      by true false few z found is = lit< tt
      by false y few z found is = lit< tt

-- ---- areas

-- the end of row j's terms
pub row_end : {j rows : ℕ} (terms : ℕ) → j < rows → j * terms + terms ≤ rows * terms
row_end {j} {rows} terms h = omega (arith, mul-le-mul_right terms h, suc-mul j terms)
