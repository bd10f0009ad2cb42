-- The public calls as their callers see them: one answer, and one content of every lent word, for all inputs (01, "Refusal numbers":
-- "Packed run: 10, 11, 2; a refused run writes no answer and no list word, and reports 0 clocks and place 0"; 02, Ask 6: "14, after 2,
-- naming the lowest such row, with nothing written"). Assumes nothing.
use Rattle.std.specs.Prelude.{ℕ, zero, suc, ◌+◌, ◌*◌, ◌≡◌, Bool, true, false, ◌&&◌, List, leb, eqb, length, get_or, ℤ, pos, negsuc, Option, None, Some, Result, Ok, Err}
use Rattle.std.proofs.Common.{◌∙◌, sym}
use Rattle.lent.specs.Refusing.{unless, leaves}
use Rattle.column.specs.Refusals.{lowest}
use Rattle.packed.specs.declared.Refusal.{Refusal}
use Rattle.packed.specs.declared.Refusal.TheVariants.{BadTerms, BadRows, BadLength, Overfull}
use Rattle.packed.specs.Packed.{most_terms, most_rows, Batch, run_clocks, run_list, read_answers, plain_answers}

-- what a run answers: the clocks that it stepped, or why it is refused
abbrev pub Run : Type 0
Run = Result ℕ Refusal

-- the number of each answer, 01's and 14 of 02, Ask 6; its clocks; and its place, which is a row for 14
abbrev pub number_of : Run → ℕ
number_of (Ok clocks) = 0
number_of (Err BadTerms) = 10
number_of (Err BadRows) = 11
number_of (Err BadLength) = 2
number_of (Err (Overfull row)) = 14

abbrev pub clocks_of : Run → ℕ
clocks_of (Ok clocks) = clocks
clocks_of (Err refusal) = 0

abbrev pub place_of : Run → ℕ
place_of (Ok clocks) = 0
place_of (Err BadTerms) = 0
place_of (Err BadRows) = 0
place_of (Err BadLength) = 0
place_of (Err (Overfull row)) = row

-- 10 (02, Ask 6): "when terms are not 1 to 8"
abbrev pub terms_fit : (terms : ℕ) → Bool
terms_fit terms = leb 1 terms && leb terms most_terms

-- 11: "rows not 1 to 4,096"
abbrev pub rows_fit : (rows : ℕ) → Bool
rows_fit rows = leb 1 rows && leb rows most_rows

-- 2: "three lent arrays of exactly rows × terms", answers "in a lent array of exactly 2 × rows"
unfoldable pub lengths_fit : Batch → (answers : ℕ) → Bool
lengths_fit g answers =
    eqb (length g.a) (g.rows * g.terms)
    && eqb (length g.d) (g.rows * g.terms)
    && eqb (length g.b) (g.rows * g.terms)
    && eqb answers (2 * g.rows)

-- −128, which is -1 - 127
abbrev pub is_lowest : ℤ → Bool
is_lowest (pos n) = false
is_lowest (negsuc n) = eqb n 127

-- the n numbers of xs from place s on are all −128
unfoldable pub all_lowest : (xs : List ℤ) → (s n : ℕ) → Bool
all_lowest xs s zero = true
all_lowest xs s (suc n) = all_lowest xs s n && is_lowest (get_or xs (s + n) (pos 0))

-- 14 (02, Ask 6): a row "with all eight d and all eight b equal to −128, where the low sum would be 131072"
abbrev pub overfull : Batch → (j : ℕ) → Bool
overfull g j = eqb g.terms most_terms && (all_lowest g.d (j * g.terms) g.terms && all_lowest g.b (j * g.terms) g.terms)

-- "naming the lowest such row"
abbrev pub refuse_row : {A : Type 0} → Option ℕ → Result A Refusal → Result A Refusal
refuse_row None next = next
refuse_row (Some j) next = Err (Overfull j)

-- "Packed run: 10, 11, 2"; list is whether the list has its length, "which number 2 covers too"
unfoldable pub sized : {A : Type 0} → Batch → (answers : ℕ) → (list : Bool) → Result A Refusal → Result A Refusal
sized g answers list next =
    unless (terms_fit g.terms) (Err BadTerms)
    (unless (rows_fit g.rows) (Err BadRows)
    (unless (lengths_fit g answers && list) (Err BadLength)
    next))

-- "14, after 2"
unfoldable pub checked : Batch → (answers : ℕ) → (list : Bool) → (clocks : ℕ) → Run
checked g answers list clocks = sized g answers list (refuse_row (lowest (overfull g) g.rows) (Ok clocks))

-- `packed_clocked`, of the lent answers os and the lent list ws: "it returns the clocks it stepped, one for each word"
unfoldable pub clocked_run : Batch → (os : List ℤ) → (ws : List ℕ) → Run
clocked_run g os ws = checked g (length os) (eqb (length ws) (run_clocks g.terms g.rows)) (length (run_list g))

-- "a refused run writes no answer and no list word"
pub record ClockedDone (g : Batch) (os : List ℤ) (ws : List ℕ) (r : Run) (os' : List ℤ) (ws' : List ℕ) : Type 0 where
  pub run : r ≡ clocked_run g os ws
  pub list : ws' ≡ leaves (number_of (clocked_run g os ws)) (run_list g) ws
  -- read off the list's words
  pub answers : os' ≡ leaves (number_of (clocked_run g os ws)) (read_answers g.terms g.rows (run_list g)) os
  -- which are the exact dot products
  pub exact : os' ≡ leaves (number_of (clocked_run g os ws)) (plain_answers g) os

-- `packed_plain`, "without that list": no clock is stepped
unfoldable pub plain_run : Batch → (os : List ℤ) → Run
plain_run g os = checked g (length os) true 0

pub record PlainDone (g : Batch) (os : List ℤ) (r : Run) (os' : List ℤ) : Type 0 where
  pub run : r ≡ plain_run g os
  pub answers : os' ≡ leaves (number_of (plain_run g os)) (plain_answers g) os

-- no second outcome fits
pub one_clocked : {g : Batch} {os : List ℤ} {ws : List ℕ} {r₁ r₂ : Run} {os₁ os₂ : List ℤ} {ws₁ ws₂ : List ℕ}
    → ClockedDone g os ws r₁ os₁ ws₁ → ClockedDone g os ws r₂ os₂ ws₂ → (r₁ ≡ r₂) × (os₁ ≡ os₂) × (ws₁ ≡ ws₂)
one_clocked x y = (x.run ∙ sym y.run, x.answers ∙ sym y.answers, x.list ∙ sym y.list)

pub one_plain : {g : Batch} {os : List ℤ} {r₁ r₂ : Run} {os₁ os₂ : List ℤ}
    → PlainDone g os r₁ os₁ → PlainDone g os r₂ os₂ → (r₁ ≡ r₂) × (os₁ ≡ os₂)
one_plain x y = (x.run ∙ sym y.run, x.answers ∙ sym y.answers)
