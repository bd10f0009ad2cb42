-- The clocked run and the plain run: what the clocked run reads is what the plain run works out, and both refuse alike. Assumes nothing.
use Prim.Native.Nat.{ℕ, ◌+◌, ◌<◌}
use mathlib.Core.Path.{◌≡◌, refl, sym, ap, ◌∙◌}
use mathlib.Core.Bool.{true}
use mathlib.Core.List.{List}
use native.Mathlib.Omega.{arith}
use lib.Dec.{eqb}
use lib.ListN.{length}
use lib.IntN.{ℤ}
use borrow.Author.Tests.{eq-eqb}
use Rattle.lent.specs.Refusing.{leaves}
use Rattle.packed.specs.Packed.{Batch, run_clocks, run_list, read_answers, plain_answers}
use Rattle.packed.specs.Calls.{Run, number_of, clocked_run, ClockedDone, plain_run, PlainDone}
use Rattle.packed.specs.Parts.{Ready, FedBytes}
use Rattle.packed.proofs.Fed.{fed_term}
use Rattle.packed.proofs.Passing.{all_passed, any_clocks}
use Rattle.packed.proofs.Theorem.{RowBytes, PackedRun, packed_run}

module _ (g : Batch) (bytes : (t : ℕ) → t < run_clocks g.terms g.rows → (k : ℕ) → k < g.terms → FedBytes g t k) where
  -- where all that is fed is bytes, so is every row
  row_bytes : (j : ℕ) → j < g.rows → RowBytes g j
  row_bytes j h =
      record {
        a = λ k l. rw (fed_term g g.a j k h) at (bytes (j + k) (omega arith) k l).0;
        d = λ k l. rw (fed_term g g.d j k h) at (bytes (j + k) (omega arith) k l).1;
        b = λ k l. rw (fed_term g g.b j k h) at (bytes (j + k) (omega arith) k l).2;
      }

  pub exact_answers : Ready g → read_answers g.terms g.rows (run_list g) ≡ plain_answers g
  exact_answers ready = (packed_run g ready.some ready.most row_bytes ready.fit).answers

-- a run that is not refused: its rows are bytes, as every lent row is
pub accepted_run : (g : Batch) (os : List ℤ) (ws : List ℕ) → ((j : ℕ) → j < g.rows → RowBytes g j) → number_of (clocked_run g os ws) ≡ 0 → PackedRun g
unfolding clocked_run
accepted_run g os ws bytes ran =
    let ready = (all_passed g (length os) (eqb (length ws) (run_clocks g.terms g.rows)) (length (run_list g)) ran).ready in
    packed_run g ready.some ready.most bytes ready.fit

-- ---- the two runs

-- where the list's length is right: the same refusals, and the same answers
pub runs_agree : {g : Batch} {os : List ℤ} {ws : List ℕ} {r r' : Run} {os₁ os₂ : List ℤ} {ws₂ : List ℕ}
    → length ws ≡ run_clocks g.terms g.rows → PlainDone g os r os₁ → ClockedDone g os ws r' os₂ ws₂
    → (number_of r ≡ number_of r') × (os₁ ≡ os₂)
unfolding plain_run clocked_run
runs_agree {g} {os} {ws} right plain clocked =
    let same = eq-eqb (length ws) (run_clocks g.terms g.rows) right in (
      ap number_of plain.run ∙ any_clocks g (length os) true number_of (λ m n. refl) 0 (length (run_list g)) ∙ sym (ap number_of (rw same at clocked.run)),
      plain.answers
          ∙ any_clocks g (length os) true (λ r. leaves (number_of r) (plain_answers g) os) (λ m n. refl) 0 (length (run_list g))
          ∙ sym (rw same at clocked.exact),
    )
