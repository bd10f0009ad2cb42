-- No slice of a packed run shows PREADDWRAP in any clock (02, Ask 4): its pre-adder gets a packed pair, or zeros. Assumes nothing.
use Prim.Native.Nat.{ℕ, zero, suc, ◌+◌, ◌-◌, ◌*◌, ◌<◌}
use mathlib.Core.Path.{◌≡◌, refl, ap, ◌∙◌}
use mathlib.Core.Bool.{Bool, true, false, cond, ◌&&◌}
use mathlib.Core.List.{List}
use borrow.Author.Tests.{ltb-true}
use lib.Dec.{leb, ltb, lit<}
use lib.IntN.{ℤ, pos}
use lib.ListN.{get_or}
use Rattle.word.proofs.Laws.{both_true}
use Rattle.unit.specs.Unit.{pre_adder, load}
use Rattle.records.specs.Records.{output_words, outputs_of}
use Rattle.slice.specs.declared.inputs.Cascade.{Cascade}
use Rattle.slice.specs.Slice.{controls_of, paths_of, a_side, d_side, pre_added_of, product_of, settled_of, slice_settled, outputs_of_settled, edge, next_of, slice_outputs, slice_next}
use Rattle.column.specs.Column.{stretch, column_shown}
use Rattle.packed.specs.Packed.{Batch, Byte, setting, fed, slice_ports, run_attributes, run_ports, run_registers}
use Rattle.packed.proofs.Dots.{Bytes}
use Rattle.packed.proofs.Trace.{below, trace, shown_slice}
use Rattle.packed.proofs.Theorem.{RowBytes, pair_unmarked}

cleared : (pre_adder 0 0 0).wrap ≡ 0
unfolding pre_adder
cleared = refl

module _ (g : Batch) (rows : (j : ℕ) → j < g.rows → RowBytes g j) where
  -- what a slice is fed is a byte: a term of the row that is due, or 0
  fed_byte : (xs : List ℤ) → ((j : ℕ) → j < g.rows → Bytes xs (j * g.terms) g.terms) → (t k : ℕ) → k < g.terms → Byte (fed g xs t k)
  unfolding fed
  fed_byte xs bytes t k h = by (leb k t && ltb (t - k) g.rows) (λ e. ltb-true (t - k) g.rows (both_true (leb k t) (ltb (t - k) g.rows) e).1)
    where
      by : (due : Bool) → (due ≡ true → t - k < g.rows) → Byte (cond due (get_or xs ((t - k) * g.terms + k) (pos 0)) (pos 0))
      by true f = bytes (t - k) (f refl) k h
      by false f = lit< tt

  -- the registers A2 and D hold what the slice was fed in the clock before, or the zeros of a cleared column
  unmarked : (t k : ℕ) → k < g.terms → (x : Cascade) → (slice_outputs setting (trace g t k) (slice_ports g t k) x).preaddwrap ≡ 0
  unfolding trace slice_outputs outputs_of_settled slice_settled settled_of product_of pre_added_of a_side d_side controls_of paths_of slice_next next_of edge load
  unmarked zero k h x = cleared
  unmarked (suc t) k h x =
      pair_unmarked (fed g g.a t k) (fed g g.d t k) (fed g g.b t k)
      (fed_byte g.a (λ j l. (rows j l).a) t k h) (fed_byte g.d (λ j l. (rows j l).d) t k h) (fed_byte g.b (λ j l. (rows j l).b) t k h)

  pub run_unmarked : (t k : ℕ) → k < g.terms
      → (outputs_of (stretch output_words k (column_shown g.terms (run_attributes g.terms) (run_registers g t) (run_ports g t)))).preaddwrap ≡ 0
  run_unmarked t k h = ap (λ (ws : List ℕ). (outputs_of ws).preaddwrap) (shown_slice g t k h) ∙ unmarked t k h (below (trace g t) k)
