-- The column of the packed run, slice by slice and clock by clock: its registers by each slice's own rule, the top P that a clock shows,
-- and the product that a slice has added four clocks after it was fed. Assumes nothing.
use Prim.Native.Nat.{ℕ, zero, suc, ◌+◌, ◌-◌, ◌%◌, ◌^◌, ◌<◌, ◌≤◌}
use native.Mathlib.Nat.{le_of_lt}
use native.Mathlib.Omega.{arith}
use mathlib.Core.Path.{◌≡◌, refl, sym, ap, ◌∙◌}
use mathlib.Core.List.{List}
use lib.ListN.{get_or, replicate}
use lib.IntN.{ℤ, pos, ◌*ℤ◌}
use Rattle.word.specs.Word.{word, extend}
use Rattle.unit.specs.Unit.{arithmetic, unit_result, pre_adder, product, load}
use Rattle.unit.proofs.Lanes.{one48}
use Rattle.records.specs.declared.Registers.{Registers}
use Rattle.slice.specs.declared.inputs.Cascade.{Cascade}
use Rattle.records.specs.Records.{attribute_words, register_words, port_words, output_words, attributes_words, registers_of, registers_words, ports_words, outputs_words}
use Rattle.slice.specs.Slice.{controls_of, selects_of, paths_of, a_side, d_side, pre_added_of, left_of, right_of, product_of, operands_of, slice_operands, result_of, settled_of, slice_settled, outputs_of_settled, cascade_of, edge, next_of, slice_outputs, slice_cascade, slice_next}
use Rattle.column.specs.Column.{stretch, stacked, cascade_into, shown_at, next_at, column_shown, column_next, after}
use Rattle.column.proofs.Stacks.{stacked_ext, stacked_zeros, stretch_stacked}
use Rattle.column.proofs.Edges.{shown_length}
use Rattle.packed.specs.Packed.{Batch, setting, fed, slice_ports, run_attributes, run_ports, run_registers, top}

-- what slice k gets from below: A2, B2, P and the carry of the slice below, 0 at the bottom
abbrev pub below : (ℕ → Registers) → (k : ℕ) → Cascade
below r zero = record { a = 0; b = 0; p = 0; carry = 0 }
below r (suc k) = record { a = (r k).a2; b = (r k).b2; p = (r k).p; carry = (r k).carry }

-- what the pre-adder and the multiplier make of a, d and b, as the unit gets it
abbrev pub product_word : (a d b : ℤ) → ℕ
product_word a d b = extend 45 48 (product (pre_adder 0 (word 27 d) (word 30 (a *ℤ pos (2 ^ 18)) % 2 ^ 27)).ad (word 18 b))

above_last : (r : ℕ → Registers) (n : ℕ) → 1 ≤ n → (below r n).p ≡ (r (n - 1)).p
above_last r zero h = absurd (omega arith)
above_last r (suc n) h = ap (λ (k : ℕ). (r k).p) (omega arith)

pub attributes_part : (n k : ℕ) → k < n → stretch attribute_words k (run_attributes n) ≡ attributes_words setting
unfolding run_attributes
attributes_part n k h = stretch_stacked (λ k. attributes_words setting) attribute_words (λ k. refl) k n h

module _ (g : Batch) where
  -- slice k's registers after t clocks
  unfoldable pub trace : (t k : ℕ) → Registers
  trace zero k = registers_of (replicate register_words 0)
  trace (suc t) k = slice_next setting (trace t k) (slice_ports g t k) (below (trace t) k)

  abbrev traced : (t : ℕ) → List ℕ
  traced t = stacked (λ k. registers_words (trace t k)) g.terms

  pub ports_part : (t k : ℕ) → k < g.terms → stretch port_words k (run_ports g t) ≡ ports_words (slice_ports g t k)
  unfolding run_ports
  ports_part t k h = stretch_stacked (λ k. ports_words (slice_ports g t k)) port_words (λ k. refl) k g.terms h

  registers_part : (t k : ℕ) → k < g.terms → stretch register_words k (traced t) ≡ registers_words (trace t k)
  registers_part t k h = stretch_stacked (λ k. registers_words (trace t k)) register_words (λ k. refl) k g.terms h

  from_below : (t k : ℕ) → k ≤ g.terms → cascade_into (run_attributes g.terms) (traced t) (run_ports g t) k ≡ below (trace t) k
  unfolding cascade_into slice_cascade cascade_of paths_of slice_outputs outputs_of_settled
  from_below t zero h = refl
  from_below t (suc k) h = rw (attributes_part g.terms k h, registers_part t k h)

  -- one clock of the column is one clock of each slice
  step : (t k : ℕ) → k < g.terms → next_at (run_attributes g.terms) (traced t) (run_ports g t) k ≡ registers_words (trace (suc t) k)
  unfolding next_at trace
  step t k h = rw (attributes_part g.terms k h, registers_part t k h, ports_part t k h, from_below t k (le_of_lt h))

  registers : (t : ℕ) → run_registers g t ≡ traced t
  unfolding run_registers after column_next trace
  registers zero = sym (stacked_zeros register_words g.terms)
  registers (suc t) = rw (registers t) (stacked_ext _ _ g.terms (step t))

  -- four clocks on, slice k has added the product of what it was fed to what came from below
  pub four_on : (t k : ℕ) → (trace (suc (suc (suc (suc t)))) k).p
      ≡ word 48 (pos ((below (trace (suc (suc (suc t)))) k).p + 0 + product_word (fed g g.a t k) (fed g g.d t k) (fed g g.b t k) + 0 + 0))
  unfolding trace slice_next next_of edge load slice_settled settled_of result_of unit_result arithmetic slice_operands operands_of selects_of controls_of paths_of product_of left_of right_of pre_added_of a_side d_side
  four_on t k =
      one48 0 0 (product_word (fed g g.a t k) (fed g g.d t k) (fed g g.b t k)) 0 (below (trace (suc (suc (suc t)))) k).p 0

  -- what slice k shows in clock t
  shows : (t k : ℕ) → k < g.terms
      → shown_at (run_attributes g.terms) (traced t) (run_ports g t) k ≡ outputs_words (slice_outputs setting (trace t k) (slice_ports g t k) (below (trace t) k))
  unfolding shown_at
  shows t k h = rw (attributes_part g.terms k h, registers_part t k h, ports_part t k h, from_below t k (le_of_lt h))

  pub shown_slice : (t k : ℕ) → k < g.terms
      → stretch output_words k (column_shown g.terms (run_attributes g.terms) (run_registers g t) (run_ports g t))
      ≡ outputs_words (slice_outputs setting (trace t k) (slice_ports g t k) (below (trace t) k))
  unfolding column_shown
  shown_slice t k h = rw (registers t) (stretch_stacked (shown_at _ _ _) output_words (shown_length _ _ _) k g.terms h ∙ shows t k h)

  -- P is its register's, and the top slice's is what a slice above it would get
  pub top_shows : (t : ℕ) → 1 ≤ g.terms → top g t ≡ (below (trace t) g.terms).p
  unfolding top slice_outputs outputs_of_settled
  top_shows t some =
      let last = g.terms - 1 in
      ap (λ (ws : List ℕ). get_or ws 0 0) (shown_slice t last (omega arith)) ∙ sym (above_last (trace t) g.terms some)
