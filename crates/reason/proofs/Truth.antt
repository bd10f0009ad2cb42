-- The reason is the true one (02, Ask 3): each value is what its place holds in this clock; the rule applied to the values, in its lanes, is
-- the unit's result, which shows as P with PREG 0, and which register P loads. For every slice, whatever its settings. Assumes nothing.
use Prim.Native.Nat.{ℕ, zero, suc, ◌+◌, ◌-◌, ◌%◌, ◌^◌, ◌<◌}
use mathlib.Core.Path.{◌≡◌, refl, sym, ap}
use mathlib.Core.Bool.{Bool, true, false, cond}
use mathlib.Core.List.{List, [], ◌∷◌}
use Rattle.std.specs.Prelude.{Option, Some, None}
use lib.Dec.{eqb, ltb}
use lib.ListN.{get_or, get_or-map}
use lib.Bits.{bit_and, bit_or, bit_xor}
use native.Mathlib.Omega.{arith}
use borrow.Author.Tests.{le-ltb}
use lib.IntN.{pos, ◌+ℤ◌, ◌-ℤ◌}
use Rattle.word.specs.Word.{word}
use Rattle.unit.specs.Choice.{mux, bit}
use Rattle.unit.specs.Unit.{ones, compl, arithmetic, lane_width, lane_count, logic_rows, unit_result, split_result, load}
use Rattle.unit.proofs.Lanes.{lane_of, carry_of, lane_of_lanes}
use Rattle.records.specs.declared.Attributes.{Attributes}
use Rattle.records.specs.declared.Registers.{Registers}
use Rattle.records.specs.declared.Ports.{Ports}
use Rattle.slice.specs.declared.inputs.Cascade.{Cascade}
use Rattle.slice.specs.declared.inputs.Controls.{Controls}
use Rattle.slice.specs.declared.inputs.Paths.{Paths}
use Rattle.unit.specs.declared.Operands.{Operands}
use Rattle.slice.specs.Slice.{controls_of, selects_of, paths_of, product_of, operands_of, slice_operands, result_of, settled_of, slice_settled, outputs_of_settled, slice_outputs, edge, next_of, slice_next}
use Rattle.reason.specs.declared.places.Place.TheVariants.{Zero, M, P, AB, Ones, C, Pcin, PcinShifted, PShifted, Rnd, Carryin, PcinBit47, NotPcinBit47, PBit47, NotPBit47, CarryBelow}
use Rattle.reason.specs.declared.rules.Rule.{Rule}
use Rattle.reason.specs.declared.rules.Rule.TheVariants.{Sum, SumNotZ, NotSum, Difference, Xor, Xnor, And, Or, AndNotZ, OrNotZ, Nand, Nor, NotXOrZ, NotXAndZ}
use Rattle.reason.specs.declared.Reason.{Reason}
use Rattle.reason.specs.Reason.{places_of, held_at, value_at, held_values, rule_of, in_lanes, made_by, applied, reason_of}

-- ---- the places

-- each value is what its place holds
pub record Placed (a : Attributes) (r : Registers) (p : Ports) (below : Cascade) (v : Reason) : Type 0 where
  pub w : v.values.w ≡ value_at a r p below v.places.w
  pub x : v.values.x ≡ value_at a r p below v.places.x
  pub y : v.values.y ≡ value_at a r p below v.places.y
  pub z : v.values.z ≡ value_at a r p below v.places.z
  pub cin : v.values.cin ≡ value_at a r p below v.places.cin

-- a list of places, read by what they hold, is the list of the operand's values
pub held_operands : (a : Attributes) (r : Registers) (k : Controls) (s : Paths) (x : Cascade) (m : ℕ)
    → operands_of a r k s x m ≡ held_values a r s x m (places_of k)
unfolding operands_of held_values held_at places_of
held_operands a r k s x m =
    let held = held_at a r s x m in
    let select = selects_of k.opmode in
    λ i. record {
      w = get_or-map held (Zero ∷ P ∷ Rnd ∷ C ∷ []) select.w Zero i;
      x = get_or-map held (Zero ∷ M ∷ P ∷ AB ∷ []) select.x Zero i;
      y = get_or-map held (Zero ∷ Zero ∷ Ones ∷ C ∷ []) select.y Zero i;
      z = get_or-map held (Zero ∷ Pcin ∷ P ∷ C ∷ Zero ∷ PcinShifted ∷ PShifted ∷ []) select.z Zero i;
      cin =
          get_or-map held (Carryin ∷ NotPcinBit47 ∷ CarryBelow ∷ PcinBit47 ∷ Zero ∷ NotPBit47 ∷ Zero ∷ PBit47 ∷ [])
          k.carryinsel
          Zero
          i;
    }

pub places_true : (a : Attributes) (r : Registers) (p : Ports) (x : Cascade) → Placed a r p x (reason_of a r p x)
unfolding reason_of value_at slice_operands held_values
places_true a r p x =
    let s = paths_of a r p x in
    let same = held_operands a r (controls_of a r p) s x (mux a.mreg (product_of a r (controls_of a r p) s).m r.m) in
    record {
      w = ap (λ (o : Operands). o.w) same;
      x = ap (λ (o : Operands). o.x) same;
      y = ap (λ (o : Operands). o.y) same;
      z = ap (λ (o : Operands). o.z) same;
      cin = ap (λ (o : Operands). o.cin) same;
    }

-- ---- the rule

module _ (simd : ℕ) (o : Operands) where
  abbrev logic_rules : Bool → List (Option Rule)
  logic_rules b =
      Some (cond b Xor Xnor) ∷ Some (cond b Xnor Xor) ∷ Some (cond b Xnor Xor) ∷ Some (cond b Xor Xnor)
      ∷ None ∷ None ∷ None ∷ None
      ∷ Some (cond b And Or) ∷ Some (cond b AndNotZ OrNotZ) ∷ Some (cond b Nand Nor) ∷ Some (cond b NotXOrZ NotXAndZ)
      ∷ []

  abbrev rows_by : Bool → List ℕ
  rows_by b =
      let x = o.x % 2 ^ 48 in
      let z = o.z % 2 ^ 48 in
      cond b (bit_xor x z) (compl (bit_xor x z))
      ∷ cond b (compl (bit_xor x z)) (bit_xor x z)
      ∷ cond b (compl (bit_xor x z)) (bit_xor x z)
      ∷ cond b (bit_xor x z) (compl (bit_xor x z))
      ∷ 0 ∷ 0 ∷ 0 ∷ 0
      ∷ cond b (bit_and x z) (bit_or x z)
      ∷ cond b (bit_and x (compl z)) (bit_or x (compl z))
      ∷ cond b (compl (bit_and x z)) (compl (bit_or x z))
      ∷ cond b (bit_or (compl x) z) (bit_and (compl x) z)
      ∷ []

  -- a logic mode's rule is its row
  logic_true : (b : Bool) (m : ℕ) → applied (get_or (logic_rules b) m None) simd o ≡ get_or (rows_by b) m 0
  unfolding made_by
  logic_true true m = sym (get_or-map (λ rule. applied rule simd o) (logic_rules true) m None)
  logic_true false m = sym (get_or-map (λ rule. applied rule simd o) (logic_rules false) m None)

  -- the rule of a mode gives what the unit gives in that mode, whatever the mode
  pub rule_true : (mode : ℕ) → applied (rule_of mode o.y) simd o ≡ result_of simd mode o
  unfolding made_by rule_of result_of split_result unit_result logic_rows
  rule_true zero = refl
  rule_true (suc zero) = refl
  rule_true (suc (suc zero)) = refl
  rule_true (suc (suc (suc zero))) = refl
  rule_true (suc (suc (suc (suc m)))) =
      let high : ltb (suc (suc (suc (suc m)))) 4 ≡ false = le-ltb (suc (suc (suc (suc m)))) 4 (omega arith) in
      let row : suc (suc (suc (suc m))) - 4 ≡ m = omega arith in
      rw (high, row) (logic_true (eqb o.y 0) m)

  -- the arithmetic rules in lane i: 01's formulas on that lane's own bits, modulo 2 ^ width, with CIN in the lowest lane alone
  module _ (i : ℕ) (some : i < lane_count simd) where
    abbrev lane : ℕ → ℕ
    lane n = lane_of (lane_width simd) i n

    abbrev carry : ℕ
    carry = carry_of (lane_width simd) i o.cin

    by_mode : (mode : ℕ) → lane (in_lanes simd mode o)
        ≡ arithmetic (lane_width simd) mode (lane o.w) (lane o.x) (lane o.y) (lane o.z) carry
    by_mode mode = lane_of_lanes (lane_width simd) (lane_count simd) i mode o.w o.x o.y o.z o.cin some

    pub sum_in_lane : lane (applied (Some Sum) simd o) ≡ word (lane_width simd) (pos (lane o.z + lane o.w + lane o.x + lane o.y + carry))
    unfolding made_by arithmetic
    sum_in_lane = by_mode 0

    pub sum_not_z_in_lane : lane (applied (Some SumNotZ) simd o)
        ≡ word (lane_width simd) ((pos (ones (lane_width simd)) -ℤ pos (lane o.z)) +ℤ pos (lane o.w + lane o.x + lane o.y + carry))
    unfolding made_by arithmetic
    sum_not_z_in_lane = by_mode 1

    pub not_sum_in_lane : lane (applied (Some NotSum) simd o)
        ≡ word (lane_width simd) (pos (ones (lane_width simd)) -ℤ pos (lane o.z + lane o.w + lane o.x + lane o.y + carry))
    unfolding made_by arithmetic
    not_sum_in_lane = by_mode 2

    pub difference_in_lane : lane (applied (Some Difference) simd o)
        ≡ word (lane_width simd) (pos (lane o.z) -ℤ pos (lane o.w + lane o.x + lane o.y + carry))
    unfolding made_by arithmetic
    difference_in_lane = by_mode 3

-- ---- the result

module _ (a : Attributes) (r : Registers) (p : Ports) (x : Cascade) where
  -- it is what settles for P
  pub result_settles : (reason_of a r p x).result ≡ (slice_settled a r p x).p
  unfolding reason_of
  result_settles = refl

  -- and what the rule makes of the values in its lanes
  pub result_by_rule : applied (reason_of a r p x).rule (reason_of a r p x).lanes (reason_of a r p x).values ≡ (reason_of a r p x).result
  unfolding reason_of slice_settled settled_of
  result_by_rule = rule_true a.use_simd (slice_operands a r p x) (controls_of a r p).alumode

  -- with PREG 0 it shows as P
  pub result_shows : a.preg ≡ 0 → (slice_outputs a r p x).p ≡ (reason_of a r p x).result
  unfolding reason_of slice_outputs outputs_of_settled
  result_shows e = rw e

  -- with CE P and without RST P, register P holds it after the edge
  pub result_loads : bit p.ce 8 ≡ 1 → bit p.rst 5 ≡ 0 → (slice_next a r p x).p ≡ (reason_of a r p x).result
  unfolding reason_of slice_next next_of edge load
  result_loads enabled kept = rw (enabled, kept)
