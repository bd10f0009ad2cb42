-- A slice that adds A:B and C (02, Ask 7): with PREG 1 and no other register in the way, ONE48, ALUMODE 0 and the selects of W and Y 0, one
-- clock leaves the low 48 bits of the sum in P and the bit above them in the carry. Assumes nothing.
use Prim.Native.Nat.{ℕ, ◌+◌, ◌*◌, ◌/◌, ◌%◌, ◌^◌, ◌<◌}
use mathlib.Core.Path.{◌≡◌, ◌∙◌}
use native.Mathlib.Nat.{mod-eq_of_lt, div-add-mod'}
use native.Mathlib.Omega.{arith}
use Rattle.unit.specs.Choice.{bit}
use Rattle.unit.specs.Unit.{carry_out, load}
use Rattle.unit.proofs.Carry.{sum_result, carry_divides, sum_lt}
use Rattle.records.specs.declared.Attributes.{Attributes}
use Rattle.records.specs.declared.Registers.{Registers}
use Rattle.records.specs.declared.Ports.{Ports}
use Rattle.slice.specs.declared.inputs.Cascade.{Cascade}
use Rattle.slice.specs.declared.inputs.Controls.{Controls}
use Rattle.unit.specs.declared.Operands.{Operands}
use Rattle.slice.specs.Slice.{controls_of, selects_of, paths_of, operands_of, slice_operands, result_of, settled_carry, settled_of, slice_settled, edge, next_of, slice_next}

-- "PREG 1 and no other registers", "inputs direct", ONE48: the registers of D, AD, M and INMODE are not on the way
pub record Adder (a : Attributes) : Type 0 where
  pub areg : a.areg ≡ 0
  pub breg : a.breg ≡ 0
  pub a_input : a.a_input ≡ 0
  pub b_input : a.b_input ≡ 0
  pub creg : a.creg ≡ 0
  pub preg : a.preg ≡ 1
  pub opmodereg : a.opmodereg ≡ 0
  pub alumodereg : a.alumodereg ≡ 0
  pub carryinreg : a.carryinreg ≡ 0
  pub carryinselreg : a.carryinselreg ≡ 0
  pub one48 : a.use_simd ≡ 0

-- u in A:B and v in C, "adding A:B and C" (OPMODE 51: X 3, Y 0, Z 3, W 0), ALUMODE 0, "enabled and not reset"; the other ports hold anything
pub record Given (u v : ℕ) (p : Ports) : Type 0 where
  pub a : p.a ≡ u / 2 ^ 18
  pub b : p.b ≡ u % 2 ^ 18
  pub c : p.c ≡ v
  pub opmode : p.opmode ≡ 51
  pub alumode : p.alumode ≡ 0
  pub enabled : bit p.ce 8 ≡ 1
  pub not_reset : bit p.rst 5 ≡ 0

-- u and v, and CIN
abbrev added : (u v cin : ℕ) → Operands
added u v cin = record { w = 0; x = u; y = 0; z = v; cin = cin }

added_result : (simd mode u v cin : ℕ) (o : Operands) → simd ≡ 0 → mode ≡ 0 → o ≡ added u v cin → result_of simd mode o ≡ (u + v + cin) % 2 ^ 48
unfolding result_of
added_result simd mode u v cin o e f g = rw (e, f, g) (sum_result u v cin)

added_carry : (a : Attributes) (k : Controls) (u v cin : ℕ) (o : Operands) → a.use_simd ≡ 0 → k.alumode ≡ 0 → k.opmode ≡ 51 → o ≡ added u v cin
    → u < 2 ^ 48 → v < 2 ^ 48 → cin < 2 → settled_carry a k o ≡ (u + v + cin) / 2 ^ 48
unfolding settled_carry carry_out selects_of
added_carry a k u v cin o e f g h hu hv hc = rw (e, f, g, h) (carry_divides 48 (u + v + cin) (sum_lt 48 u v cin hu hv hc))

module _ (a : Attributes) (r : Registers) (p : Ports) (x : Cascade) (u v : ℕ) (adder : Adder a) (given : Given u v p) where
  -- CIN as it is selected
  abbrev pub cin_of : ℕ
  cin_of = (slice_operands a r p x).cin

  -- A:B is u
  joins : u < 2 ^ 48 → u / 2 ^ 18 % 2 ^ 30 * 2 ^ 18 + u % 2 ^ 18 % 2 ^ 18 ≡ u
  joins h =
      let high : u / 2 ^ 18 % 2 ^ 30 ≡ u / 2 ^ 18 = mod-eq_of_lt (omega arith) in
      let low : u % 2 ^ 18 % 2 ^ 18 ≡ u % 2 ^ 18 = mod-eq_of_lt (omega arith) in
      rw (high, low) (div-add-mod' u (2 ^ 18))

  -- X is u, Z is v, and W and Y are 0
  operands : u < 2 ^ 48 → slice_operands a r p x ≡ added u v cin_of
  unfolding slice_operands operands_of selects_of controls_of paths_of
  operands h =
      let w : (slice_operands a r p x).w ≡ 0 = rw (adder.opmodereg, given.opmode) in
      let ab : (slice_operands a r p x).x ≡ u =
      rw (adder.opmodereg, given.opmode, adder.areg, adder.breg, adder.a_input, adder.b_input, given.a, given.b) (joins h) in
      let y : (slice_operands a r p x).y ≡ 0 = rw (adder.opmodereg, given.opmode) in
      let c : (slice_operands a r p x).z ≡ v = rw (adder.opmodereg, given.opmode, adder.creg, given.c) in
      λ i. record { w = w i; x = ab i; y = y i; z = c i; cin = cin_of }

  alumode_in_effect : (controls_of a r p).alumode ≡ 0
  unfolding controls_of
  alumode_in_effect = rw (adder.alumodereg, given.alumode)

  opmode_in_effect : (controls_of a r p).opmode ≡ 51
  unfolding controls_of
  opmode_in_effect = rw (adder.opmodereg, given.opmode)

  -- P and the carry load what settles
  loads : ((slice_next a r p x).p ≡ (slice_settled a r p x).p) × ((slice_next a r p x).carry ≡ (slice_settled a r p x).carry)
  unfolding slice_next next_of edge load
  loads = (rw (given.not_reset, given.enabled), rw (given.not_reset, given.enabled))

  pub adds : u < 2 ^ 48 → v < 2 ^ 48 → cin_of < 2
      → ((slice_next a r p x).p ≡ (u + v + cin_of) % 2 ^ 48) × ((slice_next a r p x).carry ≡ (u + v + cin_of) / 2 ^ 48)
  unfolding slice_settled settled_of
  adds hu hv hc = (
    loads.0 ∙ added_result a.use_simd (controls_of a r p).alumode u v cin_of (slice_operands a r p x) adder.one48 alumode_in_effect (operands hu),
    loads.1
        ∙ added_carry a (controls_of a r p) u v cin_of (slice_operands a r p x) adder.one48 alumode_in_effect opmode_in_effect (operands hu) hu hv hc,
  )

  -- CIN by CARRYINSEL 0 with CARRYIN 0, and by CARRYINSEL 2
  pub cin_by_0 : p.carryinsel ≡ 0 → p.carryin ≡ 0 → cin_of ≡ 0
  unfolding slice_operands operands_of controls_of paths_of
  cin_by_0 e f = rw (adder.carryinselreg, e, adder.carryinreg, f)

  pub cin_by_2 : p.carryinsel ≡ 2 → cin_of ≡ x.carry
  unfolding slice_operands operands_of controls_of
  cin_by_2 e = rw (adder.carryinselreg, e)
