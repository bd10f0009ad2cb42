-- What PREADDWRAP tells (02, Ask 4), of every slice, whatever its settings and registers: it is 0 exactly where what goes into AD, read as
-- signed, is the true sum or difference of the pre-adder's two sides. Assumes nothing.
use mathlib.Core.Path.{◌≡◌, refl, sym, subst}
use Prim.Native.Nat.{ℕ}
use lib.IntN.{ℤ}
use Rattle.word.specs.Word.{signed}
use Rattle.unit.specs.Choice.{bit}
use Rattle.unit.specs.Unit.{true_sum, load}
use Rattle.unit.proofs.PreAdder.{pre_adder_exact}
use Rattle.records.specs.declared.Attributes.{Attributes}
use Rattle.records.specs.declared.Registers.{Registers}
use Rattle.records.specs.declared.Ports.{Ports}
use Rattle.slice.specs.declared.inputs.Cascade.{Cascade}
use Rattle.slice.specs.declared.inputs.Controls.{Controls}
use Rattle.slice.specs.declared.inputs.Paths.{Paths}
use Rattle.slice.specs.Slice.{controls_of, paths_of, a_side, d_side, pre_added_of, product_of, settled_of, slice_settled, outputs_of_settled, edge, next_of, slice_outputs, slice_next}

module _ (a : Attributes) (r : Registers) (p : Ports) (x : Cascade) where
  abbrev k : Controls
  k = controls_of a r p

  abbrev s : Paths
  s = paths_of a r p x

  -- d + a, or d - a if INMODE bit 3
  abbrev pub true_ad : ℤ
  true_ad = true_sum 27 (bit k.inmode 3) (d_side k s) (a_side r k s)

  -- the mark is shown in the clock in which it settles: neither ADREG nor PREG, nor what AD holds, has a part in it
  pub mark_settles : (slice_outputs a r p x).preaddwrap ≡ (pre_added_of r k s).wrap
  unfolding slice_outputs outputs_of_settled slice_settled settled_of product_of
  mark_settles = refl

  -- it is 0 exactly where this 27-bit word, read as signed, is the true sum or difference
  abbrev pub Marks : (ad : ℕ) → Type 0
  Marks ad =
      ((slice_outputs a r p x).preaddwrap ≡ 0 → signed 27 ad ≡ true_ad) × (signed 27 ad ≡ true_ad → (slice_outputs a r p x).preaddwrap ≡ 0)

  -- so it marks what goes into AD
  pub mark_exact : Marks (slice_settled a r p x).ad
  unfolding slice_outputs outputs_of_settled slice_settled settled_of product_of pre_added_of
  mark_exact = pre_adder_exact (bit k.inmode 3) (d_side k s) (a_side r k s)

  -- and, where AD loads, the register after the edge
  ad_loads : bit p.rst 3 ≡ 0 → bit p.ce 6 ≡ 1 → (slice_next a r p x).ad ≡ (slice_settled a r p x).ad
  unfolding slice_next next_of edge load
  ad_loads reset enable = rw (reset, enable)

  pub loaded_exact : bit p.rst 3 ≡ 0 → bit p.ce 6 ≡ 1 → Marks (slice_next a r p x).ad
  loaded_exact reset enable = subst Marks (sym (ad_loads reset enable)) mark_exact
