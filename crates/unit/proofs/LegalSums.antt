-- Where a sum stands, as the detector tells it: with PATTERN 0 and the n low bits masked, PD is 1 for a sum from 0 to 2^n - 1 and PBD
-- for one from -2^n to -1. These are the legal ones (000, "Overflow and Underflow Logic"); outside both are 0. Assumes nothing.
use Rattle.std.proofs.Common.{◌≡◌, ℕ, suc, ◌+◌, ◌-◌, ◌*◌, ◌%◌, ◌^◌, ◌<◌, ◌≤◌, Bool, true, false, cond, not, ◌&&◌, eqb, ltb, leb, ℤ, pos, negsuc, sym, refl, ap, ◌∙◌, mod-lt, mod-eq_of_lt, pow-suc, arith, pow_pos, pow_mono, ltb-false, ltb-true, le-ltb, eq-eqb, ne_eqb}
use mathlib.Core.Bool.{false≢true}
use lib.Dec.{leb-zero, leb-suc-zero, leb-suc-suc}
use lib.Pow.{suc_ones}
use lib.Bits.{bit_or, bit_xor, or_add_and, and_mask, xor_zero_r}
use lib.Signed.{le_z, lt_z}
use Rattle.word.specs.Word.{signed}
use Rattle.word.proofs.Laws.{cases, and_true}
use Rattle.unit.specs.Detector.{unmasked, equal, differs, detected}
use Rattle.unit.proofs.Masks.{hides_differing, hides_equal}

abbrev pub legal_non_negative : (n : ℕ) → ℤ → Bool
legal_non_negative n z = le_z (pos 0) z && lt_z z (pos (2 ^ n))

-- `negsuc (2 ^ n - 1)` is -2^n
abbrev pub legal_negative : (n : ℕ) → ℤ → Bool
legal_negative n z = le_z (negsuc (2 ^ n - 1)) z && lt_z z (pos 0)

abbrev pub outside : (n : ℕ) → ℤ → Bool
outside n z = not (legal_non_negative n z) && not (legal_negative n z)

-- no sum is legal on both sides
pub one_side : (n : ℕ) (z : ℤ) → legal_non_negative n z ≡ true → legal_negative n z ≡ true → ⊥
one_side n (pos a) e f = false≢true (sym (leb-suc-zero a) ∙ f)
one_side n (negsuc a) e f = false≢true e

-- a mask of the n low bits hides exactly what is below 2^n
low_mask : (n x : ℕ) → eqb (bit_or x (2 ^ n - 1)) (2 ^ n - 1) ≡ ltb x (2 ^ n)
low_mask n x = by (ltb x (2 ^ n)) (ltb-true x (2 ^ n)) (ltb-false x (2 ^ n))
  where
    parts : bit_or x (2 ^ n - 1) + x % 2 ^ n ≡ x + (2 ^ n - 1)
    parts = ap (λ (y : ℕ). bit_or x (2 ^ n - 1) + y) (sym (and_mask x n)) ∙ or_add_and x (2 ^ n - 1)

    by : (t : Bool) → (t ≡ true → x < 2 ^ n) → (t ≡ false → 2 ^ n ≤ x) → eqb (bit_or x (2 ^ n - 1)) (2 ^ n - 1) ≡ t
    by true f g = eq-eqb (bit_or x (2 ^ n - 1)) (2 ^ n - 1) (omega (arith, parts, mod-eq_of_lt (f refl)))
    by false f g = ne_eqb (bit_or x (2 ^ n - 1)) (2 ^ n - 1) (λ e. omega (arith, parts, g refl, mod-lt x (pow_pos n)))

-- of w bits, more than are masked
module _ (w n p : ℕ) (fewer : n < w) where
  abbrev r : ℕ
  r = p % 2 ^ w

  half : 2 ^ n * 2 ≤ 2 ^ w
  half = omega (arith, pow-suc 2 n, pow_mono fewer)

  below : ltb r (2 ^ n) ≡ legal_non_negative n (signed w p)
  below =
      cases (λ z. ltb r (2 ^ n) ≡ legal_non_negative n z) (r * 2) (2 ^ w)
      (λ l. sym (ap (λ (t : Bool). t && ltb r (2 ^ n)) (leb-zero r)))
      (λ l. le-ltb r (2 ^ n) (omega (arith, half)))

  above : ltb ((2 ^ w - 1) - r) (2 ^ n) ≡ legal_negative n (signed w p)
  above =
      cases (λ z. ltb ((2 ^ w - 1) - r) (2 ^ n) ≡ legal_negative n z) (r * 2) (2 ^ w)
      (λ l. le-ltb ((2 ^ w - 1) - r) (2 ^ n) (omega (arith, half)) ∙ sym (leb-suc-zero r))
      (λ l.
      ap (λ (y : ℕ). leb (suc ((2 ^ w - 1) - r)) y) (sym (suc_ones n))
      ∙ leb-suc-suc ((2 ^ w - 1) - r) (2 ^ n - 1)
      ∙ ap (λ (y : ℕ). leb y (2 ^ n - 1)) (omega arith)
      ∙ sym (and_true (leb (2 ^ w - suc r) (2 ^ n - 1))))

  -- the bits left of a sum equal 0, or differ from it, exactly where it is legal on one side of 0, or on the other
  pub equal_legal : unmasked equal w p 0 (2 ^ n - 1) ≡ legal_non_negative n (signed w p)
  equal_legal =
      sym (hides_differing w p 0 (2 ^ n - 1))
      ∙ low_mask n (bit_xor p 0 % 2 ^ w)
      ∙ ap (λ (y : ℕ). ltb (y % 2 ^ w) (2 ^ n)) (xor_zero_r p)
      ∙ below

  pub differs_legal : unmasked differs w p 0 (2 ^ n - 1) ≡ legal_negative n (signed w p)
  differs_legal =
      sym (hides_equal w p 0 (2 ^ n - 1))
      ∙ low_mask n ((2 ^ w - 1) - bit_xor p 0 % 2 ^ w)
      ∙ ap (λ (y : ℕ). ltb ((2 ^ w - 1) - y % 2 ^ w) (2 ^ n)) (xor_zero_r p)
      ∙ above

pub detected_legal : (n p : ℕ) → n < 48
    → ((detected p 0 (2 ^ n - 1)).pd ≡ cond (legal_non_negative n (signed 48 p)) 1 0)
    × ((detected p 0 (2 ^ n - 1)).pbd ≡ cond (legal_negative n (signed 48 p)) 1 0)
unfolding detected
detected_legal n p h =
    (ap (λ (t : Bool). cond t 1 0) (equal_legal 48 n p h), ap (λ (t : Bool). cond t 1 0) (differs_legal 48 n p h))
