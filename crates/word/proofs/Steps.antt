-- What the code's steps give: the power by a shift, the sign by a test, the reading by half of 2 ^ w added and taken off, the complement of
-- an integer below zero. Assumes nothing.
use Rattle.std.proofs.Common.{◌≡◌, ℕ, suc, ◌+◌, ◌-◌, ◌*◌, ◌/◌, ◌%◌, ◌^◌, ◌<◌, ◌≤◌, true, false, ℤ, pos, negsuc, ◌-ℤ◌, sym, ap, ◌∙◌, mod-lt, mod-eq_of_lt, one-mul, arith, pow_pos, to_z-of_z, SFits, to_z, of_z, ltb-true}
use native.Mathlib.Nat.{mod-add-mod, mod-eq-sub-mod}
use lib.Pow.{pow-lt, mod-mod-pow}
use lib.IntN.{sub_ℕ}
use lib.Signed.{lt_z, mag}
use mir.Syntax.{Width}
use Rattle.word.specs.Word.{signed}
use Rattle.word.proofs.Laws.{cases}
use Rattle.word.proofs.Integers.{sub_eq, pos_sub, negsuc_sub, minus}

-- `1 << w` of v bits
pub shl_one : (v w : ℕ) → w < v → 1 * 2 ^ w % 2 ^ v ≡ 2 ^ w
shl_one v w h = ap (λ (x : ℕ). x % 2 ^ v) (one-mul (2 ^ w)) ∙ mod-eq_of_lt (pow-lt h)

-- the low w bits of v bits
pub low_bits : (v w n : ℕ) → w ≤ v → n % 2 ^ v % 2 ^ w ≡ n % 2 ^ w
low_bits v w n h = ap (λ (x : ℕ). n % 2 ^ x % 2 ^ w) (omega arith) ∙ mod-mod-pow n (v - w) w

-- a signed value as its bits hold it: what it equals, where that fits
pub held : (v : Width) {y z : ℤ} → z ≡ y → SFits v y → to_z v (of_z v z) ≡ y
held v e h = ap (λ (x : ℤ). to_z v (of_z v x)) e ∙ to_z-of_z h

pub below_zero : (z : ℤ) → lt_z z (pos 0) ≡ true → z ≡ negsuc (mag z)
below_zero (pos n) e = absurd (omega (arith, ltb-true n 0 e))
below_zero (negsuc n) e = cc

pub from_zero : (z : ℤ) → lt_z z (pos 0) ≡ false → z ≡ pos (mag z)
from_zero (pos n) e = cc
from_zero (negsuc n) e = cc

pub complement : (n : ℕ) → negsuc 0 -ℤ negsuc n ≡ pos n
complement n = sub_eq (suc n) 1 n 0 (omega arith) ∙ sym (pos_sub n)

-- n moved up by half of 2 ^ w, cut to w bits, and moved down again
pub signed_offset : (w n : ℕ) → pos ((n + 2 ^ w / 2) % 2 ^ w) -ℤ pos (2 ^ w / 2) ≡ signed w n
signed_offset w n =
    ap (λ (x : ℕ). pos x -ℤ pos half) (sym (mod-add-mod n (2 ^ w) half))
    ∙ minus ((bits + half) % 2 ^ w) half
    ∙ cases (λ z. sub_ℕ ((bits + half) % 2 ^ w) half ≡ z) (bits * 2) (2 ^ w) low high
  where
    half : ℕ
    half = 2 ^ w / 2

    bits : ℕ
    bits = n % 2 ^ w

    below : bits < 2 ^ w
    below = mod-lt n (pow_pos w)

    low : bits * 2 < 2 ^ w → sub_ℕ ((bits + half) % 2 ^ w) half ≡ pos bits
    low l = sub_eq ((bits + half) % 2 ^ w) half bits 0 (omega (arith, mod-eq_of_lt kept)) ∙ sym (pos_sub bits)
      where
        kept : bits + half < 2 ^ w
        kept = omega arith

    high : 2 ^ w ≤ bits * 2 → sub_ℕ ((bits + half) % 2 ^ w) half ≡ negsuc (2 ^ w - suc bits)
    high l =
        sub_eq ((bits + half) % 2 ^ w) half 0 (suc (2 ^ w - suc bits)) (omega (arith, once, below))
        ∙ sym (negsuc_sub (2 ^ w - suc bits))
      where
        once : (bits + half) % 2 ^ w ≡ bits + half - 2 ^ w
        once = mod-eq-sub-mod (omega arith) ∙ mod-eq_of_lt (omega (arith, below))
