-- Division rounded down, from division that rounds toward zero: below zero the number one above is divided, and one is taken off.
-- Assumes nothing.
use Rattle.std.proofs.Common.{◌≡◌, ℕ, zero, suc, ◌/◌, ◌≤◌, pos, negsuc, ◌+ℤ◌, ◌-ℤ◌, neg_ℤ, sym, refl, ap, ◌∙◌, le_trans, div-le_self, arith}
use native.Mathlib.Nat.{zero-div}
use lib.Signed.{quot_z, mag}
use Rattle.word.proofs.Laws.{mag_neg}
use Rattle.word.proofs.Integers.{sub_eq, neg_sub}

one_up : (a : ℕ) → negsuc a +ℤ pos 1 ≡ neg_ℤ (pos a)
one_up a = sub_eq 1 (suc a) 0 a (omega arith) ∙ sym (neg_sub a)

quot_neg : (a m : ℕ) → quot_z (neg_ℤ (pos a)) (pos m) ≡ neg_ℤ (pos (a / m))
quot_neg zero m = ap pos (zero-div m) ∙ ap (λ (x : ℕ). neg_ℤ (pos x)) (sym (zero-div m))
quot_neg (suc a) m = refl

one_down : (q : ℕ) → neg_ℤ (pos q) -ℤ pos 1 ≡ negsuc q
one_down zero = refl
one_down (suc q) = ap negsuc (omega arith)

-- no step is larger than the number
pub up_small : (a : ℕ) → mag (negsuc a +ℤ pos 1) ≤ a
up_small a = rw (one_up a) (mag_neg a)

pub quot_small : (a m : ℕ) → mag (quot_z (negsuc a +ℤ pos 1) (pos m)) ≤ a
quot_small a m = rw (one_up a, quot_neg a m) (le_trans (mag_neg (a / m)) (div-le_self a m))

pub floor_below : (a m : ℕ) → quot_z (negsuc a +ℤ pos 1) (pos m) -ℤ pos 1 ≡ negsuc (a / m)
floor_below a m = rw (one_up a, quot_neg a m) (one_down (a / m))
