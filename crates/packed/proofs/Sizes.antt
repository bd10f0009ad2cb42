-- How large sums and products of integers are, and one more product in both lanes of a packed number. Assumes nothing.
use Prim.Native.Nat.{ℕ, zero, suc, ◌+◌, ◌*◌, ◌^◌, ◌≤◌, ◌<◌}
use native.Mathlib.Nat.{mul-le-mul, le_refl, le_trans, lt_of_le_of_lt}
use native.Mathlib.Omega.{arith}
use mathlib.Core.Path.{◌≡◌, refl, sym, ap, ◌∙◌}
use lib.IntN.{ℤ, pos, negsuc, neg_ℤ, sub_ℕ, nat_abs, ◌+ℤ◌, ◌*ℤ◌}
use lib.Signed.{mag}
use mir.Syntax.{Width}
use mir.Val.{SFits, hbits, to_z, of_z}
use mir.Facts.{to_z-of_z}
use Rattle.word.proofs.Laws.{cases}
use Rattle.word.proofs.Integers.{up, down, parts, sub_eq, add_sub, mul_add_sub, distribute}

nat_abs_sub : (a b : ℕ) → nat_abs (sub_ℕ a b) ≤ a + b
nat_abs_sub a b = cases (λ z. nat_abs z ≤ a + b) a b (λ l. omega arith) (λ l. omega arith)

pub nat_abs_add : (x y : ℤ) → nat_abs (x +ℤ y) ≤ nat_abs x + nat_abs y
nat_abs_add (pos a) (pos b) = omega arith
nat_abs_add (pos a) (negsuc b) = nat_abs_sub a (suc b)
nat_abs_add (negsuc a) (pos b) = omega (arith, nat_abs_sub b (suc a))
nat_abs_add (negsuc a) (negsuc b) = omega arith

nat_abs_neg : (n : ℕ) → nat_abs (neg_ℤ (pos n)) ≡ n
nat_abs_neg zero = refl
nat_abs_neg (suc n) = refl

pub nat_abs_mul : (x y : ℤ) → nat_abs (x *ℤ y) ≡ nat_abs x * nat_abs y
nat_abs_mul (pos a) (pos b) = refl
nat_abs_mul (pos a) (negsuc b) = nat_abs_neg (a * suc b)
nat_abs_mul (negsuc a) (pos b) = nat_abs_neg (suc a * b)
nat_abs_mul (negsuc a) (negsuc b) = refl

pub nat_abs_mul_le : (x y : ℤ) {m n : ℕ} → nat_abs x ≤ m → nat_abs y ≤ n → nat_abs (x *ℤ y) ≤ m * n
nat_abs_mul_le x y h k = rw nat_abs_mul (mul-le-mul h k)

mag_le : (z : ℤ) → mag z ≤ nat_abs z
mag_le (pos n) = le_refl n
mag_le (negsuc n) = omega arith

pub mag_lt : (z : ℤ) {m n : ℕ} → nat_abs z ≤ m → m < n → mag z < n
mag_lt z h k = lt_of_le_of_lt (le_trans (mag_le z) h) k

-- a signed value in its range passes as it is
pub kept : (w : Width) (z : ℤ) → mag z < 2 ^ hbits w → to_z w (of_z w z) ≡ z
kept w z h = let f : SFits w z = record { sfits = h } in to_z-of_z f

-- ---- two lanes in one number, the high one times n

-- added lane by lane
add_lanes : (n : ℕ) (h l e f : ℤ) → (h *ℤ pos n +ℤ l) +ℤ (e *ℤ pos n +ℤ f) ≡ (h +ℤ e) *ℤ pos n +ℤ (l +ℤ f)
add_lanes n h l e f =
    add_sub x y
    ∙ sub_eq (up x + up y) (down x + down y) (up (h +ℤ e) * n + up (l +ℤ f)) (down (h +ℤ e) * n + down (l +ℤ f))
    (omega (
      arith,
      parts x (up h * n + up l) (down h * n + down l) (mul_add_sub h l n),
      parts y (up e * n + up f) (down e * n + down f) (mul_add_sub e f n),
      ap (λ (z : ℕ). z * n) (parts (h +ℤ e) (up h + up e) (down h + down e) (add_sub h e)),
      parts (l +ℤ f) (up l + up f) (down l + down f) (add_sub l f),
    ))
    ∙ sym (mul_add_sub (h +ℤ e) (l +ℤ f) n)
  where
    x : ℤ
    x = h *ℤ pos n +ℤ l

    y : ℤ
    y = e *ℤ pos n +ℤ f

-- one more product in each
pub more_lanes : (n : ℕ) (h l a d b : ℤ) → (h *ℤ pos n +ℤ l) +ℤ (a *ℤ pos n +ℤ d) *ℤ b ≡ (h +ℤ a *ℤ b) *ℤ pos n +ℤ (l +ℤ d *ℤ b)
more_lanes n h l a d b = ap (λ (z : ℤ). (h *ℤ pos n +ℤ l) +ℤ z) (distribute a d b n) ∙ add_lanes n h l (a *ℤ b) (d *ℤ b)
