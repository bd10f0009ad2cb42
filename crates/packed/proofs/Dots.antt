-- How large the dot product of bytes is, and as what a loop holds it. Assumes nothing.
use Prim.Native.Nat.{ℕ, zero, suc, ◌+◌, ◌*◌, ◌^◌, ◌≤◌, ◌<◌, zero-le}
use native.Mathlib.Nat.{le_refl, lt_of_le_of_lt, mul-le-mul}
use native.Mathlib.Numerals.{add-one}
use native.Mathlib.Omega.{arith}
use mathlib.Core.Path.{◌≡◌, refl, ap₂, ◌∙◌}
use mathlib.Core.List.{List}
use lib.Dec.{lit<}
use lib.ListN.{get_or}
use lib.IntN.{ℤ, pos, nat_abs, ◌+ℤ◌, ◌*ℤ◌}
use lib.Signed.{mag, nat_abs-le}
use mir.Syntax.{w8, w32}
use mir.Val.{SFits, hbits, of_z, to_z}
use mir.Facts.{to_z-of_z}
use Rattle.packed.specs.Packed.{most_terms, Byte, dot}
use Rattle.packed.proofs.Sizes.{nat_abs_add, nat_abs_mul_le, mag_lt, kept}

-- n bytes from place s on
abbrev pub Bytes : List ℤ → (s n : ℕ) → Type 0
Bytes xs s n = (k : ℕ) → k < n → Byte (get_or xs (s + k) (pos 0))

module _ (xs ys : List ℤ) (s : ℕ) where
  -- one more product of bytes adds at most 2 ^ 14
  dot_more : (n : ℕ) → Byte (get_or xs (s + n) (pos 0)) → Byte (get_or ys (s + n) (pos 0))
      → nat_abs (dot xs ys s n) ≤ n * 2 ^ 14 → nat_abs (dot xs ys s (suc n)) ≤ suc n * 2 ^ 14
  unfolding dot
  dot_more n hx hy h =
      let x = get_or xs (s + n) (pos 0) in
      let y = get_or ys (s + n) (pos 0) in
      omega (arith, nat_abs_add (dot xs ys s n) (x *ℤ y), nat_abs_mul_le x y (nat_abs-le x hx) (nat_abs-le y hy))

  pub dot_size : (n : ℕ) → Bytes xs s n → Bytes ys s n → nat_abs (dot xs ys s n) ≤ n * 2 ^ 14
  unfolding dot
  dot_size zero hx hy = zero-le
  dot_size (suc n) hx hy =
      dot_more n (hx n (le_refl (suc n))) (hy n (le_refl (suc n))) (dot_size n (λ k h. hx k (omega arith)) (λ k h. hy k (omega arith)))

-- so it fits an i32
pub dot_fits : (z : ℤ) (n : ℕ) → n ≤ most_terms → nat_abs z ≤ n * 2 ^ 14 → SFits w32 z
dot_fits z n few h = record { sfits = mag_lt z h (lt_of_le_of_lt (mul-le-mul few (le_refl (2 ^ 14))) (lit< tt)) }

-- ---- a dot product as a loop holds it: the first k products' sum

pub record Summed (xs ys : List ℤ) (s k : ℕ) (sum : ℤ) : Type 0 where
  pub is : sum ≡ dot xs ys s k
  pub size : nat_abs (dot xs ys s k) ≤ k * 2 ^ 14

module _ (xs ys : List ℤ) (s : ℕ) where
  pub none_summed : Summed xs ys s 0 (pos 0)
  unfolding dot
  none_summed = record { is = refl; size = zero-le }

  -- one product more, of which r came from the bits of both bytes
  module _ (k : ℕ) (sum : ℤ) (few : k < most_terms) (was : Summed xs ys s k sum)
      (hx : Byte (get_or xs (s + k) (pos 0))) (hy : Byte (get_or ys (s + k) (pos 0)))
      (r : ℤ) (ok : mag r < 2 ^ hbits w32) (is : r ≡ to_z w8 (of_z w8 (get_or xs (s + k) (pos 0))) *ℤ to_z w8 (of_z w8 (get_or ys (s + k) (pos 0)))) where
    more : sum +ℤ to_z w32 (of_z w32 r) ≡ dot xs ys s (suc k)
    unfolding dot
    more =
        ap₂ (λ (x y : ℤ). x +ℤ y) was.is
        (kept w32 r ok ∙ is ∙ ap₂ (λ (x y : ℤ). x *ℤ y) (kept w8 (get_or xs (s + k) (pos 0)) hx) (kept w8 (get_or ys (s + k) (pos 0)) hy))

    size : nat_abs (dot xs ys s (suc k)) ≤ suc k * 2 ^ 14
    size = dot_more xs ys s k hx hy was.size

    pub more_fits : SFits w32 (sum +ℤ to_z w32 (of_z w32 r))
    more_fits = rw more (dot_fits (dot xs ys s (suc k)) (suc k) few size)

    pub more_summed : Summed xs ys s (k + 1) (to_z w32 (of_z w32 (sum +ℤ to_z w32 (of_z w32 r))))
    more_summed = rw add-one (record { is = to_z-of_z more_fits ∙ more; size = size })
