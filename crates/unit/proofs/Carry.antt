-- What the carry tells (02, Ask 7): with the unit's result it is the exact sum of two words and a carry in, which has one bit more. Stated
-- for every width. Assumes nothing.
use Rattle.std.proofs.Common.{◌≡◌, ℕ, ◌+◌, ◌-◌, ◌*◌, ◌/◌, ◌%◌, ◌^◌, ◌<◌, Bool, true, false, cond, ◌&&◌, eqb, leb, sym, refl, ap, ◌∙◌, div-add-mod', arith, lit<, leb-false, leb-true}
use native.Mathlib.Nat.{div-eq_of_lt}
use lib.Arith.{digits_div}
use Rattle.unit.specs.Unit.{arithmetic, split_result, carry_out}
use Rattle.unit.proofs.Laws.{cond_lt}
use Rattle.unit.proofs.Lanes.{one_lane}

-- the bit above w bits, and the word below it
module _ (w n : ℕ) (most : n < 2 ^ w + 2 ^ w) where
  pub carry_divides : cond (leb (2 ^ w) n) 1 0 ≡ n / 2 ^ w
  carry_divides = by (leb (2 ^ w) n) refl
    where
      by : (b : Bool) → leb (2 ^ w) n ≡ b → cond b 1 0 ≡ n / 2 ^ w
      by true e =
          let l = leb-true (2 ^ w) n e in
          let parts : 1 * 2 ^ w + (n - 2 ^ w) ≡ n = omega (arith, l) in
          sym (ap (λ (m : ℕ). m / 2 ^ w) (sym parts) ∙ digits_div 1 (omega (arith, l, most)))
      by false e = sym (div-eq_of_lt (leb-false (2 ^ w) n e))

  pub carry_parts : cond (leb (2 ^ w) n) 1 0 * 2 ^ w + n % 2 ^ w ≡ n
  carry_parts = ap (λ (q : ℕ). q * 2 ^ w + n % 2 ^ w) carry_divides ∙ div-add-mod' n (2 ^ w)

-- two words of w bits with a carry in
pub sum_lt : (w x z cin : ℕ) → x < 2 ^ w → z < 2 ^ w → cin < 2 → x + z + cin < 2 ^ w + 2 ^ w
sum_lt w x z cin hx hz hc = omega arith

-- the result of that setting is the sum modulo 2^48
pub sum_result : (x z cin : ℕ) → split_result 0 0 0 x 0 z cin ≡ (x + z + cin) % 2 ^ 48
unfolding split_result arithmetic
sum_result x z cin = one_lane 48 0 0 x 0 z cin ∙ ap (λ (n : ℕ). n % 2 ^ 48) (omega arith)

-- carry · 2^48 + result = X + Z + CIN
pub carry_exact : (x z cin : ℕ) → x < 2 ^ 48 → z < 2 ^ 48 → cin < 2
    → carry_out 0 0 0 0 x z cin * 2 ^ 48 + split_result 0 0 0 x 0 z cin ≡ x + z + cin
unfolding carry_out
carry_exact x z cin hx hz hc =
    ap (λ (n : ℕ). cond (leb (2 ^ 48) (x + z + cin)) 1 0 * 2 ^ 48 + n) (sum_result x z cin)
    ∙ carry_parts 48 (x + z + cin) (sum_lt 48 x z cin hx hz hc)

pub carry_lt : (simd mode w_select y_select x z cin : ℕ) → carry_out simd mode w_select y_select x z cin < 2
unfolding carry_out
carry_lt simd mode w_select y_select x z cin =
    cond_lt (eqb simd 0 && eqb mode 0 && eqb w_select 0 && eqb y_select 0) (cond_lt (leb (2 ^ 48) (x + z + cin)) (lit< tt) (lit< tt)) (lit< tt)
