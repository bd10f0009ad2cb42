-- Differences that have wrapped at 2 ^ (j + k), taken modulo 2 ^ k: 2 ^ k divides 2 ^ (j + k), so nothing is lost.
-- Assumes nothing.
use Rattle.std.proofs.Common.{◌≡◌, ℕ, ◌+◌, ◌*◌, ◌/◌, ◌%◌, ◌^◌, pos, ◌-ℤ◌, sym, ap, ◌∙◌, div-add-mod', arith, pow_pos}
use Rattle.word.specs.Word.{word}
use Rattle.word.proofs.Integers.{minus, modulo_sub, multiple}

module _ (j k : ℕ) where
  -- how many 2 ^ k a number loses as it wraps
  abbrev lost : (a : ℕ) → ℕ
  lost a = a / 2 ^ (j + k) * 2 ^ j

  whole : (a : ℕ) → a ≡ a % 2 ^ (j + k) + lost a * 2 ^ k
  whole a = omega (arith, div-add-mod' a (2 ^ (j + k)), multiple j k (a / 2 ^ (j + k)))

  -- r is a wrapped difference of two numbers that may have wrapped themselves
  pub difference_wraps : (r a b : ℕ) → (r + b % 2 ^ (j + k)) % 2 ^ (j + k) ≡ a % 2 ^ (j + k) → r % 2 ^ k ≡ word k (pos a -ℤ pos b)
  difference_wraps r a b e =
      modulo_sub (2 ^ k) (pow_pos k) a b r (lost a) (lost (r + b % 2 ^ (j + k)) + lost b)
      (omega (arith, whole a, whole b, whole (r + b % 2 ^ (j + k))))
      ∙ ap (word k) (sym (minus a b))
