-- A packed P, high * 2 ^ 18 + low, read back: the low 18 bits are the low sum, and the quotient rounded down, with bit 17, is the high sum.
-- Assumes nothing.
use Rattle.std.proofs.Common.{◌≡◌, ℕ, suc, ◌+◌, ◌-◌, ◌*◌, ◌/◌, ◌%◌, ◌^◌, ◌<◌, ◌≤◌, ℤ, pos, negsuc, ◌+ℤ◌, ◌-ℤ◌, ◌*ℤ◌, neg_ℤ, sym, ap, ◌∙◌, mod-eq_of_lt, arith}
use lib.IntN.{ -ℤ-+ℤ_cancel}
use lib.Signed.{shr_z, mag}
use Rattle.word.specs.Word.{word, halved, high_sum, low_sum}
use Rattle.word.proofs.Laws.{word_lt, signed_word}
use Rattle.word.proofs.Integers.{up, down, up_le, down_le, parts, mag_sub, add_sub, neg_sub, mul_add_sub, floor_is, word_foot, word_multiple}

-- P's integer
abbrev pub packed : (high low : ℤ) → ℤ
packed high low = high *ℤ pos (2 ^ 18) +ℤ low

abbrev bit17 : (n : ℕ) → ℕ
bit17 n = n / 2 ^ 17 % 2

-- where bit 17 is set, the low word is 2 ^ 18 above the low sum
sign_bit : (low : ℤ) → mag low < 2 ^ 17 → up low + bit17 (word 18 low) * 2 ^ 18 ≡ word 18 low + down low
sign_bit (pos n) l = omega arith
sign_bit (negsuc n) l = omega arith

module _ (high low : ℤ) (h : mag high < 2 ^ 28) (l : mag low < 2 ^ 17) where
  foot : word 48 (packed high low) % 2 ^ 18 ≡ word 18 low
  foot = word_foot 30 18 (packed high low) ∙ word_multiple 18 high low

  pub low_read : low_sum (word 48 (packed high low)) ≡ low
  low_read = ap (halved 18) (foot ∙ sym (mod-eq_of_lt (word_lt 18 low))) ∙ signed_word 18 low (omega arith)

  range : suc (mag (packed high low)) * 2 ≤ 2 ^ 48
  range =
      rw (mul_add_sub high low (2 ^ 18))
      (omega (
        arith,
        mag_sub (up high * 2 ^ 18 + up low) (down high * 2 ^ 18 + down low) (2 ^ 47 - 1)
            (omega (arith, up_le high, up_le low))
            (omega (arith, down_le high, down_le low)),
      ))

  abbrev bit : ℕ
  bit = bit17 (word 48 (packed high low))

  floor : shr_z (packed high low) (2 ^ 18) ≡ high -ℤ pos bit
  floor =
      floor_is (2 ^ 18) (packed high low) (high -ℤ pos bit) (word 18 low) (word_lt 18 low)
      (omega (
        arith,
        foot,
        sign_bit low l,
        parts (packed high low) (up high * 2 ^ 18 + up low) (down high * 2 ^ 18 + down low) (mul_add_sub high low (2 ^ 18)),
        parts (high -ℤ pos bit) (up high + up (neg_ℤ (pos bit))) (down high + down (neg_ℤ (pos bit))) (add_sub high (neg_ℤ (pos bit))),
        parts (neg_ℤ (pos bit)) 0 bit (neg_sub bit),
      ))

  pub high_read : high_sum (word 48 (packed high low)) ≡ high
  high_read =
      ap (λ (y : ℤ). shr_z y (2 ^ 18) +ℤ pos bit) (signed_word 48 (packed high low) range)
      ∙ ap (λ (y : ℤ). y +ℤ pos bit) floor
      ∙ -ℤ-+ℤ_cancel high (pos bit)
