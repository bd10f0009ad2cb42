-- Values that pin the definitions, by computation. 01's twelve cases and its slips stand together in `packed`, `Cases`. Assumes nothing.
use Rattle.std.proofs.Common.{◌≡◌, ◌+◌, ◌-◌, ◌^◌, pos, negsuc, refl}
use Rattle.word.specs.Word.{word, signed, extend, shifted, low_sum, high_sum}

pub record Values : Type 0 where
  -- the last word of 18 bits is -1, and what is above the width is not read
  pub ones_of_18 : signed 18 262143 ≡ negsuc 0
  pub low_bits_alone : signed 18 (2 ^ 18 + 1) ≡ pos 1
  -- a word is its integer modulo 2^w
  pub words : (word 4 (pos 5) ≡ 5) × (word 4 (pos 21) ≡ 5) × (word 4 (negsuc 4) ≡ 11)
  -- the lowest product of 45 bits, -2^44, in 48 bits
  pub lowest_extended : extend 45 48 (2 ^ 44) ≡ 263882790666240
  pub shifted_by_17 : (shifted 48 17 (2 ^ 17) ≡ 1) × (shifted 48 17 (2 ^ 17 - 1) ≡ 0)
  -- bit 17 is the low sum's sign
  pub low_sums : (low_sum 131071 ≡ pos 131071) × (low_sum 131072 ≡ negsuc 131071)
  -- P -2^18 is high -1; P -1 is high 0, since bit 17 is set
  pub high_sums : (high_sum (2 ^ 48 - 2 ^ 18) ≡ negsuc 0) × (high_sum (2 ^ 48 - 1) ≡ pos 0)

pub values : Values
values =
    record {
      ones_of_18 = refl;
      low_bits_alone = refl;
      words = (refl, refl, refl);
      lowest_extended = refl;
      shifted_by_17 = (refl, refl);
      low_sums = (refl, refl);
      high_sums = (refl, refl);
    }
