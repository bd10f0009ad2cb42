-- What the pre-adder's mark tells (02, Ask 4), once for every width: it is 0 exactly where the result, read as signed, is the true sum or
-- difference. Assumes nothing.
use Rattle.std.proofs.Common.{◌≡◌, ℕ, zero, suc, ◌+◌, ◌-◌, ◌^◌, ◌<◌, ◌≤◌, Bool, true, false, cond, ltb, ℤ, pos, neg_ℤ, sym, refl, ap, ◌∙◌, pow-suc, arith, ltb-true, lt-ltb}
use lib.Signed.{mag}
use Rattle.word.specs.Word.{word, signed}
use Rattle.word.proofs.Laws.{in_range, read_back, only_in_range, mag_add, mag_difference}
use Rattle.word.proofs.Integers.{sum_word, difference_word}
use Rattle.unit.specs.Unit.{wrapped_sum, true_sum, beyond, pre_adder}

-- the result is the true sum or difference modulo 2 ^ w
pub wrapped_true : (w subtract d a : ℕ) → word w (true_sum w subtract d a) ≡ wrapped_sum w subtract d a
unfolding wrapped_sum
wrapped_true w zero d a = sum_word w d a
wrapped_true w (suc s) d a = difference_word w d a

-- the true sum or difference is not much larger than its sides
true_size : (w subtract d a : ℕ) → mag (true_sum w subtract d a) ≤ suc (mag (signed w d) + mag (signed w a))
true_size w zero d a = mag_add (signed w d) (signed w a)
true_size w (suc s) d a = mag_difference (signed w d) (signed w a)

-- the mark of v bits and a sign
abbrev pub beyond_bits : (v : ℕ) → ℤ → ℕ
beyond_bits v z = beyond (neg_ℤ (pos (2 ^ v))) (pos (2 ^ v - 1)) z

mark_of_size : (v : ℕ) (z : ℤ) → beyond_bits v z ≡ cond (ltb (mag z) (2 ^ v)) 0 1
mark_of_size v z = ap (λ (b : Bool). cond b 0 1) (in_range v z)

unmarked : (b : Bool) → cond {A = ℕ} b 0 1 ≡ 0 → b ≡ true
unmarked true e = refl
unmarked false e = cc

module _ (v subtract d a : ℕ) where
  abbrev z : ℤ
  z = true_sum (suc v) subtract d a

  read : signed (suc v) (wrapped_sum (suc v) subtract d a) ≡ signed (suc v) (word (suc v) z)
  read = ap (signed (suc v)) (sym (wrapped_true (suc v) subtract d a))

  -- where the mark is 0, the result is right
  pub unmarked_true : beyond_bits v z ≡ 0 → signed (suc v) (wrapped_sum (suc v) subtract d a) ≡ z
  unmarked_true e = read ∙ read_back v z (ltb-true (mag z) (2 ^ v) (unmarked _ (sym (mark_of_size v z) ∙ e)))

  -- and nowhere else
  pub true_unmarked : signed (suc v) (wrapped_sum (suc v) subtract d a) ≡ z → beyond_bits v z ≡ 0
  true_unmarked e =
      mark_of_size v z ∙ ap (λ (b : Bool). cond b 0 1) (lt-ltb (mag z) (2 ^ v) (only_in_range v z (sym read ∙ e)))

-- sides that need one bit less never light it
pub narrow_unmarked : (v subtract d a : ℕ) → mag (signed (suc (suc v)) d) < 2 ^ v → mag (signed (suc (suc v)) a) < 2 ^ v
    → beyond_bits (suc v) (true_sum (suc (suc v)) subtract d a) ≡ 0
narrow_unmarked v subtract d a h k =
    let z = true_sum (suc (suc v)) subtract d a in
    mark_of_size (suc v) z
    ∙ ap (λ (b : Bool). cond b 0 1) (lt-ltb (mag z) (2 ^ suc v) (omega (arith, true_size (suc (suc v)) subtract d a, pow-suc 2 v)))

-- the pre-adder itself has 26 bits and a sign
pub pre_adder_exact : (subtract d a : ℕ)
    → ((pre_adder subtract d a).wrap ≡ 0 → signed 27 (pre_adder subtract d a).ad ≡ true_sum 27 subtract d a)
    × (signed 27 (pre_adder subtract d a).ad ≡ true_sum 27 subtract d a → (pre_adder subtract d a).wrap ≡ 0)
unfolding pre_adder
pre_adder_exact subtract d a = (unmarked_true 26 subtract d a, true_unmarked 26 subtract d a)
