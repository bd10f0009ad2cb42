-- What the mark of a cut tells (02, Ask 9), once for every width: it is 0 exactly where the low bits read as the whole word does, and
-- that is where the number fits them. Then the multiplier's product, which is exact. Assumes nothing.
use Rattle.std.proofs.Common.{◌≡◌, ℕ, suc, ◌+◌, ◌%◌, ◌^◌, ◌<◌, Bool, true, false, cond, ◌&&◌, leb, ℤ, pos, negsuc, ◌*ℤ◌, sym, refl, ap, ◌∙◌, subst, le_antisymm, arith, lit<, le-leb, leb-true}
use lib.Signed.{le_z, mag}
use Rattle.word.specs.Word.{word, halved, signed}
use Rattle.word.proofs.Laws.{both_true, signed_word, signed_range, word_signed, read_back, only_in_range, product_range}
use Rattle.word.proofs.Integers.{word_foot}
use Rattle.word.proofs.Steps.{low_bits}
use Rattle.unit.specs.Unit.{differing, cut_mark, product}

-- each at most the other: the two are one
same : (y z : ℤ) → le_z y z && le_z z y ≡ true → y ≡ z
same (pos a) (pos b) e = let h = both_true (leb a b) (leb b a) e in ap pos (le_antisymm (leb-true a b h.0) (leb-true b a h.1))
same (pos a) (negsuc b) e = let f : false ≡ true = e in cc
same (negsuc a) (pos b) e = let f : false ≡ true = e in cc
same (negsuc a) (negsuc b) e = let h = both_true (leb b a) (leb a b) e in ap negsuc (le_antisymm (leb-true a b h.1) (leb-true b a h.0))

itself : (z : ℤ) → le_z z z && le_z z z ≡ true
itself (pos a) = rw (le-leb a a (omega arith))
itself (negsuc a) = rw (le-leb a a (omega arith))

dark : (b : Bool) → cond {A = ℕ} b 0 1 ≡ 0 → b ≡ true
dark true e = refl
dark false e = cc

pub cut_exact : (v w n : ℕ) → (cut_mark v w n ≡ 0 → signed v n ≡ signed w n) × (signed v n ≡ signed w n → cut_mark v w n ≡ 0)
unfolding cut_mark
cut_exact v w n = (
  (λ e. same (signed v n) (signed w n) (dark _ e)),
  (λ e. subst (λ (z : ℤ). differing (signed v n) z ≡ 0) e (rw (itself (signed v n)))),
)

-- the low w bits read the same whether the others are cut off or not
pub signed_low : (w n : ℕ) → signed w (n % 2 ^ w) ≡ signed w n
signed_low w n = ap (halved w) (low_bits w w n (omega arith))

-- the low bits are those of the number that the whole word reads as
low_word : (j v n : ℕ) → word v (signed (j + v) n) ≡ n % 2 ^ v
low_word j v n =
    sym (word_foot j v (signed (j + v) n))
    ∙ ap (λ (x : ℕ). x % 2 ^ v) (word_signed (j + v) n)
    ∙ low_bits (j + v) v n (omega arith)

low_read : (j v n : ℕ) → signed v (word v (signed (j + v) n)) ≡ signed v n
low_read j v n = ap (signed v) (low_word j v n) ∙ signed_low v n

-- v bits and a sign, of j bits more: the mark is 0 exactly from -2 ^ v to 2 ^ v - 1
pub cut_fits : (j v n : ℕ) → let z = signed (j + suc v) n in
    (cut_mark (suc v) (j + suc v) n ≡ 0 → mag z < 2 ^ v) × (mag z < 2 ^ v → cut_mark (suc v) (j + suc v) n ≡ 0)
cut_fits j v n =
    let z = signed (j + suc v) n in
    let exact = cut_exact (suc v) (j + suc v) n in (
      (λ e. only_in_range v z (low_read j (suc v) n ∙ exact.0 e)),
      (λ h. exact.1 (sym (low_read j (suc v) n) ∙ read_back v z h)),
    )

-- "the product is exact in 45 bits" (01)
pub product_exact : (left right : ℕ) → signed 45 (product left right) ≡ signed 27 left *ℤ signed 18 right
unfolding product
product_exact left right =
    let small = product_range 26 17 (signed 27 left) (signed 18 right)
    (omega (arith, signed_range 27 left (lit< tt))) (omega (arith, signed_range 18 right (lit< tt))) in
    signed_word 45 (signed 27 left *ℤ signed 18 right) (omega (arith, small))
