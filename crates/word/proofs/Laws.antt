-- Laws of a word of w bits, each once for every width: its bound, its two readings and their round trips, its range. Assumes nothing.
use Rattle.std.proofs.Common.{◌≡◌, ℕ, zero, suc, ◌+◌, ◌-◌, ◌*◌, ◌/◌, ◌%◌, ◌^◌, ◌<◌, ◌≤◌, Bool, true, false, cond, ◌&&◌, ltb, leb, ℤ, pos, negsuc, ◌+ℤ◌, ◌-ℤ◌, ◌*ℤ◌, neg_ℤ, sym, refl, ap, ◌∙◌, le_trans, le_refl, mod-lt, mod-eq_of_lt, mul-le-mul, pow-suc, arith, pow_pos, pow_mono, pow-add, SFits, ltb-false, ltb-true, le-ltb, lt-ltb}
use lib.Dec.{leb-suc-suc}
use lib.Pow.{suc_ones}
use lib.Signed.{le_z, shr_z, mag}
use mir.Syntax.{Width}
use mir.Val.{hbits}
use Rattle.word.specs.Word.{word, halved, signed, extend}

-- a test goes one way or the other
pub cases {ℓ} : {X : Type ℓ} (P : X → Type 0) (a b : ℕ) {x y : X}
    → (a < b → P x) → (b ≤ a → P y) → P (cond (ltb a b) x y)
cases P a b {x} {y} f g = by (ltb a b) (ltb-true a b) (ltb-false a b)
  where
    by : (t : Bool) → (t ≡ true → a < b) → (t ≡ false → b ≤ a) → P (cond t x y)
    by true p q = f (p refl)
    by false p q = g (q refl)

-- a test that holds exactly where another does
pub same_test : (s t : Bool) → (s ≡ true → t ≡ true) → (t ≡ true → s ≡ true) → s ≡ t
same_test true t f g = sym (f refl)
same_test false true f g = g refl
same_test false false f g = refl

pub and_true : (b : Bool) → b && true ≡ b
and_true true = refl
and_true false = refl

-- two tests that both hold
pub both_true : (a b : Bool) → a && b ≡ true → (a ≡ true) × (b ≡ true)
both_true true b p = (refl, p)
both_true false b p = (p, cc)

pub word_lt : (w : ℕ) (z : ℤ) → word w z < 2 ^ w
word_lt w (pos n) = mod-lt n (pow_pos w)
word_lt w (negsuc n) = omega (arith, pow_pos w)

-- an integer in the range of w bits is read back
pub signed_word : (w : ℕ) (z : ℤ) → suc (mag z) * 2 ≤ 2 ^ w → signed w (word w z) ≡ z
signed_word w z h = ap (halved w) (mod-eq_of_lt (word_lt w z)) ∙ back z h
  where
    back : (z : ℤ) → suc (mag z) * 2 ≤ 2 ^ w → halved w (word w z) ≡ z
    back (pos n) h = ap (halved w) (mod-eq_of_lt (omega arith)) ∙ rw (lt-ltb (n * 2) (2 ^ w) (omega arith))
    back (negsuc n) h =
        ap (λ (x : ℕ). halved w (2 ^ w - suc x)) (mod-eq_of_lt (omega arith))
        ∙ rw (le-ltb ((2 ^ w - suc n) * 2) (2 ^ w) (omega arith)) (ap negsuc (omega arith))

-- the reading is in that range; of no bits it is 0, which the first form lets in
pub signed_small : (w n : ℕ) → mag (signed w n) * 2 < 2 ^ w
signed_small w n = cases (λ z. mag z * 2 < 2 ^ w) (n % 2 ^ w * 2) (2 ^ w) (λ l. l) (λ l. omega (arith, mod-lt n (pow_pos w)))

pub signed_range : (w n : ℕ) → 0 < w → suc (mag (signed w n)) * 2 ≤ 2 ^ w
signed_range zero n h = elim h [ ]
signed_range (suc w) n h = omega (arith, signed_small (suc w) n, pow-suc 2 w)

-- what a word reads as leaves the word's own bits
pub word_signed : (w n : ℕ) → word w (signed w n) ≡ n % 2 ^ w
word_signed w n =
    cases (λ z. word w z ≡ n % 2 ^ w) (n % 2 ^ w * 2) (2 ^ w)
    (λ l. mod-eq_of_lt (mod-lt n (pow_pos w)))
    (λ l.
    ap (λ (x : ℕ). 2 ^ w - suc x) (mod-eq_of_lt (omega (arith, mod-lt n (pow_pos w))))
    ∙ omega (arith, mod-lt n (pow_pos w)))

-- so it fits every machine width that has as many bits
pub signed_fits : (w n : ℕ) {v : Width} → w ≤ suc (hbits v) → SFits v (signed w n)
signed_fits w n {v} h = record { sfits = omega (arith, signed_small w n, pow_mono h, pow-suc 2 (hbits v)) }

-- the range of v bits and a sign, by its two ends
pub in_range : (v : ℕ) (z : ℤ) → le_z (neg_ℤ (pos (2 ^ v))) z && le_z z (pos (2 ^ v - 1)) ≡ ltb (mag z) (2 ^ v)
in_range v z = ap (λ (n : ℕ). le_z (neg_ℤ (pos n)) z && le_z z (pos (2 ^ v - 1))) (sym (suc_ones v)) ∙ by z
  where
    within : (n : ℕ) → leb n (2 ^ v - 1) ≡ ltb n (2 ^ v)
    within n = sym (leb-suc-suc n (2 ^ v - 1)) ∙ ap (leb (suc n)) (suc_ones v)

    by : (z : ℤ) → le_z (negsuc (2 ^ v - 1)) z && le_z z (pos (2 ^ v - 1)) ≡ ltb (mag z) (2 ^ v)
    by (pos n) = within n
    by (negsuc n) = and_true (leb n (2 ^ v - 1)) ∙ within n

-- exactly an integer in that range is read back
pub read_back : (v : ℕ) (z : ℤ) → mag z < 2 ^ v → signed (suc v) (word (suc v) z) ≡ z
read_back v z h = signed_word (suc v) z (omega (arith, pow-suc 2 v))

pub only_in_range : (v : ℕ) (z : ℤ) → signed (suc v) (word (suc v) z) ≡ z → mag z < 2 ^ v
only_in_range v z e = omega (arith, ap mag e, signed_small (suc v) (word (suc v) z), pow-suc 2 v)

-- an integer in the range of v bits leaves the same word of w bits by way of its word of v bits
pub extend_word : (v w : ℕ) (z : ℤ) → suc (mag z) * 2 ≤ 2 ^ v → extend v w (word v z) ≡ word w z
extend_word v w z h = ap (word w) (signed_word v z h)

-- ---- sizes

pub mag_add_pos : (z : ℤ) (b : ℕ) → mag (z +ℤ pos b) ≤ mag z + b
mag_add_pos (pos a) b = omega arith
mag_add_pos (negsuc a) b = cases (λ y. mag y ≤ a + b) b (suc a) (λ l. omega arith) (λ l. omega arith)

pub mag_add : (y z : ℤ) → mag (y +ℤ z) ≤ suc (mag y + mag z)
mag_add (pos a) (pos b) = omega arith
mag_add (pos a) (negsuc b) = cases (λ x. mag x ≤ suc (a + b)) a (suc b) (λ l. omega arith) (λ l. omega arith)
mag_add (negsuc a) (pos b) = cases (λ x. mag x ≤ suc (a + b)) b (suc a) (λ l. omega arith) (λ l. omega arith)
mag_add (negsuc a) (negsuc b) = omega arith

pub mag_difference : (y z : ℤ) → mag (y -ℤ z) ≤ suc (mag y + mag z)
mag_difference y (pos zero) = mag_add y (pos zero)
mag_difference y (pos (suc b)) = omega (arith, mag_add y (negsuc b))
mag_difference (pos a) (negsuc b) = omega arith
mag_difference (negsuc a) (negsuc b) = cases (λ x. mag x ≤ suc (a + b)) (suc b) (suc a) (λ l. omega arith) (λ l. omega arith)

pub mag_shr_is : (z : ℤ) (m : ℕ) → mag (shr_z z m) ≡ mag z / m
mag_shr_is (pos a) m = refl
mag_shr_is (negsuc a) m = refl

pub mag_neg : (a : ℕ) → mag (neg_ℤ (pos a)) ≤ a
mag_neg zero = le_refl 0
mag_neg (suc a) = omega arith

pub mag_mul : (y z : ℤ) → mag (y *ℤ z) ≤ suc (mag y) * suc (mag z)
mag_mul (pos a) (pos b) = omega arith
mag_mul (pos a) (negsuc b) = le_trans (mag_neg (a * suc b)) (omega arith)
mag_mul (negsuc a) (pos b) = le_trans (mag_neg (suc a * b)) (omega arith)
mag_mul (negsuc a) (negsuc b) = omega arith

-- an integer of i bits and its sign times one of j bits
pub product_range : (i j : ℕ) (y z : ℤ) → suc (mag y) ≤ 2 ^ i → suc (mag z) ≤ 2 ^ j → mag (y *ℤ z) ≤ 2 ^ (i + j)
product_range i j y z h l = le_trans (mag_mul y z) (rw (pow-add 2 i j) (mul-le-mul h l))
