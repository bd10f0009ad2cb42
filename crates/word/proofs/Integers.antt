-- Integers as differences of two numbers, `sub_ℕ a b`, so that an equation of integers becomes one of numbers, which `omega` proves.
-- Assumes nothing.
use Rattle.std.proofs.Common.{◌≡◌, ℕ, zero, suc, ◌+◌, ◌-◌, ◌*◌, ◌/◌, ◌%◌, ◌^◌, ◌<◌, ◌≤◌, ℤ, pos, negsuc, ◌+ℤ◌, ◌-ℤ◌, ◌*ℤ◌, neg_ℤ, sym, refl, ap, ◌∙◌, subst, not-suc-le-zero, mod-lt, mod-eq_of_lt, mul_assoc, div-add-mod', arith, pow_pos, pow-add}
use native.Mathlib.Nat.{add-mul-mod_self_right}
use lib.Arith.{digits_div}
use lib.IntN.{sub_ℕ}
use lib.Signed.{shr_z, mag}
use Rattle.word.specs.Word.{modulo, word, signed}
use Rattle.word.proofs.Laws.{cases, word_lt, word_signed}

-- ---- what an integer adds and what it takes off

abbrev pub up : ℤ → ℕ
up (pos a) = a
up (negsuc b) = 0

abbrev pub down : ℤ → ℕ
down (pos a) = 0
down (negsuc b) = suc b

-- one difference, two ways
pub sub_eq : (a b c d : ℕ) → a + d ≡ c + b → sub_ℕ a b ≡ sub_ℕ c d
sub_eq a b c d e = cases (λ z. z ≡ sub_ℕ c d) a b below above
  where
    below : a < b → negsuc (b - suc a) ≡ sub_ℕ c d
    below l = cases (λ z. negsuc (b - suc a) ≡ z) c d (λ k. ap negsuc (omega arith)) (λ k. absurd (omega arith))

    above : b ≤ a → pos (a - b) ≡ sub_ℕ c d
    above l = cases (λ z. pos (a - b) ≡ z) c d (λ k. absurd (omega arith)) (λ k. ap pos (omega arith))

pub pos_sub : (a : ℕ) → pos a ≡ sub_ℕ a 0
pos_sub a = cases (λ z. pos a ≡ z) a 0 (λ l. absurd (not-suc-le-zero l)) (λ l. ap pos (omega arith))

pub negsuc_sub : (b : ℕ) → negsuc b ≡ sub_ℕ 0 (suc b)
negsuc_sub b = cases (λ z. negsuc b ≡ z) 0 (suc b) (λ l. ap negsuc (omega arith)) (λ l. absurd (omega arith))

pub as_sub : (z : ℤ) → z ≡ sub_ℕ (up z) (down z)
as_sub (pos a) = pos_sub a
as_sub (negsuc b) = negsuc_sub b

pub minus : (a b : ℕ) → pos a -ℤ pos b ≡ sub_ℕ a b
minus a zero = ap pos (omega arith) ∙ pos_sub a
minus a (suc b) = refl

-- the two parts of a difference, and its size
pub parts : (z : ℤ) (a b : ℕ) → z ≡ sub_ℕ a b → up z + b ≡ a + down z
parts z a b e =
    subst (λ y. up y + b ≡ a + down y) (sym e) (cases (λ y. up y + b ≡ a + down y) a b (λ l. omega arith) (λ l. omega arith))

pub mag_sub : (a b n : ℕ) → a ≤ n → b ≤ n → mag (sub_ℕ a b) ≤ n
mag_sub a b n h k = cases (λ y. mag y ≤ n) a b (λ l. omega arith) (λ l. omega arith)

pub up_le : (z : ℤ) → up z ≤ suc (mag z)
up_le (pos a) = omega arith
up_le (negsuc b) = omega arith

pub down_le : (z : ℤ) → down z ≤ suc (mag z)
down_le (pos a) = omega arith
down_le (negsuc b) = omega arith

-- ---- sums and products

pub add_sub : (y z : ℤ) → y +ℤ z ≡ sub_ℕ (up y + up z) (down y + down z)
add_sub (pos a) (pos b) = pos_sub (a + b)
add_sub (pos a) (negsuc b) = sub_eq a (suc b) (a + 0) (0 + suc b) (omega arith)
add_sub (negsuc a) (pos b) = sub_eq b (suc a) (0 + b) (suc a + 0) (omega arith)
add_sub (negsuc a) (negsuc b) = negsuc_sub (suc (a + b)) ∙ sub_eq 0 (suc (suc (a + b))) 0 (suc a + suc b) (omega arith)

add_parts : (y z : ℤ) → up (y +ℤ z) + (down y + down z) ≡ up y + up z + down (y +ℤ z)
add_parts y z = parts (y +ℤ z) (up y + up z) (down y + down z) (add_sub y z)

pub neg_sub : (n : ℕ) → neg_ℤ (pos n) ≡ sub_ℕ 0 n
neg_sub zero = refl
neg_sub (suc n) = negsuc_sub n

pub mul_sub : (y z : ℤ) → y *ℤ z ≡ sub_ℕ (up y * up z + down y * down z) (up y * down z + down y * up z)
mul_sub (pos a) (pos b) = pos_sub (a * b) ∙ sub_eq (a * b) 0 (a * b + 0 * 0) (a * 0 + 0 * b) (omega arith)
mul_sub (pos a) (negsuc b) = neg_sub (a * suc b) ∙ sub_eq 0 (a * suc b) (a * 0 + 0 * suc b) (a * suc b + 0 * 0) (omega arith)
mul_sub (negsuc a) (pos b) = neg_sub (suc a * b) ∙ sub_eq 0 (suc a * b) (0 * b + suc a * 0) (0 * 0 + suc a * b) (omega arith)
mul_sub (negsuc a) (negsuc b) =
    pos_sub (suc a * suc b) ∙ sub_eq (suc a * suc b) 0 (0 * 0 + suc a * suc b) (0 * suc b + suc a * 0) (omega arith)

pub mul_pos_sub : (z : ℤ) (m : ℕ) → z *ℤ pos m ≡ sub_ℕ (up z * m) (down z * m)
mul_pos_sub z m =
    mul_sub z (pos m) ∙ sub_eq (up z * m + down z * 0) (up z * 0 + down z * m) (up z * m) (down z * m) (omega arith)

-- a multiple and a rest
pub mul_add_sub : (y z : ℤ) (m : ℕ) → y *ℤ pos m +ℤ z ≡ sub_ℕ (up y * m + up z) (down y * m + down z)
mul_add_sub y z m =
    add_sub (y *ℤ pos m) z
    ∙ sub_eq (up t + up z) (down t + down z) (up y * m + up z) (down y * m + down z)
    (omega (arith, parts t (up y * m) (down y * m) (mul_pos_sub y m)))
  where
    t : ℤ
    t = y *ℤ pos m

-- a multiple and a rest, times a number
pub distribute : (a d b : ℤ) (m : ℕ) → (a *ℤ pos m +ℤ d) *ℤ b ≡ (a *ℤ b) *ℤ pos m +ℤ d *ℤ b
distribute a d b m =
    mul_sub s b
    ∙ sub_eq (up s * up b + down s * down b) (up s * down b + down s * up b)
    (up (a *ℤ b) * m + up (d *ℤ b)) (down (a *ℤ b) * m + down (d *ℤ b))
    (omega (arith, ap (λ (x : ℕ). x * up b) e, ap (λ (x : ℕ). x * down b) e, ap (λ (x : ℕ). x * m) (product a), product d))
    ∙ sym (mul_add_sub (a *ℤ b) (d *ℤ b) m)
  where
    s : ℤ
    s = a *ℤ pos m +ℤ d

    e : up s + (down a * m + down d) ≡ (up a * m + up d) + down s
    e = parts s (up a * m + up d) (down a * m + down d) (mul_add_sub a d m)

    product : (c : ℤ) → up (c *ℤ b) + (up c * down b + down c * up b) ≡ (up c * up b + down c * down b) + down (c *ℤ b)
    product c = parts (c *ℤ b) (up c * up b + down c * down b) (up c * down b + down c * up b) (mul_sub c b)

-- ---- modulo m and by m

-- two numbers that differ by multiples of m are the same modulo m
pub same_mod : (m r s p q : ℕ) → r + p * m ≡ s + q * m → r % m ≡ s % m
same_mod m r s p q e = sym (add-mul-mod_self_right r p m) ∙ ap (λ (x : ℕ). x % m) e ∙ add-mul-mod_self_right s q m

-- r is a - b modulo m, where the two differ by multiples of m
pub modulo_sub : (m : ℕ) → 0 < m → (a b r p q : ℕ) → r + b + p * m ≡ a + q * m → r % m ≡ modulo m (sub_ℕ a b)
modulo_sub m h a b r p q e = cases (λ z. r % m ≡ modulo m z) a b below above
  where
    above : b ≤ a → r % m ≡ (a - b) % m
    above l = same_mod m r (a - b) p q (omega arith)

    below : a < b → r % m ≡ m - suc ((b - suc a) % m)
    below l =
        same_mod m r (m - suc (d % m)) (p + suc (d / m)) q (omega (arith, div-add-mod' d m, mod-lt d h))
        ∙ mod-eq_of_lt (omega (arith, mod-lt d h))
      where
        d : ℕ
        d = b - suc a

-- and the multiples by which z modulo m differs from z
abbrev pub over : ℕ → ℤ → ℕ
over m (pos a) = a / m
over m (negsuc b) = 0

abbrev pub under : ℕ → ℤ → ℕ
under m (pos a) = 0
under m (negsuc b) = suc (b / m)

pub modulo_split : (m : ℕ) → 0 < m → (z : ℤ) → modulo m z + down z + over m z * m ≡ up z + under m z * m
modulo_split m h (pos a) = omega (arith, div-add-mod' a m)
modulo_split m h (negsuc b) = omega (arith, div-add-mod' b m, mod-lt b h)

-- z is q times m and r: q is z by m, rounded down
pub floor_is : (m : ℕ) (z q : ℤ) (r : ℕ) → r < m → up z + down q * m ≡ down z + up q * m + r → shr_z z m ≡ q
floor_is m (pos a) (pos c) r h e = ap pos (ap (λ (x : ℕ). x / m) split ∙ digits_div c h)
  where
    split : a ≡ c * m + r
    split = omega arith
floor_is m (pos a) (negsuc c) r h e = absurd (omega arith)
floor_is m (negsuc a) (pos c) r h e = absurd (omega arith)
floor_is m (negsuc a) (negsuc c) r h e = ap negsuc (ap (λ (x : ℕ). x / m) split ∙ digits_div c low)
  where
    split : a ≡ c * m + (m - suc r)
    split = omega arith

    low : m - suc r < m
    low = omega arith

-- ---- the words of integers

-- a multiple of 2 ^ (j + k) is one of 2 ^ k
pub multiple : (j k x : ℕ) → x * 2 ^ (j + k) ≡ x * 2 ^ j * 2 ^ k
multiple j k x = ap (λ (y : ℕ). x * y) (pow-add 2 j k) ∙ sym (mul_assoc x (2 ^ j) (2 ^ k))

-- a word of j + k bits has the word of k bits at its foot
pub word_foot : (j k : ℕ) (z : ℤ) → word (j + k) z % 2 ^ k ≡ word k z
word_foot j k z =
    modulo_sub (2 ^ k) (pow_pos k) (up z) (down z) (word (j + k) z) (o * 2 ^ j) (u * 2 ^ j)
    (omega (arith, modulo_split (2 ^ (j + k)) (pow_pos (j + k)) z, multiple j k o, multiple j k u))
    ∙ ap (word k) (sym (as_sub z))
  where
    o : ℕ
    o = over (2 ^ (j + k)) z

    u : ℕ
    u = under (2 ^ (j + k)) z

-- a word takes sums to sums
pub word_add : (w : ℕ) (y z : ℤ) → (word w y + word w z) % 2 ^ w ≡ word w (y +ℤ z)
word_add w y z =
    modulo_sub (2 ^ w) (pow_pos w) (up y + up z) (down y + down z) (word w y + word w z)
    (over (2 ^ w) y + over (2 ^ w) z) (under (2 ^ w) y + under (2 ^ w) z)
    (omega (arith, modulo_split (2 ^ w) (pow_pos w) y, modulo_split (2 ^ w) (pow_pos w) z))
    ∙ ap (word w) (sym (add_sub y z))

-- integers that differ by multiples of 2 ^ w leave the same word
pub word_same : (w : ℕ) (y z : ℤ) (p q : ℕ) → up y + down z + p * 2 ^ w ≡ up z + down y + q * 2 ^ w → word w y ≡ word w z
word_same w y z p q e =
    sym
    (sym (mod-eq_of_lt (word_lt w z))
    ∙ modulo_sub (2 ^ w) (pow_pos w) (up y) (down y) (word w z) (over (2 ^ w) z + q) (under (2 ^ w) z + p)
    (omega (arith, modulo_split (2 ^ w) (pow_pos w) z))
    ∙ ap (word w) (sym (as_sub y)))

-- a multiple of 2 ^ w leaves no trace
pub word_multiple : (w : ℕ) (y z : ℤ) → word w (y *ℤ pos (2 ^ w) +ℤ z) ≡ word w z
word_multiple w y z =
    word_same w (y *ℤ pos (2 ^ w) +ℤ z) z (down y) (up y)
    (omega (arith, parts (y *ℤ pos (2 ^ w) +ℤ z) (up y * 2 ^ w + up z) (down y * 2 ^ w + down z) (mul_add_sub y z (2 ^ w))))

-- ---- words read as signed numbers, added and taken off, leave what the patterns leave

neg_parts : (z : ℤ) → (up (neg_ℤ z) ≡ down z) × (down (neg_ℤ z) ≡ up z)
neg_parts (pos zero) = (refl, refl)
neg_parts (pos (suc n)) = (refl, refl)
neg_parts (negsuc n) = (refl, refl)

module _ (w d a : ℕ) where
  abbrev m : ℕ
  m = 2 ^ w

  -- how many 2 ^ w a number and its reading are apart: so many off the number, and so many on
  abbrev off : (n : ℕ) → ℕ
  off n = n / m + under m (signed w n)

  abbrev on : (n : ℕ) → ℕ
  on n = over m (signed w n)

  apart : (n : ℕ) → up (signed w n) + off n * m ≡ n + down (signed w n) + on n * m
  apart n = omega (arith, div-add-mod' n m, word_signed w n, modulo_split m (pow_pos w) (signed w n))

  pub sum_word : word w (signed w d +ℤ signed w a) ≡ word w (pos (d + a))
  sum_word =
      word_same w y (pos (d + a)) (off d + off a) (on d + on a) (omega (arith, apart d, apart a, add_parts (signed w d) (signed w a)))
    where
      y : ℤ
      y = signed w d +ℤ signed w a

  pub difference_word : word w (signed w d -ℤ signed w a) ≡ word w (pos d -ℤ pos a)
  difference_word =
      word_same w y z (off d + on a) (on d + off a)
      (omega (
        arith,
        apart d,
        apart a,
        (neg_parts (signed w a)).0,
        (neg_parts (signed w a)).1,
        add_parts (signed w d) (neg_ℤ (signed w a)),
        parts z d a (minus d a),
      ))
    where
      y : ℤ
      y = signed w d -ℤ signed w a

      z : ℤ
      z = pos d -ℤ pos a
