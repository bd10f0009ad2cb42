-- A mask hides a word where `or` with the word leaves the mask as it was. When it hides all bits that differ from a pattern, or all that
-- equal it, once for every width. Assumes nothing.
use Rattle.std.proofs.Common.{◌≡◌, ℕ, zero, suc, ◌+◌, ◌-◌, ◌*◌, ◌/◌, ◌%◌, ◌^◌, ◌<◌, max, Bool, true, false, cond, not, ◌&&◌, ◌||◌, eqb, sym, refl, ap, ◌∙◌, ap₂, mod-lt, zero-lt-suc, pow-suc, div-add-mod', arith, lit<, pow_pos, eq-eqb, ne_eqb, eqb-true}
use native.Mathlib.Nat.{mod-one}
use borrow.Author.Tests.{eqb-false}
use lib.Arith.{digits_div, digits_mod, mod-mul}
use lib.Bits.{bit_or, bit_xor, or_step, xor_shr, xor_mod}
use Rattle.unit.specs.Detector.{unmasked, equal, differs}
use Rattle.unit.proofs.Laws.{cond_lt, digit_lt}

-- numbers are equal when their digits are
eqb_digits : (a b c d : ℕ) → c < 2 → d < 2 → eqb (a * 2 + c) (b * 2 + d) ≡ eqb c d && eqb a b
eqb_digits a b c d hc hd = by (eqb c d) (eqb-true c d) (eqb-false c d) (eqb a b) (eqb-true a b) (eqb-false a b)
  where
    by : (s : Bool) → (s ≡ true → c ≡ d) → (s ≡ false → c ≡ d → ⊥)
        → (t : Bool) → (t ≡ true → a ≡ b) → (t ≡ false → a ≡ b → ⊥) → eqb (a * 2 + c) (b * 2 + d) ≡ s && t
    by true f g true h k = eq-eqb (a * 2 + c) (b * 2 + d) (ap₂ (λ (x y : ℕ). x * 2 + y) (h refl) (f refl))
    by true f g false h k = ne_eqb (a * 2 + c) (b * 2 + d) (λ e. k refl (omega arith))
    by false f g t h k = ne_eqb (a * 2 + c) (b * 2 + d) (λ e. g refl (omega arith))

-- the mask hides a word when it hides the last digit and the others
hides_digits : (a c m : ℕ) → c < 2 → eqb (bit_or (a * 2 + c) m) m ≡ eqb (max c (m % 2)) (m % 2) && eqb (bit_or a (m / 2)) (m / 2)
hides_digits a c m h =
    ap₂ eqb
    (or_step (a * 2 + c) m ∙ ap₂ (λ (x y : ℕ). bit_or x (m / 2) * 2 + max y (m % 2)) (digits_div a h) (digits_mod a h))
    (sym (div-add-mod' m 2))
    ∙ eqb_digits (bit_or a (m / 2)) (m / 2) (max c (m % 2)) (m % 2) (omega (arith, digit_lt m)) (digit_lt m)

-- a digit that is 0 where a test holds, else 1
abbrev mark : Bool → ℕ
mark b = cond b 0 1

mark_lt : (b : Bool) → mark b < 2
mark_lt b = cond_lt b (lit< tt) (lit< tt)

hides_mark : (b : Bool) (m : ℕ) → m < 2 → eqb (max (mark b) m) m ≡ (eqb m 1 || b)
hides_mark true zero h = refl
hides_mark true (suc zero) h = refl
hides_mark false zero h = refl
hides_mark false (suc zero) h = refl
hides_mark b (suc (suc m)) h = absurd (omega arith)

-- a word of k digits, each the mark of a test of two words' digits
module _ (f : ℕ → ℕ → Bool) (marks : (k p t : ℕ) → ℕ) (none : (p t : ℕ) → marks 0 p t ≡ 0)
    (step : (k p t : ℕ) → marks (suc k) p t ≡ marks k (p / 2) (t / 2) * 2 + mark (f (p % 2) (t % 2))) where
  hides_marks : (k p t m : ℕ) → eqb (bit_or (marks k p t) m) m ≡ unmasked f k p t m
  unfolding unmasked
  hides_marks zero p t m = ap (λ (x : ℕ). eqb (bit_or x m) m) (none p t) ∙ eq-eqb m m refl
  hides_marks (suc k) p t m =
      ap (λ (x : ℕ). eqb (bit_or x m) m) (step k p t)
      ∙ hides_digits (marks k (p / 2) (t / 2)) (mark b) m (mark_lt b)
      ∙ ap₂ ◌&&◌ (hides_mark b (m % 2) (digit_lt m)) (hides_marks k (p / 2) (t / 2) (m / 2))
    where
      b : Bool
      b = f (p % 2) (t % 2)

-- the digits of `xor` mark where two words are equal, and those of its complement where they differ
mark_xor : (p t : ℕ) → p < 2 → t < 2 → bit_xor p t ≡ mark (equal p t)
mark_xor zero zero h l = refl
mark_xor zero (suc zero) h l = refl
mark_xor zero (suc (suc t)) h l = absurd (omega arith)
mark_xor (suc zero) zero h l = refl
mark_xor (suc zero) (suc zero) h l = refl
mark_xor (suc zero) (suc (suc t)) h l = absurd (omega arith)
mark_xor (suc (suc p)) t h l = absurd (omega arith)

mark_not : (b : Bool) → mark (not b) ≡ 1 - mark b
mark_not true = refl
mark_not false = refl

step_xor : (k p t : ℕ) → bit_xor p t % 2 ^ suc k ≡ bit_xor (p / 2) (t / 2) % 2 ^ k * 2 + mark (equal (p % 2) (t % 2))
step_xor k p t =
    ap (λ (x : ℕ). bit_xor p t % x) (pow-suc 2 k)
    ∙ mod-mul (bit_xor p t) (pow_pos k) (zero-lt-suc 1)
    ∙ ap₂ (λ (x y : ℕ). x % 2 ^ k * 2 + y) (xor_shr p t 1) (xor_mod p t 1 ∙ mark_xor (p % 2) (t % 2) (digit_lt p) (digit_lt t))

pub hides_differing : (k p t m : ℕ) → eqb (bit_or (bit_xor p t % 2 ^ k) m) m ≡ unmasked equal k p t m
hides_differing = hides_marks equal (λ k p t. bit_xor p t % 2 ^ k) (λ p t. mod-one (bit_xor p t)) step_xor

pub hides_equal : (k p t m : ℕ) → eqb (bit_or ((2 ^ k - 1) - bit_xor p t % 2 ^ k) m) m ≡ unmasked differs k p t m
hides_equal = hides_marks differs (λ k p t. (2 ^ k - 1) - bit_xor p t % 2 ^ k) (λ p t. omega arith) step
  where
    step : (k p t : ℕ)
        → (2 ^ suc k - 1) - bit_xor p t % 2 ^ suc k ≡ ((2 ^ k - 1) - bit_xor (p / 2) (t / 2) % 2 ^ k) * 2 + mark (differs (p % 2) (t % 2))
    step k p t =
        omega (arith, pow-suc 2 k, step_xor k p t, mod-lt (bit_xor (p / 2) (t / 2)) (pow_pos k), mark_not b, mark_lt b)
      where
        b : Bool
        b = equal (p % 2) (t % 2)
