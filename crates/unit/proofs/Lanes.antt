-- Laws of the lanes, each once for every width: a lane reads its own bits alone, one lane is the rule itself, the lanes put together are a
-- word of all their bits, and each of them is the rule on its own bits of the operands. Assumes nothing.
use Rattle.std.proofs.Common.{◌≡◌, ℕ, zero, suc, ◌+◌, ◌-◌, ◌*◌, ◌/◌, ◌%◌, ◌^◌, ◌<◌, ◌≤◌, Bool, true, false, cond, eqb, ltb, leb, [], ◌∷◌, pos, ◌+ℤ◌, ◌-ℤ◌, neg_ℤ, sym, refl, ap, ◌∙◌, subst, ap₂, lt_of_lt_of_le, mod-lt, mod-eq_of_lt, suc-mul, add_comm, div-add-mod', zero-mul, div-one, arith, lit<, lit≤, pow_pos, pow_mono, pow-add, shr-shr}
use native.Mathlib.Nat.{mod-mod, mod-add-mod}
use lib.ListN.{get_or-eq_default}
use lib.Arith.{digits_lt, digits_div, digits_mod}
use lib.IntN.{+ℤ_assoc, +ℤ_comm}
use Rattle.word.specs.Word.{word}
use Rattle.word.proofs.Integers.{minus, same_mod, modulo_sub}
use Rattle.word.proofs.Wrapped.{difference_wraps}
use Rattle.unit.specs.Unit.{ones, arithmetic, lanes, lane_width, lane_count, logic_rows, unit_result, split_result}
use Rattle.unit.proofs.Laws.{cond_lt, arithmetic_lt, unit_lt}

-- what is added to a difference is added to its first number
add_first : (a b n : ℕ) → pos (a + n) -ℤ pos b ≡ (pos a -ℤ pos b) +ℤ pos n
add_first a b n =
    +ℤ_assoc (pos a) (pos n) (neg_ℤ (pos b))
    ∙ ap (λ z. pos a +ℤ z) (+ℤ_comm (pos n) (neg_ℤ (pos b)))
    ∙ sym (+ℤ_assoc (pos a) (neg_ℤ (pos b)) (pos n))

module _ (width : ℕ) where
  abbrev low : ℕ → ℕ
  low n = n % 2 ^ width

  abbrev above : ℕ → ℕ
  above n = n / 2 ^ width

  parted : (n : ℕ) → above n * 2 ^ width + low n ≡ n
  parted n = div-add-mod' n (2 ^ width)

  low_lt : (n : ℕ) → low n < 2 ^ width
  low_lt n = mod-lt n (pow_pos width)

  -- r is the word of a - b, from which it differs by multiples of 2 ^ width
  less : (r a b p q : ℕ) → r < 2 ^ width → r + b + p * 2 ^ width ≡ a + q * 2 ^ width → r ≡ word width (pos a -ℤ pos b)
  less r a b p q h e =
      sym (mod-eq_of_lt h) ∙ modulo_sub (2 ^ width) (pow_pos width) a b r p q e ∙ ap (word width) (sym (minus a b))

  -- a difference from all ones that has wrapped at v bits is, in the lane, the complement
  pub complement_wraps : (v r n : ℕ) → width ≤ v → n < 2 ^ v → (r + n) % 2 ^ v ≡ ones width → low r ≡ ones width - low n
  complement_wraps v r n h l e =
      difference_wraps (v - width) width r (ones width) n
      (subst
      (λ (k : ℕ). (r + n % 2 ^ k) % 2 ^ k ≡ ones width % 2 ^ k)
      (omega arith)
      (ap (λ (m : ℕ). (r + m) % 2 ^ v) (mod-eq_of_lt l) ∙ e ∙ sym (mod-eq_of_lt (omega (arith, pow_pos width, pow_mono {i = width} h)))))
      ∙ sym (less (ones width - low n) (ones width) n 0 (above n) (omega (arith, low_lt n)) (omega (arith, parted n, low_lt n)))

  -- ---- the rule as the code works it: bit 0 of the mode complements Z, and bit 1 the sum

  abbrev complement_if : Bool → ℕ → ℕ
  complement_if b n = cond b (2 ^ width - 1 - n) n

  abbrev pub worked : (mode rest z : ℕ) → ℕ
  worked mode rest z = complement_if (leb 2 mode) (low (complement_if (eqb (mode % 2) 1) (low z) + rest))

  pub lane_works : (mode w x y z cin : ℕ) → mode < 4 → worked mode (w + x + y + cin) z ≡ arithmetic width mode w x y z cin
  unfolding arithmetic
  lane_works zero w x y z cin h = mod-add-mod z (2 ^ width) (w + x + y + cin) ∙ ap low (omega arith)
  lane_works (suc zero) w x y z cin h =
      less (low t) (ones width + (w + x + y + cin)) z (above t) (above z) (low_lt t) (omega (arith, parted t, parted z, low_lt z))
      ∙ ap (word width) (add_first (ones width) z (w + x + y + cin))
    where
      t : ℕ
      t = 2 ^ width - 1 - low z + (w + x + y + cin)
  lane_works (suc (suc zero)) w x y z cin h =
      less (2 ^ width - 1 - low t) (ones width) (z + w + x + y + cin) 0 (above t + above z) (omega (arith, low_lt t))
      (omega (arith, parted t, parted z, low_lt t))
    where
      t : ℕ
      t = low z + (w + x + y + cin)
  lane_works (suc (suc (suc zero))) w x y z cin h =
      less (2 ^ width - 1 - low t) z (w + x + y + cin) (above z) (above t) (omega (arith, low_lt t))
      (omega (arith, parted t, parted z, low_lt t, low_lt z))
    where
      t : ℕ
      t = 2 ^ width - 1 - low z + (w + x + y + cin)
  lane_works (suc (suc (suc (suc mode)))) w x y z cin h = absurd (omega arith)

  -- a lane reads the low bits of its operands alone
  pub reads_low : (mode w x y z cin : ℕ) → arithmetic width mode (low w) (low x) (low y) (low z) cin ≡ arithmetic width mode w x y z cin
  unfolding arithmetic
  reads_low mode w x y z cin = by mode
    where
      rest : (n : ℕ) → low (n + (low w + low x + low y + cin)) ≡ low (n + (w + x + y + cin))
      rest n =
          same_mod (2 ^ width) (n + (low w + low x + low y + cin)) (n + (w + x + y + cin)) (above w + above x + above y) 0
          (omega (arith, parted w, parted x, parted y))

      arithmetics : (mode : ℕ) → mode < 4 → arithmetic width mode (low w) (low x) (low y) (low z) cin ≡ arithmetic width mode w x y z cin
      arithmetics mode h =
          sym (lane_works mode (low w) (low x) (low y) (low z) cin h)
          ∙ ap (λ (n : ℕ). complement_if (leb 2 mode) (low (complement_if (eqb (mode % 2) 1) n + (low w + low x + low y + cin)))) (mod-mod z (2 ^ width))
          ∙ ap (complement_if (leb 2 mode)) (rest (complement_if (eqb (mode % 2) 1) (low z)))
          ∙ lane_works mode w x y z cin h

      by : (mode : ℕ) → arithmetic width mode (low w) (low x) (low y) (low z) cin ≡ arithmetic width mode w x y z cin
      by zero = arithmetics 0 (lit< tt)
      by (suc zero) = arithmetics 1 (lit< tt)
      by (suc (suc zero)) = arithmetics 2 (lit< tt)
      by (suc (suc (suc zero))) = arithmetics 3 (lit< tt)
      by (suc (suc (suc (suc mode)))) = refl

  -- ---- lanes put together

  -- one lane is the rule that has no lanes
  pub one_lane : (mode w x y z cin : ℕ) → lanes width 1 mode w x y z cin ≡ arithmetic width mode w x y z cin
  unfolding lanes
  one_lane mode w x y z cin = omega arith ∙ reads_low mode w x y z cin

  -- the lanes put together are a word of all their bits
  pub lanes_lt : (count mode w x y z cin : ℕ) → lanes width count mode w x y z cin < 2 ^ (count * width)
  unfolding lanes
  lanes_lt zero mode w x y z cin = pow_pos (0 * width)
  lanes_lt (suc n) mode w x y z cin =
      subst (λ (k : ℕ). lanes width (suc n) mode w x y z cin < k) (sym (ap (λ (k : ℕ). 2 ^ k) (suc-mul n width) ∙ pow-add 2 (n * width) width))
      (digits_lt (lanes_lt n mode (above w) (above x) (above y) (above z) 0) (arithmetic_lt width mode (low w) (low x) (low y) (low z) cin))

  -- the carry of a lane: CIN joins the lowest alone
  abbrev pub carry_of : (lane cin : ℕ) → ℕ
  carry_of zero cin = cin
  carry_of (suc i) cin = 0

  no_carry : (i : ℕ) → carry_of i 0 ≡ 0
  no_carry zero = refl
  no_carry (suc i) = refl

  -- lane i of a word
  abbrev pub lane_of : (i n : ℕ) → ℕ
  lane_of i n = n / 2 ^ (i * width) % 2 ^ width

  first_lane : (n : ℕ) → lane_of 0 n ≡ low n
  first_lane n = ap (λ (k : ℕ). low (n / 2 ^ k)) (zero-mul width) ∙ ap low (div-one n)

  next_lane : (i n : ℕ) → lane_of (suc i) n ≡ lane_of i (above n)
  next_lane i n = ap (λ (k : ℕ). low (n / 2 ^ k)) (suc-mul i width ∙ add_comm (i * width) width) ∙ ap low (sym (shr-shr n width (i * width)))

  -- each lane is the rule on that lane of each operand: what stands in another lane leaves no trace in it
  pub lane_of_lanes : (count i mode w x y z cin : ℕ) → i < count
      → lane_of i (lanes width count mode w x y z cin) ≡ arithmetic width mode (lane_of i w) (lane_of i x) (lane_of i y) (lane_of i z) (carry_of i cin)
  unfolding lanes
  lane_of_lanes zero i mode w x y z cin h = absurd (omega arith)
  lane_of_lanes (suc n) zero mode w x y z cin h =
      rw (first_lane w, first_lane x, first_lane y, first_lane z)
      (first_lane (lanes width (suc n) mode w x y z cin)
      ∙ digits_mod (lanes width n mode (above w) (above x) (above y) (above z) 0) (arithmetic_lt width mode (low w) (low x) (low y) (low z) cin))
  lane_of_lanes (suc n) (suc i) mode w x y z cin h =
      rw (next_lane i w, next_lane i x, next_lane i y, next_lane i z)
      (next_lane i (lanes width (suc n) mode w x y z cin)
      ∙ ap (lane_of i) (digits_div (lanes width n mode (above w) (above x) (above y) (above z) 0) (arithmetic_lt width mode (low w) (low x) (low y) (low z) cin))
      ∙ lane_of_lanes n i mode (above w) (above x) (above y) (above z) 0 (omega arith)
      ∙ ap (arithmetic width mode (lane_of i (above w)) (lane_of i (above x)) (lane_of i (above y)) (lane_of i (above z))) (no_carry i))

-- a mode past the arithmetic ones gives 0 in every lane
no_arithmetic : (width mode w x y z cin : ℕ) → 4 ≤ mode → arithmetic width mode w x y z cin ≡ 0
unfolding arithmetic
no_arithmetic width mode w x y z cin h =
    get_or-eq_default
    (word width (pos (z + w + x + y + cin))
    ∷ word width ((pos (ones width) -ℤ pos z) +ℤ pos (w + x + y + cin))
    ∷ word width (pos (ones width) -ℤ pos (z + w + x + y + cin))
    ∷ word width (pos z -ℤ pos (w + x + y + cin))
    ∷ [])
    0
    h

pub no_lanes : (width count mode w x y z cin : ℕ) → 4 ≤ mode → lanes width count mode w x y z cin ≡ 0
unfolding lanes
no_lanes width zero mode w x y z cin h = refl
no_lanes width (suc n) mode w x y z cin h =
    rw (
      no_lanes width n mode (w / 2 ^ width) (x / 2 ^ width) (y / 2 ^ width) (z / 2 ^ width) 0 h,
      no_arithmetic width mode (w % 2 ^ width) (x % 2 ^ width) (y % 2 ^ width) (z % 2 ^ width) cin h,
      zero-mul,
    )

-- the lowest lane stands below the rest
lanes_suc : (width n mode w x y z cin : ℕ)
    → lanes width n mode (w / 2 ^ width) (x / 2 ^ width) (y / 2 ^ width) (z / 2 ^ width) 0 * 2 ^ width
    + arithmetic width mode (w % 2 ^ width) (x % 2 ^ width) (y % 2 ^ width) (z % 2 ^ width) cin
    ≡ lanes width (suc n) mode w x y z cin
unfolding lanes
lanes_suc width n mode w x y z cin = refl

-- lanes that have room in 48 bits: so has the word that they are
pub lanes_room : (width count mode w x y z cin : ℕ) → width * count ≤ 48 → lanes width count mode w x y z cin < 2 ^ 48
lanes_room width count mode w x y z cin h = lt_of_lt_of_le (lanes_lt width count mode w x y z cin) (pow_mono {j = 48} (omega arith))

-- what the code has of its lanes: those above the lowest, where there is one, and the lowest, parted at 2 ^ width
module _ (width count mode w x y z cin all above : ℕ) (some : count ≡ 0 → ⊥) (power : all ≡ 2 ^ width)
    (rest : above ≡ lanes width (count - 1) mode (w / all) (x / all) (y / all) (z / all) 0) where
  pub lanes_step : (lowest : ℕ) → lowest ≡ arithmetic width mode (w % all) (x % all) (y % all) (z % all) cin
      → above * all + lowest ≡ lanes width count mode w x y z cin
  lanes_step lowest e =
      ap₂ (λ (a b : ℕ). a * all + b) rest e
      ∙ ap
      (λ (m : ℕ). lanes width (count - 1) mode (w / m) (x / m) (y / m) (z / m) 0 * m + arithmetic width mode (w % m) (x % m) (y % m) (z % m) cin)
      power
      ∙ lanes_suc width (count - 1) mode w x y z cin
      ∙ ap (λ (n : ℕ). lanes width n mode w x y z cin) (omega arith)

  -- those above the lowest have room with it
  pub above_room : width * count ≤ 48 → above * all < 2 ^ 48
  above_room h =
      omega
      (arith, lanes_step (arithmetic width mode (w % all) (x % all) (y % all) (z % all) cin) refl, lanes_room width count mode w x y z cin h)

-- USE_SIMD's lanes together are a word of 48 bits, or of none where it is refused
pub simd_lt : (simd mode w x y z cin : ℕ) → lanes (lane_width simd) (lane_count simd) mode w x y z cin < 2 ^ 48
simd_lt simd mode w x y z cin = lanes_room (lane_width simd) (lane_count simd) mode w x y z cin (fits simd)
  where
    fits : (simd : ℕ) → lane_width simd * lane_count simd ≤ 48
    fits zero = lit≤ tt
    fits (suc zero) = lit≤ tt
    fits (suc (suc zero)) = lit≤ tt
    fits (suc (suc (suc simd))) = lit≤ tt

pub result_lt : (simd mode w x y z cin : ℕ) → split_result simd mode w x y z cin < 2 ^ 48
unfolding split_result
result_lt simd mode w x y z cin = cond_lt (ltb mode 4) (simd_lt simd mode w x y z cin) (unit_lt mode w x y z cin)

-- ONE48 is the unit in one piece
pub one48 : (mode w x y z cin : ℕ) → split_result 0 mode w x y z cin ≡ unit_result mode w x y z cin
unfolding split_result unit_result
one48 mode w x y z cin = by (ltb mode 4)
  where
    by : (b : Bool) → cond b (lanes 48 1 mode w x y z cin) (cond b (arithmetic 48 mode w x y z cin) (logic_rows mode (x % 2 ^ 48) y (z % 2 ^ 48)))
        ≡ cond b (arithmetic 48 mode w x y z cin) (logic_rows mode (x % 2 ^ 48) y (z % 2 ^ 48))
    by true = one_lane 48 mode w x y z cin
    by false = refl
