-- Words made by gates, bit by bit: two wirings that give the same on single bits give the same on words of any width. Assumes nothing.
use Rattle.std.proofs.Common.{◌≡◌, ℕ, zero, suc, ◌+◌, ◌-◌, ◌*◌, ◌/◌, ◌%◌, ◌^◌, ◌<◌, Bool, true, false, cond, eqb, sym, refl, ◌∙◌, ap₂, pow-suc, div-add-mod', arith, pow_pos, eqb-true}
use lib.Pow.{ones_sub-lt}
use lib.Bits.{bit_and, bit_or, bit_xor, and_lt, or_lt, xor_lt, and_block, or_block, xor_block}
use Rattle.word.proofs.Every.{every, every_at_2}
use Rattle.unit.specs.Unit.{ones}
use Rattle.unit.proofs.Laws.{cond_lt, digit_lt}

pub data Gate : Type 0 where
  And : Gate
  Or : Gate
  Xor : Gate

abbrev pub gate : Gate → ℕ → ℕ → ℕ
gate And a b = bit_and a b
gate Or a b = bit_or a b
gate Xor a b = bit_xor a b

-- a wiring of two words, X and Z
pub data Wiring : Type 0 where
  X : Wiring
  Z : Wiring
  -- every bit set, or none
  All : Bool → Wiring
  Not : Wiring → Wiring
  Joined : Gate → Wiring → Wiring → Wiring
  -- the first where the test holds, else the second
  Choice : Bool → Wiring → Wiring → Wiring

abbrev pub and : (g h : Wiring) → Wiring
and g h = Joined And g h

abbrev pub or : (g h : Wiring) → Wiring
or g h = Joined Or g h

abbrev pub xor : (g h : Wiring) → Wiring
xor g h = Joined Xor g h

-- what a wiring makes of words of w bits
unfoldable pub made : (w : ℕ) → Wiring → (x z : ℕ) → ℕ
made w X x z = x
made w Z x z = z
made w (All b) x z = cond b (ones w) 0
made w (Not g) x z = ones w - made w g x z
made w (Joined o g h) x z = gate o (made w g x z) (made w h x z)
made w (Choice b g h) x z = cond b (made w g x z) (made w h x z)

gate_lt : (o : Gate) (w a b : ℕ) → a < 2 ^ w → b < 2 ^ w → gate o a b < 2 ^ w
gate_lt And w a b h l = and_lt w a b h l
gate_lt Or w a b h l = or_lt w a b h l
gate_lt Xor w a b h l = xor_lt w a b h l

gate_step : (o : Gate) (a b c d : ℕ) → c < 2 → d < 2 → gate o (a * 2 + c) (b * 2 + d) ≡ gate o a b * 2 + gate o c d
gate_step And a b c d h l = and_block 1 a b c d h l
gate_step Or a b c d h l = or_block 1 a b c d h l
gate_step Xor a b c d h l = xor_block 1 a b c d h l

pub made_lt : (w : ℕ) (g : Wiring) (x z : ℕ) → x < 2 ^ w → z < 2 ^ w → made w g x z < 2 ^ w
unfolding made
made_lt w X x z hx hz = hx
made_lt w Z x z hx hz = hz
made_lt w (All b) x z hx hz = cond_lt b (omega (arith, pow_pos w)) (pow_pos w)
made_lt w (Not g) x z hx hz = ones_sub-lt w (made w g x z)
made_lt w (Joined o g h) x z hx hz = gate_lt o w (made w g x z) (made w h x z) (made_lt w g x z hx hz) (made_lt w h x z hx hz)
made_lt w (Choice b g h) x z hx hz = cond_lt b (made_lt w g x z hx hz) (made_lt w h x z hx hz)

pub half_lt : (w n : ℕ) → n < 2 ^ suc w → n / 2 < 2 ^ w
half_lt w n h = omega (arith, pow-suc 2 w)

module _ (w x z : ℕ) (hx : x < 2 ^ suc w) (hz : z < 2 ^ suc w) where
  above_lt : (g : Wiring) → made w g (x / 2) (z / 2) < 2 ^ w
  above_lt g = made_lt w g (x / 2) (z / 2) (half_lt w x hx) (half_lt w z hz)

  pub lowest_lt : (g : Wiring) → made 1 g (x % 2) (z % 2) < 2
  lowest_lt g = made_lt 1 g (x % 2) (z % 2) (digit_lt x) (digit_lt z)

  -- the lowest bit by itself, and the bits above it as a word of one bit less
  pub made_step : (g : Wiring) → made (suc w) g x z ≡ made w g (x / 2) (z / 2) * 2 + made 1 g (x % 2) (z % 2)
  unfolding made
  made_step X = sym (div-add-mod' x 2)
  made_step Z = sym (div-add-mod' z 2)
  made_step (All true) = omega (arith, pow-suc 2 w, pow_pos w)
  made_step (All false) = refl
  made_step (Not g) = omega (arith, pow-suc 2 w, made_step g, above_lt g, lowest_lt g)
  made_step (Joined o g h) =
      ap₂ (gate o) (made_step g) (made_step h)
      ∙ gate_step o (made w g (x / 2) (z / 2)) (made w h (x / 2) (z / 2)) (made 1 g (x % 2) (z % 2)) (made 1 h (x % 2) (z % 2))
      (lowest_lt g) (lowest_lt h)
  made_step (Choice true g h) = made_step g
  made_step (Choice false g h) = made_step h

-- ---- two wirings that are one function

-- they give the same of every two bits
abbrev pub alike : (g h : Wiring) → Bool
alike g h = every 2 (λ x. every 2 (λ z. eqb (made 1 g x z) (made 1 h x z)))

-- so they give the same of every two words, whatever the width
pub bit_by_bit : (w : ℕ) (g h : Wiring) → alike g h ≡ true → (x z : ℕ) → x < 2 ^ w → z < 2 ^ w → made w g x z ≡ made w h x z
bit_by_bit zero g h p x z hx hz = omega (arith, made_lt 0 g x z hx hz, made_lt 0 h x z hx hz)
bit_by_bit (suc w) g h p x z hx hz =
    made_step w x z hx hz g
    ∙ ap₂ (λ (a b : ℕ). a * 2 + b) (bit_by_bit w g h p (x / 2) (z / 2) (half_lt w x hx) (half_lt w z hz)) lowest
    ∙ sym (made_step w x z hx hz h)
  where
    lowest : made 1 g (x % 2) (z % 2) ≡ made 1 h (x % 2) (z % 2)
    lowest =
        eqb-true (made 1 g (x % 2) (z % 2)) (made 1 h (x % 2) (z % 2))
        (every_at_2 2 2 (λ a b. eqb (made 1 g a b) (made 1 h a b)) p (x % 2) (z % 2) (digit_lt x) (digit_lt z))
