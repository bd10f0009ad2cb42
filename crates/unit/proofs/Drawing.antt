-- The logic unit as the drawing has it (02, Ask 5), and that it gives 01's rows: for every mode, X and Z and both Ys, bit by bit, over the
-- width. Assumes nothing.
use Rattle.std.proofs.Common.{◌≡◌, ℕ, zero, suc, ◌+◌, ◌-◌, ◌*◌, ◌/◌, ◌%◌, ◌^◌, ◌<◌, ◌≤◌, Bool, true, false, cond, not, ◌&&◌, eqb, ltb, leb, List, [], ◌∷◌, length, get_or, sym, refl, ◌∙◌, arith, ltb-false, ltb-true, le-ltb, eqb-true}
use lib.ListN.{get_or-map, get_or-eq_default}
use lib.Bits.{bit_and, bit_or, bit_xor}
use Rattle.word.proofs.Every.{every, every_at, every_at_2}
use Rattle.unit.specs.Unit.{ones, logic_rows}
use Rattle.unit.proofs.Laws.{digit_lt}
use Rattle.unit.proofs.Gates.{Wiring, X, Z, All, Not, Choice, and, or, xor, made, made_lt, half_lt, lowest_lt, made_step, alike, bit_by_bit}

-- ---- the drawing

-- in each bit the sum of three, and their carry
abbrev pub sum : (a b c : Wiring) → Wiring
sum a b c = xor (xor a b) c

abbrev pub carry : (a b c : Wiring) → Wiring
carry a b c = or (and a c) (and b (or a c))

-- the complement where b holds
abbrev pub flipped : (b : Bool) → Wiring → Wiring
flipped b g = xor g (All b)

-- The low bit complements Z, Y is all zeros or all ones, the top bit chooses between the sum and the carry of X, Y and Z, and the second
-- bit complements what comes out
abbrev pub drawing : (low second top y : Bool) → Wiring
drawing low second top y = flipped second (Choice top (carry X (All y) (flipped low Z)) (sum X (All y) (flipped low Z)))

-- modes 4 to 7 and 12 to 15
abbrev pub logical : (mode : ℕ) → Bool
logical mode = ltb mode 16 && eqb (mode / 4 % 2) 1

-- the drawing by the mode's bits; 0 where the mode is none of logic
abbrev pub drawn : (mode : ℕ) (y : Bool) → Wiring
drawn mode y = Choice (logical mode) (drawing (eqb (mode % 2) 1) (eqb (mode / 2 % 2) 1) (leb 8 mode) y) (All false)

-- ---- what its sum and its carry are

abbrev bits_add : (a b c : ℕ) → Bool
bits_add a b c = eqb (bit_xor (bit_xor a b) c + 2 * bit_or (bit_and a c) (bit_and b (bit_or a c))) (a + b + c)

-- together they are the sum of three words: an adder's, before any carry has moved
pub cells_add : (w : ℕ) (a b c : Wiring) (x z : ℕ) → x < 2 ^ w → z < 2 ^ w
    → made w (sum a b c) x z + 2 * made w (carry a b c) x z ≡ made w a x z + made w b x z + made w c x z
unfolding made
cells_add zero a b c x z hx hz =
    omega (arith, made_lt 0 (sum a b c) x z hx hz, made_lt 0 (carry a b c) x z hx hz, made_lt 0 a x z hx hz, made_lt 0 b x z hx hz, made_lt 0 c x z hx hz)
cells_add (suc w) a b c x z hx hz =
    omega (
      arith,
      step (sum a b c),
      step (carry a b c),
      step a,
      step b,
      step c,
      lowest,
      cells_add w a b c (x / 2) (z / 2) (half_lt w x hx) (half_lt w z hz),
    )
  where
    step : (g : Wiring) → made (suc w) g x z ≡ made w g (x / 2) (z / 2) * 2 + made 1 g (x % 2) (z % 2)
    step g = made_step w x z hx hz g

    bit : Wiring → ℕ
    bit g = made 1 g (x % 2) (z % 2)

    lowest : bit (sum a b c) + 2 * bit (carry a b c) ≡ bit a + bit b + bit c
    lowest =
        eqb-true (bit (sum a b c) + 2 * bit (carry a b c)) (bit a + bit b + bit c)
        (every_at 2 (bits_add (bit a) (bit b))
        (every_at_2 2 2 (λ a b. every 2 (bits_add a b)) refl (bit a) (bit b) (lowest_lt w x z hx hz a) (lowest_lt w x z hx hz b))
        (bit c) (lowest_lt w x z hx hz c))

-- ---- 01's rows

-- of each mode from 4 on, by Y
abbrev pub rows : (y : Bool) → List Wiring
rows false =
    xor X Z ∷ Not (xor X Z) ∷ Not (xor X Z) ∷ xor X Z
    ∷ All false ∷ All false ∷ All false ∷ All false
    ∷ and X Z ∷ and X (Not Z) ∷ Not (and X Z) ∷ or (Not X) Z
    ∷ []
rows true =
    Not (xor X Z) ∷ xor X Z ∷ xor X Z ∷ Not (xor X Z)
    ∷ All false ∷ All false ∷ All false ∷ All false
    ∷ or X Z ∷ or X (Not Z) ∷ Not (or X Z) ∷ and (Not X) Z
    ∷ []

abbrev pub row : (mode : ℕ) (y : Bool) → Wiring
row mode y = get_or (rows y) (mode - 4) (All false)

-- at 48 bits they are the definition's
listed : (mode x y z : ℕ) → made 48 (row mode (not (eqb y 0))) x z ≡ logic_rows mode x y z
unfolding logic_rows made
listed mode x y z = by (eqb y 0) refl
  where
    by : (b : Bool) → eqb y 0 ≡ b → made 48 (row mode (not (eqb y 0))) x z ≡ logic_rows mode x y z
    by true e = rw e (sym (get_or-map (λ g. made 48 g x z) (rows false) (mode - 4) (All false)))
    by false e = rw e (sym (get_or-map (λ g. made 48 g x z) (rows true) (mode - 4) (All false)))

-- ---- the drawing gives the rows

abbrev alike_at : (y : Bool) (m : ℕ) → Bool
alike_at y m = alike (drawn (4 + m) y) (get_or (rows y) m (All false))

alike_rows : (y : Bool) → every 12 (alike_at y) ≡ true
unfolding made
alike_rows true = refl
alike_rows false = refl

rows_length : (y : Bool) → length (rows y) ≡ 12
rows_length true = refl
rows_length false = refl

-- for every width, mode, X and Z, and both Ys
pub drawn_row : (w mode : ℕ) (y : Bool) (x z : ℕ) → 3 < mode → x < 2 ^ w → z < 2 ^ w → made w (drawn mode y) x z ≡ made w (row mode y) x z
unfolding made
drawn_row w mode y x z h hx hz = by (ltb mode 16) (ltb-true mode 16) (ltb-false mode 16)
  where
    by : (t : Bool) → (t ≡ true → mode < 16) → (t ≡ false → 16 ≤ mode) → made w (drawn mode y) x z ≡ made w (row mode y) x z
    by true low high =
        let e : 4 + (mode - 4) ≡ mode = omega arith in
        rw e at
        (bit_by_bit w (drawn (4 + (mode - 4)) y) (row mode y)
        (every_at 12 (alike_at y) (alike_rows y) (mode - 4) (omega (arith, low refl))) x z hx hz)
    by false low high =
        let off : length (rows y) ≤ mode - 4 = omega (arith, high refl, rows_length y) in
        rw (le-ltb mode 16 (high refl), get_or-eq_default (rows y) (All false) off)

-- at 48 bits, where Y is all ones unless it is 0: what the unit promises
pub drawn_48 : (mode x y z : ℕ) → 3 < mode → x < 2 ^ 48 → z < 2 ^ 48 → made 48 (drawn mode (not (eqb y 0))) x z ≡ logic_rows mode x y z
drawn_48 mode x y z h hx hz = drawn_row 48 mode (not (eqb y 0)) x z h hx hz ∙ listed mode x y z

-- a bit of the mode in each of 48 places, as the code has it
pub spread : (n : ℕ) → ones 48 * (n % 2) ≡ cond (eqb (n % 2) 1) (ones 48) 0
spread n = by (n % 2) (digit_lt n)
  where
    by : (b : ℕ) → b < 2 → ones 48 * b ≡ cond (eqb b 1) (ones 48) 0
    by zero h = refl
    by (suc zero) h = refl
    by (suc (suc b)) h = absurd (omega arith)
