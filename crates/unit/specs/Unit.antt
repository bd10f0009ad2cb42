-- The parts of a slice on plain numbers (01, "One clock"), and the C bench's adder (01, "Adder call for the C bench").
-- Each part reads the low bits of its numbers, as many as it is wide. Assumes nothing.
use Rattle.std.specs.Prelude.{ℕ, zero, suc, ◌+◌, ◌-◌, ◌*◌, ◌/◌, ◌%◌, ◌^◌, Bool, cond, not, ◌&&◌, ◌||◌, [], ◌∷◌, ℤ, pos, ◌+ℤ◌, ◌-ℤ◌, ◌*ℤ◌, neg_ℤ, ◌==◌, bit_and, bit_or, bit_xor, int_le, nat_le, nat_lt}
use Rattle.word.specs.Word.{word, signed}
use Rattle.unit.specs.declared.PreAdded.{PreAdded}
use Rattle.unit.specs.declared.WithCarry.{WithCarry}
use Rattle.unit.specs.Choice.{mux, choose}

-- w bits, all ones
abbrev pub ones : (w : ℕ) → ℕ
ones w = 2 ^ w - 1

-- Arithmetic, taken modulo 2 ^ width: mode 0 Z+W+X+Y+CIN; mode 1 (2^width−1−Z)+W+X+Y+CIN; mode 2 2^width−1−(Z+W+X+Y+CIN);
-- mode 3 Z−(W+X+Y+CIN)
unfoldable pub arithmetic : (width mode w x y z cin : ℕ) → ℕ
arithmetic width mode w x y z cin =
    choose
    (word width (pos (z + w + x + y + cin))
    ∷ word width ((pos (ones width) -ℤ pos z) +ℤ pos (w + x + y + cin))
    ∷ word width (pos (ones width) -ℤ pos (z + w + x + y + cin))
    ∷ word width (pos z -ℤ pos (w + x + y + cin))
    ∷ [])
    mode

-- the complement of a 48-bit word
abbrev pub compl : ℕ → ℕ
compl a = ones 48 - a

-- a logic mode's result goes by Y: a where Y is 0, b where Y is all ones
abbrev pub by_y : (y a b : ℕ) → ℕ
by_y y a b = cond (y == 0) a b

-- The logic modes' rows, of 48-bit words x and z: Y 0, then Y all ones
unfoldable pub logic_rows : (mode x y z : ℕ) → ℕ
logic_rows mode x y z =
    choose
    (by_y y (bit_xor x z) (compl (bit_xor x z))  -- 4: xor; xnor
    ∷ by_y y (compl (bit_xor x z)) (bit_xor x z)  -- 5: its complement; xor
    ∷ by_y y (compl (bit_xor x z)) (bit_xor x z)  -- 6: as 5
    ∷ by_y y (bit_xor x z) (compl (bit_xor x z))  -- 7: as 4
    ∷ 0 ∷ 0 ∷ 0 ∷ 0  -- 8 to 11 are refused
    ∷ by_y y (bit_and x z) (bit_or x z)  -- 12: X and Z; X or Z
    ∷ by_y y (bit_and x (compl z)) (bit_or x (compl z))  -- 13: X and not Z; X or not Z
    ∷ by_y y (compl (bit_and x z)) (compl (bit_or x z))  -- 14: nand; nor
    ∷ by_y y (bit_or (compl x) z) (bit_and (compl x) z)  -- 15: not X, or Z; not X, and Z
    ∷ [])
    (mode - 4)

-- The unit's result: modes 0 to 3 are arithmetic, the others logic, where CIN is ignored
unfoldable pub unit_result : (mode w x y z cin : ℕ) → ℕ
unit_result mode w x y z cin =
    cond (nat_lt mode 4) (arithmetic 48 mode w x y z cin) (logic_rows mode (x % 2 ^ 48) y (z % 2 ^ 48))

-- Split adder (02, Ask 1): count lanes of width bits. The lowest takes the low bits of each operand and CIN; those above it take what is
-- left of each, and no carry
unfoldable pub lanes : (width count mode w x y z cin : ℕ) → ℕ
lanes width zero mode w x y z cin = 0
lanes width (suc n) mode w x y z cin =
    lanes width n mode (w / 2 ^ width) (x / 2 ^ width) (y / 2 ^ width) (z / 2 ^ width) 0 * 2 ^ width
    + arithmetic width mode (w % 2 ^ width) (x % 2 ^ width) (y % 2 ^ width) (z % 2 ^ width) cin

-- USE_SIMD: 0 ONE48, 1 TWO24, 2 FOUR12
abbrev pub lane_width : (simd : ℕ) → ℕ
lane_width simd = choose (48 ∷ 24 ∷ 12 ∷ []) simd

abbrev pub lane_count : (simd : ℕ) → ℕ
lane_count simd = choose (1 ∷ 2 ∷ 4 ∷ []) simd

-- The unit's result by USE_SIMD: arithmetic lane by lane; logic sees 48 bits
unfoldable pub split_result : (simd mode w x y z cin : ℕ) → ℕ
split_result simd mode w x y z cin =
    cond (nat_lt mode 4) (lanes (lane_width simd) (lane_count simd) mode w x y z cin) (unit_result mode w x y z cin)

-- Carry cascade (02, Ask 7): "when ONE48, ALUMODE 0, W select 0 and Y select 0 are in effect, the carry is 1 exactly if X + Z + CIN is at
-- least 2^48; in every other setting it is 0 here"
unfoldable pub carry_out : (simd mode w_select y_select x z cin : ℕ) → ℕ
carry_out simd mode w_select y_select x z cin =
    cond (simd == 0 && mode == 0 && w_select == 0 && y_select == 0) (cond (nat_le (2 ^ 48) (x + z + cin)) 1 0) 0

-- the unit's result, and the carry beside it
unfoldable pub summed_of : (simd mode w_select y_select w x y z cin : ℕ) → WithCarry
summed_of simd mode w_select y_select w x y z cin =
    record { result = split_result simd mode w x y z cin; carry = carry_out simd mode w_select y_select x z cin }

-- Pre-adder: d + a, or d − a where subtract is not 0, modulo 2 ^ w
unfoldable pub wrapped_sum : (w subtract d a : ℕ) → ℕ
wrapped_sum w subtract d a = mux subtract (word w (pos (d + a))) (word w (pos d -ℤ pos a))

-- "the true sum or difference" (02, Ask 4): of both sides read as signed numbers of w bits
abbrev pub true_sum : (w subtract d a : ℕ) → ℤ
true_sum w zero d a = signed w d +ℤ signed w a
true_sum w (suc _) d a = signed w d -ℤ signed w a

-- 1 where z left lowest to highest, else 0
abbrev pub beyond : (lowest highest z : ℤ) → ℕ
beyond lowest highest z = cond (int_le lowest z && int_le z highest) 0 1

-- "the 27-bit result and whether the true sum or difference left −67108864 to 67108863" (02, Ask 4)
unfoldable pub pre_adder : (subtract d a : ℕ) → PreAdded
pre_adder subtract d a =
    record { ad = wrapped_sum 27 subtract d a; wrap = beyond (neg_ℤ (pos 67108864)) (pos 67108863) (true_sum 27 subtract d a) }

-- 1 where two integers are not the same, else 0
abbrev pub differing : (y z : ℤ) → ℕ
differing y z = cond (int_le y z && int_le z y) 0 1

-- "1 if .. cutting changed its signed value" (02, Ask 9): n of w bits, cut to its low v
unfoldable pub cut_mark : (v w n : ℕ) → ℕ
cut_mark v w n = differing (signed v n) (signed w n)

-- Multiplier: 27 bits by 18, read as two's complement; the product is exact in 45 bits
unfoldable pub product : (left right : ℕ) → ℕ
product left right = word 45 (signed 27 left *ℤ signed 18 right)

-- A register after the edge: a reset clears and outranks the enable; neither keeps the word
unfoldable pub load : (reset enable word input : ℕ) → ℕ
load reset enable word input = mux reset (mux enable word input) 0

-- Adder call: every word is within its width (48, 1, 4 bits)
abbrev pub within : (w x y z cin alumode : ℕ) → Bool
within w x y z cin alumode =
    nat_lt w (2 ^ 48) && nat_lt x (2 ^ 48) && nat_lt y (2 ^ 48) && nat_lt z (2 ^ 48) && nat_lt cin (2 ^ 1) && nat_lt alumode (2 ^ 4)

-- Adder call: modes 8 to 11, or a logic mode with W not 0 or Y neither 0 nor all ones
abbrev pub forbidden : (w y alumode : ℕ) → Bool
forbidden w y alumode =
    nat_le 8 alumode && nat_le alumode 11 || not (nat_lt alumode 4) && (not (w == 0) || not (y == 0 || y == ones 48))

-- Adder call: the result, or 2^48+5 when a word is over width, or else 2^48+8 when the mode forbids it
unfoldable pub adder : (w x y z cin alumode : ℕ) → ℕ
adder w x y z cin alumode =
    cond (within w x y z cin alumode)
    (cond (forbidden w y alumode) (2 ^ 48 + 8) (unit_result alumode w x y z cin))
    (2 ^ 48 + 5)
