-- A word of w bits: the pattern that an integer leaves in it, and the integer that a pattern reads as. Every width is a parameter.
-- `pos n` is the integer n, `negsuc n` is -1 - n, and `shr_z z m` is z divided by m, rounded down (lib.IntN, lib.Signed).
-- Assumes nothing.
use Rattle.std.specs.Prelude.{ℕ, suc, ◌-◌, ◌*◌, ◌/◌, ◌%◌, ◌^◌, cond, ℤ, pos, negsuc, ◌+ℤ◌, nat_lt}
use Rattle.std.specs.Int.Signed.{shr_z}

-- an integer modulo m, from 0 to m - 1
abbrev pub modulo : (m : ℕ) → ℤ → ℕ
modulo m (pos n) = n % m
modulo m (negsuc n) = m - suc (n % m)

-- the pattern of w bits of an integer: the integer modulo 2 ^ w
abbrev pub word : (w : ℕ) → ℤ → ℕ
word w z = modulo (2 ^ w) z

-- n below half of 2 ^ w, else n - 2 ^ w
abbrev pub halved : (w n : ℕ) → ℤ
halved w n = cond (nat_lt (n * 2) (2 ^ w)) (pos n) (negsuc (2 ^ w - suc n))

-- the low w bits of n, read as two's complement
abbrev pub signed : (w n : ℕ) → ℤ
signed w n = halved w (n % 2 ^ w)

-- the low v bits of n, sign-extended to w bits
abbrev pub extend : (v w n : ℕ) → ℕ
extend v w n = word w (signed v n)

-- 01, OPMODE fields: "Shifted is right by 17 keeping the sign"; here the low w bits of n by k
abbrev pub shifted : (w k n : ℕ) → ℕ
shifted w k n = word w (shr_z (signed w n) (2 ^ k))

-- 01, Packed run: "low sum is its low 18 bits, signed"
abbrev pub low_sum : (p : ℕ) → ℤ
low_sum p = signed 18 p

-- 01, Packed run: "high sum is signed P divided by 2^18, rounded down, plus bit 17"
abbrev pub high_sum : (p : ℕ) → ℤ
high_sum p = shr_z (signed 48 p) (2 ^ 18) +ℤ pos (p / 2 ^ 17 % 2)
