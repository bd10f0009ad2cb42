-- A line of numbers (01, "Port listings"): "lines of tab-parted fields", "at most 512 bytes", "Decimal, no leading zeros but `0`,
-- below 2^64". Assumes nothing.
use Rattle.std.specs.Prelude.{Option, Some, None, ℕ, ◌+◌, ◌-◌, ◌*◌, ◌^◌, Bool, true, false, cond, ◌&&◌, List, [], ◌∷◌, length, replicate, ◌==◌, nat_le, nat_lt}
use Rattle.text.specs.Bytes.{tab, digit0, digit9, most_bytes}
use Rattle.text.specs.Parts.{parted}

abbrev pub is_digit : (b : ℕ) → Bool
is_digit b = nat_le digit0 b && nat_le b digit9

-- the number that digits go on to from v, as long as it is below 2^64
abbrev pub digits_from : (v : ℕ) → List ℕ → Option ℕ
digits_from v [] = Some v
digits_from v (b ∷ bs) = cond (is_digit b && nat_lt (10 * v + (b - digit0)) (2 ^ 64)) (digits_from (10 * v + (b - digit0)) bs) None

-- decimal, no leading zeros but 0, below 2^64
abbrev pub number_of : List ℕ → Option ℕ
number_of [] = None
number_of (b ∷ []) = digits_from 0 (b ∷ [])
number_of (b ∷ c ∷ bs) = cond (b == digit0) None (digits_from 0 (b ∷ c ∷ bs))

-- what a line holds
pub data Numbers : Type 0 where
  values : List ℕ → Numbers
  malformed : Numbers

abbrev pub joins : Option ℕ → Numbers → Numbers
joins (Some v) (values vs) = values (v ∷ vs)
joins (Some v) malformed = malformed
joins None vs = malformed

-- each field is a number
abbrev pub numbers_of : (fields : List (List ℕ)) → Numbers
numbers_of [] = values []
numbers_of (f ∷ fs) = joins (number_of f) (numbers_of fs)

-- there are n fields, and each is a number
abbrev pub counted : (n : ℕ) → (fields : List (List ℕ)) → Numbers
counted n fs = cond (length fs == n) (numbers_of fs) malformed

-- the field is the letter and nothing else
abbrev pub lettered : (letter : ℕ) → (field : List ℕ) → Bool
lettered letter [] = false
lettered letter (b ∷ []) = b == letter
lettered letter (b ∷ c ∷ bs) = false

abbrev pub headed : (letter n : ℕ) → (fields : List (List ℕ)) → Numbers
headed letter n [] = malformed
headed letter n (f ∷ fs) = cond (lettered letter f) (counted n fs) malformed

-- a line that is due: at most 512 bytes, the letter, and n numbers, parted by tabs
unfoldable pub line_of : (letter n : ℕ) → (line : List ℕ) → Numbers
line_of letter n line = cond (nat_le (length line) most_bytes) (headed letter n (parted tab line)) malformed

abbrev pub is_well : Numbers → Bool
is_well (values ws) = true
is_well malformed = false

-- the numbers of a line of n, or n zeros
abbrev pub words_of : (n : ℕ) → Numbers → List ℕ
words_of n (values ws) = ws
words_of n malformed = replicate n 0
