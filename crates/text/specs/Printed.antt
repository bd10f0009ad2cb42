-- A printed line (01, "Port listings": "Printed fields are parted by tabs"), and where it is put. Assumes nothing.
use Rattle.std.specs.Prelude.{◌≡◌, ℕ, zero, suc, ◌+◌, ◌-◌, ◌*◌, ◌/◌, ◌%◌, Bool, cond, List, [], ◌∷◌, ◌++◌, length, take, drop, nat_le, nat_lt}
use Rattle.text.specs.Bytes.{tab, newline, digit0, field_room}

-- a number's digits, at most f more than one
abbrev pub spelled : (f n : ℕ) → List ℕ
spelled zero n = (digit0 + n % 10) ∷ []
spelled (suc f) n = cond (nat_lt n 10) ((digit0 + n) ∷ []) (spelled f (n / 10) ++ ((digit0 + n % 10) ∷ []))

-- in decimal, no leading zeros, of a number below 10^20
unfoldable pub decimal_of : (n : ℕ) → List ℕ
decimal_of n = spelled 19 n

-- a tab and a number
abbrev pub field_of : (n : ℕ) → List ℕ
field_of n = tab ∷ decimal_of n

-- each number after a tab
abbrev pub fields_of : (ns : List ℕ) → List ℕ
fields_of [] = []
fields_of (n ∷ ns) = field_of n ++ fields_of ns

-- a letter, the numbers, each after a tab, and a newline
unfoldable pub printed : (letter : ℕ) → (ns : List ℕ) → List ℕ
printed letter ns = letter ∷ (fields_of ns ++ (newline ∷ []))

-- out with the bytes bs from place at on
abbrev pub pasted : (at : ℕ) → (bs out : List ℕ) → List ℕ
pasted at bs out = take at out ++ (bs ++ drop (at + length bs) out)

-- the bytes bs stand from place at on, and end at r
pub record Put (at : ℕ) (bs out : List ℕ) (r : ℕ) (out' : List ℕ) : Type 0 where
  pub ends : r ≡ at + length bs
  pub bytes : out' ≡ pasted at bs out

-- out has room from place at on for a line of n numbers: a field's for each, and one more for the letter and the newline
abbrev pub room_for : (n at : ℕ) → (out : List ℕ) → Bool
room_for n at out = nat_le (field_room * (n + 1)) (length out - at)

-- the bytes of a line where there is room for it, else none
abbrev pub line_within : (letter : ℕ) → (ns : List ℕ) → (at : ℕ) → (out : List ℕ) → List ℕ
line_within letter ns at out = cond (room_for (length ns) at out) (printed letter ns) []
