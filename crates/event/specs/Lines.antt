-- What is printed of a step of a listing, as lines of numbers (01, "Port listings"). Assumes nothing.
use Rattle.std.specs.Prelude.{ℕ, zero, suc, List, [], ◌∷◌, ◌++◌}
use Rattle.records.specs.Records.{output_words}
use Rattle.column.specs.Column.{stretch}
use Rattle.text.specs.Printed.{printed}
use Rattle.event.specs.declared.Event.{Event}
use Rattle.event.specs.declared.Event.TheVariants.{Nothing, Clocked, Matched, Refused, Ended}
use Rattle.event.specs.Letters.{letter_o, letter_m, letter_r, letter_e}

-- a line: the letter that it starts with, and its numbers
pub record Line : Type 0 where
  pub letter : ℕ
  pub numbers : List ℕ

abbrev pub line_with : (letter : ℕ) → (numbers : List ℕ) → Line
line_with letter ns = record { letter = letter; numbers = ns }

-- "`O`, clock, slice, the five outputs"; "outputs grow to 6 words a slice" and "`O` lines grow alike" (02, Ask 4); "output word 7" (02,
-- Ask 7)
abbrev pub output_line : (clock : ℕ) → (outputs : List ℕ) → (k : ℕ) → Line
output_line clock os k = line_with letter_o (clock ∷ k ∷ stretch output_words k os)

-- f 0, f 1 and so on up to, but not with, f n
abbrev pub listed : (ℕ → Line) → (n : ℕ) → List Line
listed f zero = []
listed f (suc n) = listed f n ++ (f n ∷ [])

-- of a column of count slices, which shows these outputs: a clock, "within a clock from slice 0 up"; "`M` and the clock" (02, Ask 8); "`R`,
-- number, clocks run, place"; "`E` and the clocks run"
abbrev pub lines_of : Event → (count : ℕ) → (outputs : List ℕ) → List Line
lines_of Nothing count os = []
lines_of (Clocked clock) count os = listed (output_line clock os) count
lines_of (Matched clock) count os = line_with letter_m (clock ∷ []) ∷ []
lines_of (Refused number clocks place) count os = line_with letter_r (number ∷ clocks ∷ place ∷ []) ∷ []
lines_of (Ended clocks) count os = line_with letter_e (clocks ∷ []) ∷ []

-- the bytes of some lines
abbrev pub printed_lines : List Line → List ℕ
printed_lines [] = []
printed_lines (l ∷ ls) = printed l.letter l.numbers ++ printed_lines ls
