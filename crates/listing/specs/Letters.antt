-- The letter that each kind of line starts with (01, "Port listings"). Assumes nothing.
use Rattle.std.specs.Prelude.{ℕ}

-- the count, a slice's attributes, a slice's ports
abbrev pub letter_n : ℕ
letter_n = 78

abbrev pub letter_a : ℕ
letter_a = 65

abbrev pub letter_p : ℕ
letter_p = 80
