-- The letter that each kind of printed line starts with (01, "Port listings"). Assumes nothing.
use Rattle.std.specs.Prelude.{ℕ}

-- a slice's outputs, the first match (02, Ask 8), a refusal, the end
abbrev pub letter_o : ℕ
letter_o = 79

abbrev pub letter_m : ℕ
letter_m = 77

abbrev pub letter_r : ℕ
letter_r = 82

abbrev pub letter_e : ℕ
letter_e = 69
