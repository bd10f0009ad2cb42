-- The bytes that a line is made of, and how many there may be (01, "Port listings"). Assumes nothing.
use Rattle.std.specs.Prelude.{ℕ}

-- parts the fields of a line
abbrev pub tab : ℕ
tab = 9

-- ends a line
abbrev pub newline : ℕ
newline = 10

-- the first digit and the last; a digit is worth what it stands above the first
abbrev pub digit0 : ℕ
digit0 = 48

abbrev pub digit9 : ℕ
digit9 = 57

-- "at most 512 bytes without it", the newline
abbrev pub most_bytes : ℕ
most_bytes = 512

-- room for a printed field: a tab, and the 20 digits that a number below 2^64 can have
abbrev pub field_room : ℕ
field_room = 21
