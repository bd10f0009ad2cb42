-- The room that is asked for. Assumes nothing.
use Rattle.std.specs.Prelude.{ℕ}

-- room for what any byte prints: more than the `O` lines of 24 slices, also where a slice had as many as 13 outputs
abbrev pub clock_room : ℕ
clock_room = 8192
