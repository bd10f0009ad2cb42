-- How much of each thing there is at most. Assumes nothing.
use Rattle.std.specs.Prelude.{ℕ, ◌-◌, ◌^◌}

-- slices of a column
abbrev pub most_slices : ℕ
most_slices = 24

-- what a count of lines or clocks stays below
abbrev pub count_bound : ℕ
count_bound = 2 ^ 64 - 1
