-- The choices that the hardware makes between words, and the bits that select them. Assumes nothing.
use Rattle.std.specs.Prelude.{ℕ, zero, suc, ◌/◌, ◌%◌, ◌^◌, List, slice_index}

-- x0 when the select is 0, else x1
abbrev pub mux : (s x0 x1 : ℕ) → ℕ
mux zero x0 x1 = x0
mux (suc s) x0 x1 = x1

-- the word at the select's place in the list, counted from 0; 0 past its end
abbrev pub choose : List ℕ → (s : ℕ) → ℕ
choose xs s = slice_index xs s

-- bit k of n
abbrev pub bit : (n k : ℕ) → ℕ
bit n k = n / 2 ^ k % 2
