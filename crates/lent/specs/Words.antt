-- Lent words (01, "The lent words") that are written whole, or not at all. Assumes nothing.
use Rattle.std.specs.Prelude.{ℕ, cond, List, [], eqb, leb, length}

-- the words of from where they are as many as there is room for, else those that were there
abbrev pub stored : (to from : List ℕ) → List ℕ
stored to from = cond (eqb (length to) (length from)) from to

-- words of which there are n at least, else none: so a record is read of any words
abbrev pub enough : (n : ℕ) → List ℕ → List ℕ
enough n ws = cond (leb n (length ws)) ws []
