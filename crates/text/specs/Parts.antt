-- A text cut at a byte: a line at its tabs. Assumes nothing.
use Rattle.std.specs.Prelude.{ℕ, cond, List, [], ◌∷◌, ◌==◌}

-- one byte more at the front of the first part
abbrev pub onto : (b : ℕ) → List (List ℕ) → List (List ℕ)
onto b [] = (b ∷ []) ∷ []
onto b (f ∷ fs) = (b ∷ f) ∷ fs

-- the parts of a text between the bytes that equal sep: always one more than there are such bytes
abbrev pub parted : (sep : ℕ) → List ℕ → List (List ℕ)
parted sep [] = [] ∷ []
parted sep (b ∷ bs) = cond (b == sep) ([] ∷ parted sep bs) (onto b (parted sep bs))
