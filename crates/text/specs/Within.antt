-- What the private functions promise each other. No caller needs it. Assumes nothing.
use Rattle.std.specs.Prelude.{Option, Some, None, option_map, ℕ, ◌+◌, Bool, true, false, cond, not, ◌&&◌, List, [], ◌∷◌, length, drop, ◌==◌, nat_le}
use Rattle.text.specs.Bytes.{tab, most_bytes}
use Rattle.text.specs.Parts.{parted}
use Rattle.text.specs.Numbers.{digits_from, number_of, Numbers, values, malformed, counted}

-- the bytes before the first sep
abbrev pub before : (sep : ℕ) → List ℕ → List ℕ
before sep [] = []
before sep (b ∷ bs) = cond (b == sep) [] (b ∷ before sep bs)

-- what was read, and the place after it
abbrev pub up_to : (end : ℕ) → Option ℕ → Option (ℕ × ℕ)
up_to end (Some v) = Some (v, end)
up_to end None = None

-- digits that go on from v at a place, as far as a tab
abbrev pub digits_at : (v : ℕ) → (s : List ℕ) → (at : ℕ) → Option (ℕ × ℕ)
digits_at v s at = up_to (at + length (before tab (drop at s))) (digits_from v (before tab (drop at s)))

-- the number at the front, as far as a tab, and what follows it
abbrev pub number_first : List ℕ → Option (ℕ × List ℕ)
number_first s = option_map (λ v. (v, drop (length (before tab s)) s)) (number_of (before tab s))

-- the number after a tab at the front
abbrev pub field_first : List ℕ → Option (ℕ × List ℕ)
field_first [] = None
field_first (b ∷ bs) = cond (b == tab) (number_first bs) None

-- a line that is not too long starts with the letter, which is no tab
abbrev pub starts : (letter : ℕ) → (line : List ℕ) → Bool
starts letter [] = false
starts letter (b ∷ bs) = nat_le (length (b ∷ bs)) most_bytes && (b == letter && not (b == tab))

-- m fields that are due, each after a tab
abbrev pub due : (m : ℕ) → (rest : List ℕ) → Numbers
due m [] = counted m []
due m (b ∷ bs) = cond (b == tab) (counted m (parted tab bs)) malformed

-- what the answer and the words say
abbrev pub filled : Bool → (words : List ℕ) → Numbers
filled true ws = values ws
filled false ws = malformed
