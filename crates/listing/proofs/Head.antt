-- The numbers of an `N` line. Assumes nothing.
use Rattle.std.proofs.Common.{◌≡◌, ℕ, Bool, List, length, refl, cond, Some, None}
use Rattle.text.specs.Numbers.{Numbers, values, malformed, line_of, is_well, words_of}
use Rattle.text.specs.Calls.{Taken}
use Rattle.listing.specs.Parts.{read_as}

read_whole : (n : ℕ) (x : Numbers) → read_as x ≡ cond (is_well x) (Some (words_of n x)) None
read_whole n (values ws) = refl
read_whole n malformed = refl

pub numbers_read : (letter n : ℕ) (line into : List ℕ) (r : Bool) (into' : List ℕ) → length into ≡ n → Taken letter line into r into'
    → read_as (line_of letter n line) ≡ cond r (Some into') None
numbers_read letter n line into r into' l t = rw (t.well, t.words, l) (read_whole n (line_of letter n line))
