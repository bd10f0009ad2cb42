-- What a listing gives whose `N` line names a slice (02, Ask 8), by what it gives without that field: "The answer must be the one that the
-- whole run's listing would give". Assumes nothing.
use Rattle.std.specs.Prelude.{ℕ, ◌≡◌, Bool, true, cond, not, ◌&&◌, List, [], ◌∷◌, ◌++◌, eqb, length, get_or}
use Rattle.text.specs.Bytes.{newline}
use Rattle.text.specs.Numbers.{values, line_of}
use Rattle.event.specs.Letters.{letter_o, letter_m}
use Rattle.event.specs.Lines.{Line, line_with, lines_of}
use Rattle.listing.specs.Letters.{letter_n}
use Rattle.listing.specs.Steps.{end_of}
use Rattle.listing.specs.Listing.{Play, Turn, byte_turn, start}

-- ---- a listing as lines; its bytes are `listing`

abbrev pub turn_lines : Turn → List Line
turn_lines t = lines_of t.event t.play.player.count t.play.outputs

-- what is printed of a text from a play on, without its end
abbrev pub lines_by : Play → (text : List ℕ) → List Line
lines_by p [] = []
lines_by p (b ∷ bs) = turn_lines (byte_turn p b) ++ lines_by (byte_turn p b).play bs

-- and with it
abbrev pub lines_from : Play → (text : List ℕ) → List Line
lines_from p [] = lines_of (end_of p.player) 0 []
lines_from p (b ∷ bs) = turn_lines (byte_turn p b) ++ lines_from (byte_turn p b).play bs

unfoldable pub listing_lines : (text : List ℕ) → List Line
listing_lines text = lines_from start text

-- ---- the first match in a listing

-- the `O` line of that slice, with PATTERNDETECT 1: its numbers are clock, slice, P, PATTERNDETECT and so on
abbrev pub is_match : (slice : ℕ) → Line → Bool
is_match k l = eqb l.letter letter_o && eqb (get_or l.numbers 1 0) k && eqb (get_or l.numbers 3 0) 1

-- the clocks of such lines, in their order
abbrev pub match_clocks : (slice : ℕ) → List Line → List ℕ
match_clocks k [] = []
match_clocks k (l ∷ ls) = cond (is_match k l) (get_or l.numbers 0 0 ∷ match_clocks k ls) (match_clocks k ls)

-- the last line
abbrev pub last_of : List Line → List Line
last_of [] = []
last_of (l ∷ []) = l ∷ []
last_of (l ∷ m ∷ ls) = last_of (m ∷ ls)

-- "`M` and the clock"; where no clock is given, the last line: "if the run is refused earlier, it is that refusal; if nothing matches by the
-- end, `E` and the clocks run"
abbrev pub first_or : (clocks : List ℕ) → List Line → List Line
first_or [] ls = last_of ls
first_or (c ∷ cs) ls = line_with letter_m (c ∷ []) ∷ []

abbrev pub first_match : (slice : ℕ) → List Line → List Line
first_match k ls = first_or (match_clocks k ls) ls

-- ---- an `N` line

-- no byte of it ends a line
abbrev pub unended : List ℕ → Bool
unended [] = true
unended (b ∷ bs) = not (eqb b newline) && unended bs

-- bytes that are read as `N` and these numbers
pub record HeadLine (numbers line : List ℕ) : Type 0 where
  pub reads : line_of letter_n (length numbers) line ≡ values numbers
  pub whole : unended line ≡ true

-- a text whose first line they are
abbrev pub headed : (line rest : List ℕ) → List ℕ
headed line rest = line ++ (newline ∷ rest)
