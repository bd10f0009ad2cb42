-- A player's numbers, and the lent words that they are between two pieces. Assumes nothing.
use Rattle.std.specs.Prelude.{ℕ, Bool, true, false, cond, List, [], ◌∷◌, eqb, get_or}
use Rattle.player.specs.declared.Phase.{Phase}
use Rattle.player.specs.declared.Phase.TheVariants.{Head, Settings, Clocks, Stopped}
use Rattle.player.specs.declared.Shows.{Shows}
use Rattle.player.specs.declared.Shows.TheVariants.{Outputs, FirstMatch}
use Rattle.player.specs.declared.Player.{Player}

-- a line is due
abbrev pub working : Phase → Bool
working Head = true
working Settings = true
working Clocks = true
working Stopped = false

abbrev pub phase_number : Phase → ℕ
phase_number Head = 0
phase_number Settings = 1
phase_number Clocks = 2
phase_number Stopped = 3

abbrev pub phase_of : ℕ → Phase
phase_of n = cond (eqb n 0) Head (cond (eqb n 1) Settings (cond (eqb n 2) Clocks Stopped))

-- what is shown of a clock: every slice's outputs, or "the first clock in which a chosen slice shows PATTERNDETECT" (02, Ask 8); and that
-- slice
abbrev pub shows_number : Shows → ℕ
shows_number Outputs = 0
shows_number (FirstMatch slice) = 1

abbrev pub watched : Shows → ℕ
watched Outputs = 0
watched (FirstMatch slice) = slice

abbrev pub shows_of : (number slice : ℕ) → Shows
shows_of n slice = cond (eqb n 1) (FirstMatch slice) Outputs

abbrev pub player_numbers : ℕ
player_numbers = 8

abbrev pub player_words : Player → List ℕ
player_words q = phase_number q.phase ∷ q.count ∷ q.given ∷ q.clocks ∷ q.lines ∷ q.held ∷ shows_number q.shows ∷ watched q.shows ∷ []

abbrev pub player_of : (numbers : List ℕ) → Player
player_of ns = record {
  phase = phase_of (get_or ns 0 0);
  count = get_or ns 1 0;
  given = get_or ns 2 0;
  clocks = get_or ns 3 0;
  lines = get_or ns 4 0;
  held = get_or ns 5 0;
  shows = shows_of (get_or ns 6 0) (get_or ns 7 0);
}
