-- A whole listing (01, "Port listings"): from all the bytes of the input to all the bytes of the output. Assumes nothing.
use Rattle.std.specs.Prelude.{ℕ, ◌+◌, ◌*◌, ◌-◌, cond, ◌&&◌, List, [], ◌∷◌, ◌++◌, eqb, take, set, replicate}
use Rattle.lent.specs.Refusing.{leaves}
use Rattle.records.specs.Records.{attribute_words, register_words, port_words, output_words}
use Rattle.column.specs.Column.{column_next, column_shown}
use Rattle.column.specs.Refusals.{Answer, number_of, attributes_answer, clock_answer}
use Rattle.text.specs.Bytes.{newline, most_bytes}
use Rattle.text.specs.Numbers.{Numbers, values, malformed, line_of, is_well, words_of}
use Rattle.text.specs.Printed.{pasted}
use Rattle.event.specs.declared.Event.{Event}
use Rattle.event.specs.Events.{bytes_of}
use Rattle.player.specs.declared.Phase.{Phase}
use Rattle.player.specs.declared.Phase.TheVariants.{Head, Settings, Clocks, Stopped}
use Rattle.player.specs.declared.Shows.TheVariants.{Outputs}
use Rattle.player.specs.declared.Player.{Player}
use Rattle.player.specs.Numbers.{working}
use Rattle.listing.specs.declared.steps.Step.{Step}
use Rattle.listing.specs.Letters.{letter_n, letter_a, letter_p}
use Rattle.player.specs.Limits.{most_slices}
use Rattle.listing.specs.Steps.{counted, longer, last_of_group, goes_on, refusal, head_step, group_step, settings_step, clock_step, end_of}

-- what is known between two bytes of the input: the player's numbers, the words of a column, those of slice 0 first, the outputs last
-- shown, and the bytes of the line so far, of which there are player.held
pub record Play : Type 0 where
  pub player : Player
  pub attributes : List ℕ
  pub registers : List ℕ
  pub ports : List ℕ
  pub outputs : List ℕ
  pub line : List ℕ

-- nothing read; the registers of a cleared column
abbrev pub start : Play
start = record {
  player = record { phase = Head; count = 0; given = 0; clocks = 0; lines = 0; held = 0; shows = Outputs };
  attributes = replicate (attribute_words * most_slices) 0;
  registers = replicate (register_words * most_slices) 0;
  ports = replicate (port_words * most_slices) 0;
  outputs = replicate (output_words * most_slices) 0;
  line = replicate most_bytes 0;
}

-- what a line leaves: the player's step, and the words
pub record Left : Type 0 where
  pub step : Step
  pub attributes : List ℕ
  pub registers : List ℕ
  pub ports : List ℕ
  pub outputs : List ℕ

abbrev pub leaving : Step → (at rs ps os : List ℕ) → Left
leaving s at rs ps os = record { step = s; attributes = at; registers = rs; ports = ps; outputs = os }

-- a line's numbers stand at their slice's place; a malformed line leaves zeros there
abbrev pub placed : (n : ℕ) → Player → Numbers → (words : List ℕ) → List ℕ
placed n q x ws = pasted (n * q.given) (words_of n x) ws

-- number 3 of the column's attributes
abbrev pub settings_of : Player → (at : List ℕ) → Answer
settings_of q at = attributes_answer q.count (take (attribute_words * q.count) at)

-- the column's own clock on the listing's words: its answer, and the registers and outputs that it leaves
abbrev pub clock_of : Player → (at rs ps os : List ℕ) → Answer
clock_of q at rs ps os =
    clock_answer q.count (take (attribute_words * q.count) at) (take (register_words * q.count) rs) (take (port_words * q.count) ps)
    (take (output_words * q.count) os)

unfoldable pub clocked_registers : Player → (at rs ps os : List ℕ) → List ℕ
clocked_registers q at rs ps os =
    leaves (number_of (clock_of q at rs ps os))
    (pasted 0 (column_next q.count (take (attribute_words * q.count) at) (take (register_words * q.count) rs) (take (port_words * q.count) ps)) rs)
    rs

unfoldable pub clocked_outputs : Player → (at rs ps os : List ℕ) → List ℕ
clocked_outputs q at rs ps os =
    leaves (number_of (clock_of q at rs ps os))
    (pasted 0 (column_shown q.count (take (attribute_words * q.count) at) (take (register_words * q.count) rs) (take (port_words * q.count) ps)) os)
    os

-- ---- `A` lines

-- "one `A` line of 21 numbers a slice" (01)
abbrev pub first_attributes : ℕ
first_attributes = 21

-- numbers, and k zeros after them
abbrev pub with_zeros : (k : ℕ) → Numbers → Numbers
with_zeros k (values ws) = values (ws ++ replicate k 0)
with_zeros k malformed = malformed

-- the first reading, or the second where the first is malformed
abbrev pub or_else : Numbers → Numbers → Numbers
or_else (values ws) y = values ws
or_else malformed y = y

-- a line of all attributes; "`A` lines of 21 numbers keep their meaning, with word 22 as 0" (02, Ask 1)
unfoldable pub settings_line : (line : List ℕ) → Numbers
settings_line line =
    or_else (line_of letter_a attribute_words line) (with_zeros (attribute_words - first_attributes) (line_of letter_a first_attributes line))

-- at has the line's numbers already
abbrev pub settings_leaves : Player → Numbers → (at rs ps os : List ℕ) → Left
settings_leaves q x at rs ps os = leaving (group_step q (is_well x) (settings_step q (settings_of q at))) at rs ps os

-- "then `P` lines of 11, one a slice": ps has the line's numbers already
abbrev pub ports_leave : Player → Numbers → (at rs ps os : List ℕ) → Left
ports_leave q x at rs ps os =
    leaving
    (group_step q (is_well x) (clock_step q (clock_of q at rs ps os) (clocked_outputs q at rs ps os)))
    at
    (cond (is_well x && last_of_group q) (clocked_registers q at rs ps os) rs)
    ps
    (cond (is_well x && last_of_group q) (clocked_outputs q at rs ps os) os)

-- a whole line, by the kind of line that is due
abbrev pub line_leaves : Phase → Player → (line at rs ps os : List ℕ) → Left
line_leaves Head q line at rs ps os = leaving (head_step q (line_of letter_n 2 line) (line_of letter_n 1 line)) at rs ps os
line_leaves Settings q line at rs ps os =
    settings_leaves q (settings_line line) (placed attribute_words q (settings_line line) at) rs ps os
line_leaves Clocks q line at rs ps os =
    ports_leave q (line_of letter_p port_words line) at rs (placed port_words q (line_of letter_p port_words line) ps) os
line_leaves Stopped q line at rs ps os = leaving (goes_on q) at rs ps os

-- what a byte does: what is known then, and what there is to print
pub record Turn : Type 0 where
  pub play : Play
  pub event : Event

abbrev pub turn_bytes : Turn → List ℕ
turn_bytes t = bytes_of t.event t.play.player.count t.play.outputs

abbrev pub turn_of : Left → (line : List ℕ) → Turn
turn_of l line = record {
  play = record {
    player = l.step.player;
    attributes = l.attributes;
    registers = l.registers;
    ports = l.ports;
    outputs = l.outputs;
    line = line;
  };
  event = l.step.event;
}

-- a step that leaves the words as they are
abbrev pub stepping : Step → Play → Left
stepping s p = leaving s p.attributes p.registers p.ports p.outputs

-- a byte that is part of a line: "at most 512 bytes"
abbrev pub part_turn : Play → (b : ℕ) → Turn
part_turn p b =
    cond (eqb p.player.held most_bytes)
    (turn_of (stepping (refusal p.player 12 (p.player.lines + 1)) p) p.line)
    (turn_of (stepping (goes_on (longer 1 p.player)) p) (set p.line p.player.held b))

-- a newline ends its line
abbrev pub line_turn : Play → Turn
line_turn p =
    turn_of
    (line_leaves p.player.phase (counted p.player) (take p.player.held p.line) p.attributes p.registers p.ports p.outputs)
    p.line

-- after a refusal, or the match that was looked for, a byte does nothing
unfoldable pub byte_turn : Play → (b : ℕ) → Turn
byte_turn p b =
    cond (working p.player.phase) (cond (eqb b newline) (line_turn p) (part_turn p b)) (turn_of (stepping (goes_on p.player) p) p.line)

-- the end of the input
unfoldable pub end_says : Player → List ℕ
end_says q = bytes_of (end_of q) 0 []

-- what is printed of a text from a play on
abbrev pub listing_from : Play → (text : List ℕ) → List ℕ
listing_from p [] = end_says p.player
listing_from p (b ∷ bs) = turn_bytes (byte_turn p b) ++ listing_from (byte_turn p b).play bs

-- what `dspcol` prints of its whole input
unfoldable pub listing : (text : List ℕ) → List ℕ
listing text = listing_from start text
