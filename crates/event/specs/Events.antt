-- The bytes of what is printed of a step of a listing (01, "Port listings"), and where there is room for them. Assumes nothing.
use Rattle.std.specs.Prelude.{ℕ, ◌+◌, ◌*◌, ◌-◌, Bool, true, cond, ◌&&◌, List, [], leb, length}
use Rattle.records.specs.Records.{output_words}
use Rattle.text.specs.Bytes.{field_room}
use Rattle.text.specs.Printed.{room_for}
use Rattle.event.specs.declared.Event.{Event}
use Rattle.event.specs.declared.Event.TheVariants.{Nothing, Clocked, Matched, Refused, Ended}
use Rattle.event.specs.Lines.{lines_of, printed_lines}

-- those of its lines, one after the other
abbrev pub bytes_of : Event → (count : ℕ) → (outputs : List ℕ) → List ℕ
bytes_of e count os = printed_lines (lines_of e count os)

-- room for an `O` line: its clock, its slice and the outputs, a field's for each, and one more for the letter and the newline
abbrev pub output_room : ℕ
output_room = field_room * (output_words + 3)

-- room for a line of as many as three numbers, as `M`, `R` and `E` lines are
abbrev pub line_room : ℕ
line_room = field_room * 4

-- the outputs of count slices are lent, and out has room from place at on for as many `O` lines
abbrev pub clock_fits : (count : ℕ) → (outputs : List ℕ) → (at : ℕ) → (out : List ℕ) → Bool
clock_fits count os at out = leb (output_words * count) (length os) && leb (output_room * count) (length out - at)

-- there is room for all of an event's lines
abbrev pub event_fits : Event → (count : ℕ) → (outputs : List ℕ) → (at : ℕ) → (out : List ℕ) → Bool
event_fits Nothing count os at out = true
event_fits (Clocked clock) count os at out = clock_fits count os at out
event_fits (Matched clock) count os at out = room_for 1 at out
event_fits (Refused number clocks place) count os at out = room_for 3 at out
event_fits (Ended clocks) count os at out = room_for 1 at out

-- its bytes then, else none
unfoldable pub bytes_within : Event → (count : ℕ) → (outputs : List ℕ) → (at : ℕ) → (out : List ℕ) → List ℕ
bytes_within e count os at out = cond (event_fits e count os at out) (bytes_of e count os) []
