-- One clock of a column (01, "One clock"): the one-slice rule at each slice's own words, all read before the edge, with the cascade
-- handed up. at, rs and ps are the lent attributes, registers and ports, slice 0 (bottom) first. Assumes nothing.
use Rattle.std.specs.Prelude.{ℕ, zero, suc, ◌*◌, List, [], ◌++◌, take, drop}
use Rattle.records.specs.declared.Attributes.{Attributes}
use Rattle.records.specs.declared.Registers.{Registers}
use Rattle.records.specs.declared.Ports.{Ports}
use Rattle.slice.specs.declared.inputs.Cascade.{Cascade}
use Rattle.records.specs.Records.{attribute_words, register_words, port_words, attributes_of, registers_of, ports_of, registers_words, outputs_words}
use Rattle.slice.specs.Slice.{slice_outputs, slice_cascade, slice_next}

-- slice k's own stretch of words, of which each slice has n
abbrev pub stretch : (n k : ℕ) → List ℕ → List ℕ
stretch n k ws = take n (drop (n * k) ws)

-- f 0, f 1 and so on up to, but not with, f n, one after the other
abbrev pub stacked : (ℕ → List ℕ) → (n : ℕ) → List ℕ
stacked f zero = []
stacked f (suc n) = stacked f n ++ f n

-- slice k's records
abbrev pub attributes_at : List ℕ → (k : ℕ) → Attributes
attributes_at at k = attributes_of (stretch attribute_words k at)

abbrev pub registers_at : List ℕ → (k : ℕ) → Registers
registers_at rs k = registers_of (stretch register_words k rs)

abbrev pub ports_at : List ℕ → (k : ℕ) → Ports
ports_at ps k = ports_of (stretch port_words k ps)

-- Bottom cascade inputs are 0. ACIN is the ACOUT below, BCIN and PCIN likewise, and so is the carry (02, Ask 7)
unfoldable pub cascade_into : (at rs ps : List ℕ) → (k : ℕ) → Cascade
cascade_into at rs ps zero = record { a = 0; b = 0; p = 0; carry = 0 }
cascade_into at rs ps (suc k) = slice_cascade (attributes_at at k) (registers_at rs k) (ports_at ps k) (cascade_into at rs ps k)

-- what slice k shows, and its registers after the edge
unfoldable pub shown_at : (at rs ps : List ℕ) → (k : ℕ) → List ℕ
shown_at at rs ps k = outputs_words (slice_outputs (attributes_at at k) (registers_at rs k) (ports_at ps k) (cascade_into at rs ps k))

unfoldable pub next_at : (at rs ps : List ℕ) → (k : ℕ) → List ℕ
next_at at rs ps k = registers_words (slice_next (attributes_at at k) (registers_at rs k) (ports_at ps k) (cascade_into at rs ps k))

-- the outputs of a clock, and the registers after it: all load at once
unfoldable pub column_shown : (count : ℕ) → (at rs ps : List ℕ) → List ℕ
column_shown count at rs ps = stacked (shown_at at rs ps) count

unfoldable pub column_next : (count : ℕ) → (at rs ps : List ℕ) → List ℕ
column_next count at rs ps = stacked (next_at at rs ps) count

-- the registers after t clocks, of which clock i has the ports ps i
unfoldable pub after : (count : ℕ) → (at rs : List ℕ) → (ps : ℕ → List ℕ) → (t : ℕ) → List ℕ
after count at rs ps zero = rs
after count at rs ps (suc t) = column_next count at (after count at rs ps t) (ps t)
