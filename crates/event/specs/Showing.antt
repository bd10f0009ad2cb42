-- What a player shows of an event (02, Ask 8). Assumes nothing.
use Rattle.std.specs.Prelude.{ℕ, Bool, cond, List, eqb}
use Rattle.records.specs.Records.{output_words, outputs_of}
use Rattle.column.specs.Column.{stretch}
use Rattle.player.specs.declared.Shows.{Shows}
use Rattle.player.specs.declared.Shows.TheVariants.{Outputs, FirstMatch}
use Rattle.event.specs.declared.Event.{Event}
use Rattle.event.specs.declared.Event.TheVariants.{Nothing, Clocked, Matched, Refused, Ended}

-- a slice shows PATTERNDETECT, in the outputs of which its `O` line is printed
unfoldable pub detects : (slice : ℕ) → (outputs : List ℕ) → Bool
detects k os = eqb (outputs_of (stretch output_words k os)).patterndetect 1

-- "the bench only wants the first clock in which a chosen slice shows PATTERNDETECT .. print only `M` and the clock, no `O`"
abbrev pub matched : (slice : ℕ) → Event → (outputs : List ℕ) → Event
matched k Nothing os = Nothing
matched k (Clocked clock) os = cond (detects k os) (Matched clock) Nothing
matched k (Matched clock) os = Matched clock
matched k (Refused number clocks place) os = Refused number clocks place
matched k (Ended clocks) os = Ended clocks

-- of a column that shows these outputs: an event as it is, or of its clocks only the match
unfoldable pub shown : Shows → Event → (outputs : List ℕ) → Event
shown Outputs e os = e
shown (FirstMatch slice) e os = matched slice e os
