-- What one line of a listing does (01, "Port listings"): the player's numbers after it, and what there is to print. Each player here
-- has counted the line already, so its line is q.lines. Assumes nothing.
use Rattle.std.specs.Prelude.{ℕ, ◌+◌, Bool, true, cond, ◌&&◌, List, eqb, leb, ltb, get_or}
use Rattle.column.specs.Refusals.{Answer, number_of, place_of, count_fits}
use Rattle.text.specs.Numbers.{Numbers, is_well, words_of}
use Rattle.event.specs.declared.Event.{Event}
use Rattle.event.specs.declared.Event.TheVariants.{Nothing, Clocked, Matched, Refused, Ended}
use Rattle.event.specs.Showing.{shown}
use Rattle.player.specs.declared.Phase.{Phase}
use Rattle.player.specs.declared.Phase.TheVariants.{Head, Settings, Clocks, Stopped}
use Rattle.player.specs.declared.Shows.{Shows}
use Rattle.player.specs.declared.Shows.TheVariants.{Outputs, FirstMatch}
use Rattle.player.specs.declared.Player.{Player}
use Rattle.listing.specs.declared.steps.Step.{Step}

-- ---- the player's numbers

-- a line is whole: it counts, and the next one begins
abbrev pub counted : Player → Player
counted q = record { phase = q.phase; count = q.count; given = q.given; clocks = q.clocks; lines = q.lines + 1; held = 0; shows = q.shows }

-- so many bytes more of the line
abbrev pub longer : (more : ℕ) → Player → Player
longer more q = record { phase = q.phase; count = q.count; given = q.given; clocks = q.clocks; lines = q.lines; held = q.held + more; shows = q.shows }

-- the line of one slice more is given
abbrev pub one_more : Player → Player
one_more q = record { phase = q.phase; count = q.count; given = q.given + 1; clocks = q.clocks; lines = q.lines; held = q.held; shows = q.shows }

-- the count is known, and what to show: `A` lines are due
abbrev pub named : Player → (count : ℕ) → Shows → Player
named q count shows = record { phase = Settings; count = count; given = 0; clocks = q.clocks; lines = q.lines; held = q.held; shows = shows }

-- the attributes are known: `P` lines are due
abbrev pub clocking : Player → Player
clocking q = record { phase = Clocks; count = q.count; given = 0; clocks = q.clocks; lines = q.lines; held = q.held; shows = q.shows }

-- a clock was run
abbrev pub clock_run : Player → Player
clock_run q = record { phase = q.phase; count = q.count; given = 0; clocks = q.clocks + 1; lines = q.lines; held = q.held; shows = q.shows }

-- no line is due any more
abbrev pub halted : Player → Player
halted q = record { phase = Stopped; count = q.count; given = 0; clocks = q.clocks; lines = q.lines; held = 0; shows = q.shows }

-- ---- the steps

abbrev pub goes_on : Player → Step
goes_on q = record { player = q; event = Nothing }

-- "On refusal it prints, instead of `E`, `R`, number, clocks run, place .., and stops"
abbrev pub refusal : Player → (number place : ℕ) → Step
refusal q number place = record { player = halted q; event = Refused number q.clocks place }

-- "Stop reading there": a player that shows its match takes no more (02, Ask 8)
abbrev pub stops_at : Event → Player → Player
stops_at Nothing q = q
stops_at (Clocked clock) q = q
stops_at (Matched clock) q = halted q
stops_at (Refused number clocks place) q = q
stops_at (Ended clocks) q = q

-- what a player shows of a step that led to these outputs
unfoldable pub shown_step : Step → (outputs : List ℕ) → Step
shown_step s os = record {
  player = stops_at (shown s.player.shows s.event os) s.player;
  event = shown s.player.shows s.event os;
}

-- the slice that is looked at is one of the column's
abbrev pub shows_within : Shows → (count : ℕ) → Bool
shows_within Outputs count = true
shows_within (FirstMatch slice) count = ltb slice count

-- "Number 1 is checked as soon as `N` is read"; "13 for a slice at or above the count, once `N` is read, after 1, place 0" (02, Ask 8)
unfoldable pub begin_step : Player → (count : ℕ) → Shows → Step
begin_step q count shows =
    cond (count_fits count) (cond (shows_within shows count) (goes_on (named q count shows)) (refusal q 13 0)) (refusal q 1 0)

-- "`N` count"; "The slice is a third field of the `N` line" (02, Ask 8): a line that is read as two numbers, or as one
unfoldable pub head_step : Player → (two one : Numbers) → Step
head_step q two one =
    cond (is_well two) (begin_step q (get_or (words_of 2 two) 0 0) (FirstMatch (get_or (words_of 2 two) 1 0)))
    (cond (is_well one) (begin_step q (get_or (words_of 1 one) 0 0) Outputs) (refusal q 12 q.lines))

-- a line of a group of `A` or `P` lines, one a slice: malformed, the last of them, or one of them
abbrev pub last_of_group : Player → Bool
last_of_group q = leb q.count (q.given + 1)

unfoldable pub group_step : Player → (well : Bool) → (whole : Step) → Step
group_step q well whole = cond well (cond (last_of_group q) whole (goes_on (one_more q))) (refusal q 12 q.lines)

-- a check's answer: the step where it is accepted, else a refusal by its number and slice
unfoldable pub answered : Player → Answer → (accepted : Step) → Step
answered q a accepted = cond (eqb (number_of a) 0) accepted (refusal q (number_of a) (place_of a))

-- "Number 3 is checked once all `A` lines are read"
abbrev pub settings_step : Player → Answer → Step
settings_step q a = answered q a (goes_on (clocking q))

-- "5 to 9 are checked once all lines of a clock are read"; os are the outputs that an accepted clock leaves
abbrev pub clock_step : Player → Answer → (os : List ℕ) → Step
clock_step q a os = answered q a (shown_step (record { player = clock_run q; event = Clocked q.clocks }) os)

-- ---- the end of the input

-- no line is begun, and no line of a clock is missing
abbrev pub between_clocks : Player → Bool
between_clocks q = eqb q.held 0 && eqb q.given 0

-- "at the end `E` and the clocks run"; "A short last clock or a missing line is 12 at the line after the last; a last line without its
-- newline is 12 at that line"
abbrev pub end_in : Phase → Player → Event
end_in Head q = Refused 12 q.clocks (q.lines + 1)
end_in Settings q = Refused 12 q.clocks (q.lines + 1)
end_in Clocks q = cond (between_clocks q) (Ended q.clocks) (Refused 12 q.clocks (q.lines + 1))
end_in Stopped q = Nothing

unfoldable pub end_of : Player → Event
end_of q = end_in q.phase q
