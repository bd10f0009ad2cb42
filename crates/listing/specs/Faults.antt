-- The number and the place of what a listing is refused for (01, "Refusal numbers", and 13 of 02, Ask 8). Assumes nothing.
use Rattle.std.specs.Prelude.{ℕ, ⊤, Result, Ok, Err}
use Rattle.column.specs.Refusals.{number_of, place_of}
use Rattle.player.specs.declared.Player.{Player}
use Rattle.listing.specs.declared.steps.Step.{Step}
use Rattle.listing.specs.declared.steps.Fault.{Fault}
use Rattle.listing.specs.declared.steps.Fault.TheVariants.{Count, Line, Slice, Column}
use Rattle.listing.specs.Steps.{refusal}

abbrev pub fault_number : Fault → ℕ
fault_number Count = 1
fault_number (Line line) = 12
fault_number Slice = 13
fault_number (Column refusal) = number_of {A = ⊤} (Err refusal)

abbrev pub fault_place : Fault → ℕ
fault_place Count = 0
fault_place (Line line) = line
fault_place Slice = 0
fault_place (Column refusal) = place_of {A = ⊤} (Err refusal)

-- the step that a line was taken as, or the refusal
abbrev pub outcome : Player → Result Step Fault → Step
outcome q (Ok step) = step
outcome q (Err fault) = refusal q (fault_number fault) (fault_place fault)
