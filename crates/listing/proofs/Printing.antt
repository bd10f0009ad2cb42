-- The room that a byte is taken with is enough for what it prints. Assumes nothing.
use mathlib.Core.List.{List}
use Prim.Native.Nat.{ℕ, ◌+◌, ◌*◌, ◌≤◌}
use native.Mathlib.Nat.{mul-le-mul_left}
use native.Mathlib.Omega.{arith}
use lib.ListN.{length}
use Rattle.records.specs.Records.{output_words}
use Rattle.text.specs.Bytes.{field_room}
use Rattle.text.specs.Printed.{Put}
use Rattle.event.specs.declared.Event.{Event}
use Rattle.event.specs.Events.{bytes_of, output_room, line_room, bytes_within}
use Rattle.event.proofs.Printing as event
use Rattle.player.specs.Limits.{most_slices}
use Rattle.listing.specs.Limits.{clock_room}

-- for the lines of 24 slices, with so many outputs each, and one line more
pub clock_fits_lem : (outputs : ℕ) → outputs ≤ 13 → field_room * (outputs + 3) * most_slices + line_room ≤ clock_room
clock_fits_lem outputs h = omega arith

module _ (e : Event) (count : ℕ) (os : List ℕ) (few : count ≤ most_slices) where
  pub event_length : length (bytes_of e count os) ≤ clock_room
  event_length = omega (arith, event.event_length e count os most_slices few, clock_fits_lem output_words (omega arith))

  -- so an event is printed whole
  pub event_put : output_words * count ≤ length os → (at : ℕ) (out : List ℕ) → at + clock_room ≤ length out → {r : ℕ} {out' : List ℕ}
      → Put at (bytes_within e count os at out) out r out' → Put at (bytes_of e count os) out r out'
  event_put h at out room p =
      rw (event.event_fits_lem e count os at out h (omega (arith, mul-le-mul_left output_room few, clock_fits_lem output_words (omega arith)))) at p
