-- `shown` meets its contract: by what is looked for, and then by the event. The check finds it too, but gives up at a limit where an edit is
-- tried (docs/DECISIONS.md, 121).
use Rattle.std.proofs.Common.{◌≡◌, ℕ, List, refl, sym, ◌∙◌}
use Rattle.event.specs.declared.Event.{Event}
use Rattle.event.specs.declared.Event.TheVariants.{Nothing, Clocked, Matched, Refused, Ended}
use Rattle.event.specs.Showing.{matched, shown}
use Rattle.event.proofs.showing.shown.Goals as goal

-- an event that is no clock is shown as it is
no_clock : (k : ℕ) (e : Event) (os : List ℕ) → ((x : ℕ) → e ≡ Clocked x → ⊥) → matched k e os ≡ e
no_clock k Nothing os h = refl
no_clock k (Clocked clock) os h = absurd (h clock refl)
no_clock k (Matched clock) os h = refl
no_clock k (Refused number clocks place) os h = refl
no_clock k (Ended clocks) os h = refl

pub returns-in_default : goal.returns-in_default
unfolding shown
returns-in_default c = rw c.in_default.is

pub returns-in_default-event : goal.returns-in_default-event
unfolding shown
returns-in_default-event c = rw c.in-FirstMatch.is (sym (no_clock _ c.args.event c.args.outputs.now c.in_default-event.not-Clocked))

pub returns-then-detects : goal.returns-then-detects
unfolding shown
returns-then-detects c = rw (c.in-FirstMatch.is, c.in-Clocked.is, sym c.detects.ensures ∙ c.if-detects.true)

pub returns : goal.returns
unfolding shown
returns c = rw (c.in-FirstMatch.is, c.in-Clocked.is, sym c.detects.ensures ∙ c.if-detects.false)
