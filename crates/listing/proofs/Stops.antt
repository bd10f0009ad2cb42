-- What is shown stops a player only where it is a match. Assumes nothing.
use mathlib.Core.Path.{◌≡◌, refl}
use mathlib.Core.Logic.{⊎_elim}
use mathlib.Core.List.{[], ◌∷◌}
use native.Mathlib.Omega.{arith}
use types.Run.{OneOf}
use denote.Enum.Declared.{tag_of}
use Rattle.event.specs.declared.Event.{Event}
use Rattle.event.specs.declared.Event.TheVariants.{Nothing, Clocked, Matched, Refused, Ended}
use Rattle.event.specs.contracts.Event.{the_type}
use Rattle.player.specs.declared.Player.{Player}
use Rattle.listing.specs.Steps.{stops_at}

-- an event of another variant
pub goes_on_lem : (e : Event) (q : Player) → OneOf (0 ∷ 1 ∷ 3 ∷ 4 ∷ []) (tag_of the_type e) → stops_at e q ≡ q
goes_on_lem Nothing q h = refl
goes_on_lem (Clocked clock) q h = refl
goes_on_lem (Matched clock) q h = absurd (other h)
  where
    other : OneOf (0 ∷ 1 ∷ 3 ∷ 4 ∷ []) (tag_of the_type (Matched clock)) → ⊥
    other = ⊎_elim (λ e. omega arith) (λ l. ⊎_elim (λ e. omega arith) (λ l. ⊎_elim (λ e. omega arith) (λ e. omega arith) l) l)
goes_on_lem (Refused number clocks place) q h = refl
goes_on_lem (Ended clocks) q h = refl
