-- What a check's answer makes of a line, from the code's `Result`. Assumes nothing.
use Rattle.std.proofs.Common.{◌≡◌, refl, false, eqb, Result, Ok, Err}
use Rattle.std.specs.Prelude.{⊤}
use Rattle.std.specs.Result.{IsErrAnd}
use Rattle.column.specs.declared.Check.TheVariants.{Attribute, Register, Port, Inmode, Opmode, Alumode, Carryinsel}
use Rattle.column.specs.declared.Refusal.{Refusal}
use Rattle.column.specs.declared.Refusal.TheVariants.{BadCount, BadLength, Broken, BadSlice}
use Rattle.column.specs.Refusals.{Answer, number_of}
use Rattle.player.specs.declared.Player.{Player}
use Rattle.listing.specs.declared.steps.Step.{Step}
use Rattle.listing.specs.declared.steps.Fault.{Fault}
use Rattle.listing.specs.declared.steps.Fault.TheVariants.{Column}
use Rattle.listing.specs.Faults.{outcome}
use Rattle.listing.specs.Steps.{answered}

not_zero : (r : Refusal) → eqb (number_of {A = ⊤} (Err r)) 0 ≡ false
not_zero BadCount = refl
not_zero BadLength = refl
not_zero (Broken Attribute k) = refl
not_zero (Broken Register k) = refl
not_zero (Broken Port k) = refl
not_zero (Broken Inmode k) = refl
not_zero (Broken Opmode k) = refl
not_zero (Broken Alumode k) = refl
not_zero (Broken Carryinsel k) = refl
not_zero BadSlice = refl

module _ (q : Player) (a : Answer) (s : Step) where
  pub accepted_step : {v : ⊤} → Ok v ≡ a → s ≡ answered q a s
  unfolding answered
  accepted_step e = rw (← e) refl

  pub refused_step : {r : Refusal} (x : Result Step Fault) → Err r ≡ a → IsErrAnd x (λ fault. fault ≡ Column r) → outcome q x ≡ answered q a s
  unfolding answered
  refused_step (Ok step) e f = absurd f
  refused_step {r} (Err fault) e f = rw (f, ← e, not_zero r) refl
