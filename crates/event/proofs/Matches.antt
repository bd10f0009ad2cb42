-- What is shown of an event. Assumes nothing.
use mathlib.Core.Path.{◌≡◌, refl}
use mathlib.Core.Logic.{⊎_elim}
use mathlib.Core.Bool.{Bool, true, false}
use mathlib.Core.List.{List, [], ◌∷◌}
use Prim.Native.Nat.{ℕ, ◌+◌, ◌*◌, ◌-◌, ◌^◌, ◌<◌, ◌≤◌, min}
use borrow.Author.Tests.{ltb-true, ltb-false}
use native.Mathlib.Omega.{arith}
use lib.Dec.{eqb, ltb}
use lib.ListN.{length, get_or, get_or-eq_default}
use types.Run.{OneOf}
use denote.Enum.Declared.{tag_of}
use Rattle.records.specs.Records.{output_words}
use Rattle.column.proofs.Stacks.{stretch_word}
use Rattle.event.specs.declared.Event.{Event}
use Rattle.event.specs.declared.Event.TheVariants.{Nothing, Clocked, Matched, Refused, Ended}
use Rattle.event.specs.Showing.{detects, matched}
use Rattle.event.specs.contracts.Event.{the_type}

-- PATTERNDETECT is a slice's second output
module _ (k : ℕ) (os : List ℕ) where
  pub detects_by_word : detects k os ≡ eqb (get_or os (output_words * k + 1) 0) 1
  unfolding detects
  detects_by_word = rw (stretch_word output_words k 1 os (omega arith))

  -- and a place that would wrap lies beyond what can be lent, as the word's own place does
  pub detects_at : (place : ℕ) → place ≡ min (min (k * output_words) (2 ^ 64 - 1) + 1) (2 ^ 64 - 1) → length os < 2 ^ 64
      → eqb (get_or os place 0) 1 ≡ detects k os
  detects_at place e h = go (ltb place (length os)) refl
    where
      go : (t : Bool) → ltb place (length os) ≡ t → eqb (get_or os place 0) 1 ≡ detects k os
      go true l =
          let within : place < length os = ltb-true place (length os) l in
          let same : place ≡ output_words * k + 1 = omega arith in
          rw (detects_by_word, same)
      go false l =
          let beyond : length os ≤ place = ltb-false place (length os) l in
          let there : length os ≤ output_words * k + 1 = omega arith in
          rw (detects_by_word, get_or-eq_default os 0 {n = place} beyond, get_or-eq_default os 0 {n = output_words * k + 1} there)

-- an event of another variant than a clock is shown as it is
pub unmatched : (k : ℕ) (e : Event) (os : List ℕ) → OneOf (0 ∷ 2 ∷ 3 ∷ 4 ∷ []) (tag_of the_type e) → matched k e os ≡ e
unmatched k Nothing os h = refl
unmatched k (Clocked clock) os h = absurd (other h)
  where
    other : OneOf (0 ∷ 2 ∷ 3 ∷ 4 ∷ []) (tag_of the_type (Clocked clock)) → ⊥
    other = ⊎_elim (λ e. omega arith) (λ l. ⊎_elim (λ e. omega arith) (λ l. ⊎_elim (λ e. omega arith) (λ e. omega arith) l) l)
unmatched k (Matched clock) os h = refl
unmatched k (Refused number clocks place) os h = refl
unmatched k (Ended clocks) os h = refl
