-- What `why` tells is true (02, Ask 3), for every column that a clock accepts and every slice of it. Assumes nothing.
use Prim.Native.Nat.{ℕ, ◌*◌, ◌<◌}
use mathlib.Core.Path.{◌≡◌, refl, ◌∙◌}
use mathlib.Core.Bool.{Bool, true, false, ◌&&◌}
use mathlib.Core.List.{List}
use lib.ListN.{length, get_or}
use borrow.Author.Tests.{eq-eqb, lt-ltb}
use Rattle.std.specs.Prelude.{Ok, Err}
use Rattle.lent.specs.Refusing.{unless}
use Rattle.unit.specs.Choice.{bit}
use Rattle.records.specs.Records.{register_words, output_words}
use Rattle.slice.specs.Slice.{slice_settled}
use Rattle.reason.specs.declared.Reason.{Reason}
use Rattle.reason.specs.Reason.{applied}
use Rattle.reason.proofs.Truth.{Placed, places_true, result_settles, result_by_rule, result_shows, result_loads}
use Rattle.column.specs.declared.Refusal.TheVariants.{BadCount, BadLength}
use Rattle.column.specs.Column.{stretch, attributes_at, registers_at, ports_at, cascade_into, shown_at, next_at, column_shown, column_next}
use Rattle.column.specs.Refusals.{accepted, settings, count_fits, inputs_fit, clock_answer, why_answer}
use Rattle.column.specs.Calls.{reason_at, why_of}
use Rattle.column.proofs.Stacks.{stretch_stacked}
use Rattle.column.proofs.Edges.{next_length, shown_length}
use Rattle.column.proofs.Answers.{lengths_parts, accepted_ready, why_tells}

-- of a slice of the column `why` answers as a clock does, by number and place, where the clock's outputs have their length
pub why_as_clock : (count : ℕ) (at rs ps os : List ℕ) (k : ℕ) → length os ≡ output_words * count → k < count
    → why_answer count at rs ps k ≡ clock_answer count at rs ps os
unfolding why_answer clock_answer
why_as_clock count at rs ps os k e h =
    rw (lengths_parts count at rs ps os, eq-eqb (length os) (output_words * count) e, lt-ltb k count h) (by (inputs_fit count at rs ps))
  where
    by : (b : Bool) → unless (count_fits count) (Err BadCount) (unless b (Err BadLength) (settings count at rs ps))
        ≡ unless (count_fits count) (Err BadCount) (unless (b && true) (Err BadLength) (settings count at rs ps))
    by true = refl
    by false = refl

-- the reason v of what settles in slice k
pub record Truth (count : ℕ) (at rs ps : List ℕ) (k : ℕ) (v : Reason) : Type 0 where
  -- each value is the one that its place holds in this clock
  pub placed : Placed (attributes_at at k) (registers_at rs k) (ports_at ps k) (cascade_into at rs ps k) v
  -- the rule applied to the values, in its lanes, is the unit's result
  pub by_rule : applied v.rule v.lanes v.values ≡ v.result
  -- which settles for P in this clock
  pub settles : v.result ≡ (slice_settled (attributes_at at k) (registers_at rs k) (ports_at ps k) (cascade_into at rs ps k)).p
  -- with PREG 0 it is the P that the clock shows
  pub shows : (attributes_at at k).preg ≡ 0 → get_or (stretch output_words k (column_shown count at rs ps)) 0 0 ≡ v.result
  -- with CE P set and RST P not, it is register P after the edge
  pub loads : bit (ports_at ps k).ce 8 ≡ 1 → bit (ports_at ps k).rst 5 ≡ 0 → (registers_at (column_next count at rs ps) k).p ≡ v.result

module _ (count : ℕ) (at rs ps : List ℕ) (k : ℕ) (below : k < count) where
  reason_true : Truth count at rs ps k (reason_at at rs ps k)
  unfolding reason_at column_shown column_next shown_at next_at
  reason_true =
      let a = attributes_at at k in
      let r = registers_at rs k in
      let p = ports_at ps k in
      let x = cascade_into at rs ps k in
      record {
        placed = places_true a r p x;
        by_rule = result_by_rule a r p x;
        settles = result_settles a r p x;
        shows = λ e. rw (stretch_stacked (shown_at at rs ps) output_words (shown_length at rs ps) k count below) (result_shows a r p x e);
        loads = λ c d. rw (stretch_stacked (next_at at rs ps) register_words (next_length at rs ps) k count below) (result_loads a r p x c d);
      }

  pub why_true : (os : List ℕ) → clock_answer count at rs ps os ≡ accepted
      → (v : Reason) × (why_of count at rs ps k ≡ Ok v) × Truth count at rs ps k v
  why_true os passed =
      let same = why_as_clock count at rs ps os k (accepted_ready count at rs ps os passed).outputs below ∙ passed in
      (reason_at at rs ps k, why_tells count at rs ps k same, reason_true)
