-- A turn of the edge's loop: what the next slice is lent, and what holds once its stretches are back. Assumes nothing.
use mathlib.Core.Path.{◌≡◌, ◌∙◌, refl, ap}
use mathlib.Core.List.{List, ◌++◌}
use Prim.Native.Nat.{ℕ, ◌+◌, ◌*◌, ◌<◌, ◌≤◌}
use native.Mathlib.Numerals.{add-one}
use native.Mathlib.Omega.{arith}
use lib.ListN.{length, take, drop}
use Rattle.slice.specs.declared.inputs.Cascade.{Cascade}
use Rattle.records.specs.Records.{register_words, output_words}
use Rattle.column.specs.Column.{stretch, stacked, attributes_at, ports_at, cascade_into, shown_at, next_at}
use Rattle.column.specs.Parts.{Lengths, Edged}
use Rattle.column.proofs.Stacks.{stretch_length, lent, written, whole}

module _ (at rs ps : List ℕ) where
  pub next_length : (k : ℕ) → length (next_at at rs ps k) ≡ register_words
  unfolding next_at
  next_length k = refl

  pub shown_length : (k : ℕ) → length (shown_at at rs ps k) ≡ output_words
  unfolding shown_at
  shown_length k = refl

-- the first k slices have had their edge, the others have not, and x is the cascade into slice k
pub record Kept (count : ℕ) (at rs₀ ps os₀ rs os : List ℕ) (x : Cascade) (k : ℕ) : Type 0 where
  pub most : k ≤ count
  pub registers : rs ≡ stacked (next_at at rs₀ ps) k ++ drop (register_words * k) rs₀
  pub outputs : os ≡ stacked (shown_at at rs₀ ps) k ++ drop (output_words * k) os₀
  pub into : x ≡ cascade_into at rs₀ ps k
  pub long : length rs ≡ register_words * count
  pub wide : length os ≡ output_words * count

module _ (count : ℕ) (at rs₀ ps os₀ : List ℕ) (few : count ≤ 24) (right : Lengths count at rs₀ ps) (room : length os₀ ≡ output_words * count)
    (rs os : List ℕ) (x : Cascade) (k : ℕ) (kept : Kept count at rs₀ ps os₀ rs os x k) (turn : k < count) where
  pub lends : (length (stretch register_words k rs) ≡ register_words) × (length (stretch output_words k os) ≡ output_words)
  lends = (stretch_length register_words k count rs turn kept.long, stretch_length output_words k count os turn kept.wide)

  pub turned : (up : Cascade) (rs' os' : List ℕ)
      → Edged (attributes_at at k) (stretch register_words k rs) (ports_at ps k) x up rs' os'
      → Kept count at rs₀ ps os₀
      (take (register_words * k) rs ++ (rs' ++ drop register_words (drop (register_words * k) rs)))
      (take (output_words * k) os ++ (os' ++ drop output_words (drop (output_words * k) os)))
      up
      (k + 1)
  unfolding cascade_into next_at shown_at
  turned up rs' os' done =
      let next = next_at at rs₀ ps in
      let shown = shown_at at rs₀ ps in
      let same = lent next register_words (next_length at rs₀ ps) k rs₀ rs kept.registers in
      let most : k + 1 ≤ count = omega arith in
      let registers = written next register_words (next_length at rs₀ ps) k rs₀ rs kept.registers rs' (rw (same, kept.into) at done.registers) in
      let outputs = written shown output_words (shown_length at rs₀ ps) k os₀ os kept.outputs os' (rw (same, kept.into) at done.outputs) in
      record {
        most = most;
        registers = registers;
        outputs = outputs;
        into = rw add-one (rw (same, kept.into) at done.hands);
        long = ap length registers ∙ whole next register_words (next_length at rs₀ ps) (k + 1) count rs₀ most right.registers;
        wide = ap length outputs ∙ whole shown output_words (shown_length at rs₀ ps) (k + 1) count os₀ most room;
      }
