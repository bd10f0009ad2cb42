-- Laws of the limit check: a word that a shift by its width leaves nothing of fits, and another is over. Assumes nothing.
use Rattle.std.proofs.Common.{◌≡◌, ℕ, ◌+◌, ◌*◌, ◌/◌, ◌^◌, ◌<◌, Bool, false, leb, List, length, get_or, refl, sym, add-one, arith, zero, suc, ◌⊎◌, inl, inr}
use Rattle.std.specs.Prelude.{None, Some}
use Rattle.records.specs.Records.{some, exceeds}
use Rattle.records.proofs.Searching.{some_true}
use Rattle.column.specs.Column.{stretch}
use Rattle.column.specs.Refusals.{lowest}
use Rattle.column.specs.Parts.{over}
use Rattle.column.proofs.Search.{lowest_at, shifted_fits, shifted_over}
use Rattle.column.proofs.Stacks.{stretch_word}

-- what a shift of word i of slice k by its width leaves
abbrev pub left : (widths words : List ℕ) → (k i : ℕ) → ℕ
left widths words k i = get_or words (length widths * k + i) 0 / 2 ^ get_or widths i 0

-- word i of slice k exceeds its width
abbrev pub exceeds_at : (widths words : List ℕ) → (k i : ℕ) → Bool
exceeds_at widths words k i = leb (2 ^ get_or widths i 0) (get_or (stretch (length widths) k words) i 0)

-- no slice passed has a word over, and this one neither
pub one_more_passes : (widths words : List ℕ) (k : ℕ) → lowest (over widths words) k ≡ None → some (exceeds_at widths words k) (length widths) ≡ false
    → lowest (over widths words) (k + 1) ≡ None
unfolding over exceeds
one_more_passes widths words k none fits = simp (add-one, none, fits)

module _ (widths words : List ℕ) (k i : ℕ) (inside : i < length widths) where
  -- no word passed exceeds its width, and this one neither
  pub one_more_fits : left widths words k i ≡ 0 → some (exceeds_at widths words k) i ≡ false → some (exceeds_at widths words k) (i + 1) ≡ false
  one_more_fits nothing so_far = simp (add-one, so_far, stretch_word (length widths) k i words inside, shifted_fits _ _ nothing)

  -- the word fits, or its slice is the lowest that has a word over
  pub first_over_here : lowest (over widths words) k ≡ None
      → (left widths words k i ≡ 0) ⊎ ((count : ℕ) → k < count → Some k ≡ lowest (over widths words) count)
  unfolding over exceeds
  first_over_here none = by (left widths words k i) refl
    where
      by : (x : ℕ) → left widths words k i ≡ x → (left widths words k i ≡ 0) ⊎ ((count : ℕ) → k < count → Some k ≡ lowest (over widths words) count)
      by zero e = inl e
      by (suc x) e =
          let more : left widths words k i ≡ 0 → ⊥ = λ z. omega arith in
          inr
          (λ count below. sym
          (lowest_at _ count k below none (some_true _ _ i inside (rw (stretch_word _ _ _ _ inside) (shifted_over _ _ more)))))
