-- What the parts of the code promise one another; no caller needs it. Assumes nothing.
use Rattle.std.specs.Prelude.{ℕ, ◌+◌, ◌*◌, ◌≤◌, ◌≡◌, Bool, true, cond, ◌&&◌, List, [], ◌∷◌, T, ltb, leb, length, Option, None, Some, Err}
use Rattle.lent.specs.Refusing.{unless}
use Rattle.records.specs.declared.Attributes.{Attributes}
use Rattle.records.specs.declared.Ports.{Ports}
use Rattle.records.specs.Records.{attribute_words, register_words, port_words, exceeds, registers_of, registers_words, outputs_words}
use Rattle.slice.specs.declared.inputs.Cascade.{Cascade}
use Rattle.slice.specs.Slice.{slice_outputs, slice_cascade, slice_next}
use Rattle.legal.specs.declared.rules.Rule.{Rule}
use Rattle.legal.specs.Legal.{off_list, breaks}
use Rattle.column.specs.declared.Refusal.TheVariants.{BadCount, BadLength, BadSlice}
use Rattle.column.specs.Column.{stretch, attributes_at, registers_at, ports_at, column_shown, column_next}
use Rattle.column.specs.Refusals.{Answer, accepted, count_fits, inputs_fit}

-- the lent words of n slices have their lengths
pub record Lengths (n : ℕ) (at rs ps : List ℕ) : Type 0 where
  pub attributes : length at ≡ attribute_words * n
  pub registers : length rs ≡ register_words * n
  pub ports : length ps ≡ port_words * n

-- the lent words reach to the end of slice k's
pub record Reaches (k : ℕ) (at rs ps : List ℕ) : Type 0 where
  pub attributes : attribute_words * k + attribute_words ≤ length at
  pub registers : register_words * k + register_words ≤ length rs
  pub ports : port_words * k + port_words ≤ length ps

-- 1 and 2 of what a clock and `why` are lent alike
abbrev pub inputs_answer : (count : ℕ) → (at rs ps : List ℕ) → Answer
inputs_answer count at rs ps = unless (count_fits count) (Err BadCount) (unless (inputs_fit count at rs ps) (Err BadLength) accepted)

-- the checks of `why` that come before 3 to 9
unfoldable pub asked_answer : (count : ℕ) → (at rs ps : List ℕ) → (k : ℕ) → Answer
asked_answer count at rs ps k =
    unless (count_fits count) (Err BadCount) (unless (inputs_fit count at rs ps) (Err BadLength) (unless (ltb k count) (Err BadSlice) accepted))

-- ---- the limit check

-- each entry is below the limit: a test that antt computes over a whole table
abbrev pub each_below : (limit : ℕ) → List ℕ → Bool
each_below limit [] = true
each_below limit (x ∷ xs) = ltb x limit && each_below limit xs

-- a table of widths that a shift takes, and as many words for each slice
pub record Table (widths words : List ℕ) (count : ℕ) : Type 0 where
  pub narrow : T (each_below 64 widths)
  pub long : length words ≡ length widths * count

-- a word of slice k exceeds its width
unfoldable pub over : (widths words : List ℕ) → (k : ℕ) → Bool
over widths words k = exceeds widths (stretch (length widths) k words)

abbrev pub earlier_of : Option ℕ → Option ℕ → Option ℕ
earlier_of None g = g
earlier_of (Some i) None = Some i
earlier_of (Some i) (Some j) = cond (leb i j) (Some i) (Some j)

-- ---- the settings of slice k

unfoldable pub off_list_at : (at : List ℕ) → (k : ℕ) → Bool
off_list_at at k = off_list (attributes_at at k)

unfoldable pub breaks_at : Rule → (at rs ps : List ℕ) → (k : ℕ) → Bool
breaks_at rule at rs ps k = breaks rule (attributes_at at k) (registers_at rs k) (ports_at ps k)

-- ---- the edge

-- a slice's edge leaves its own words so, and hands this up
pub record Edged (a : Attributes) (rs : List ℕ) (p : Ports) (x up : Cascade) (rs' os' : List ℕ) : Type 0 where
  pub hands : up ≡ slice_cascade a (registers_of rs) p x
  pub registers : rs' ≡ registers_words (slice_next a (registers_of rs) p x)
  pub outputs : os' ≡ outputs_words (slice_outputs a (registers_of rs) p x)

-- the edge of every slice leaves the lent words so
pub record AllEdged (count : ℕ) (at rs ps rs' os' : List ℕ) : Type 0 where
  pub registers : rs' ≡ column_next count at rs ps
  pub outputs : os' ≡ column_shown count at rs ps
