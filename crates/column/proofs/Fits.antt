-- Words stay within their widths: the registers after every accepted clock, the cascade on the way, and a cleared column's registers.
-- Assumes nothing.
use mathlib.Core.Path.{◌≡◌, sym}
use mathlib.Core.Bool.{false}
use mathlib.Core.List.{List}
use Prim.Native.Nat.{ℕ, zero, suc, ◌*◌, ◌<◌}
use native.Mathlib.Nat.{le_of_lt}
use lib.Dec.{lit<}
use lib.ListN.{replicate, length-replicate}
use Rattle.records.specs.Records.{register_words, port_words, register_widths, port_widths, exceeds, registers_words, ports_words}
use Rattle.records.proofs.Fits.{Fit, none, more, fit_within, zeros_fit, registers_fit, ports_fit}
use Rattle.slice.proofs.Widths.{CascadeFit, cascade_fit, next_fit}
use Rattle.column.specs.declared.Check.TheVariants.{Register, Port}
use Rattle.column.specs.Column.{stretch, registers_at, ports_at, cascade_into, next_at, column_next}
use Rattle.column.specs.Refusals.{accepted, broken, fails, settings, clock_answer}
use Rattle.column.specs.Calls.{Clocked}
use Rattle.column.proofs.Search.{lowest_none}
use Rattle.column.proofs.Stacks.{stretch_stacked, stacked_zeros}
use Rattle.column.proofs.Edges.{next_length}
use Rattle.column.proofs.Answers.{accepted_none, accepted_settings, accepted_leaves}

-- ---- an accepted clock

module _ (count : ℕ) (at rs ps : List ℕ) (passed : settings count at rs ps ≡ accepted) where
  -- slice k's registers and ports are within their widths
  registers_within : (k : ℕ) → k < count → Fit register_widths (registers_words (registers_at rs k))
  unfolding fails broken
  registers_within k h =
      registers_fit (stretch register_words k rs) (lowest_none (fails Register at rs ps) count k (accepted_none count at rs ps passed Register) h)

  ports_within : (k : ℕ) → k < count → Fit port_widths (ports_words (ports_at ps k))
  unfolding fails broken
  ports_within k h =
      ports_fit (stretch port_words k ps) (lowest_none (fails Port at rs ps) count k (accepted_none count at rs ps passed Port) h)

  -- so is the cascade into it
  pub into_within : (k : ℕ) → k < count → CascadeFit (cascade_into at rs ps k)
  unfolding cascade_into
  into_within zero h = more (lit< tt) (more (lit< tt) (more (lit< tt) (more (lit< tt) none)))
  into_within (suc k) h =
      cascade_fit _ (registers_within k (le_of_lt h)) (ports_within k (le_of_lt h)) (into_within k (le_of_lt h))

  -- and so are its registers after the edge
  pub next_within : (k : ℕ) → k < count → Fit register_widths (next_at at rs ps k)
  unfolding next_at
  next_within k h = next_fit _ (registers_within k h) (ports_within k h) (into_within k h)

  pub column_within : (k : ℕ) → k < count → exceeds register_widths (stretch register_words k (column_next count at rs ps)) ≡ false
  unfolding column_next
  column_within k h =
      rw (stretch_stacked (next_at at rs ps) register_words (next_length at rs ps) k count h) (fit_within (next_within k h))

-- so they are after every clock that is accepted
pub clock_within : (count : ℕ) (at rs ps os : List ℕ) → clock_answer count at rs ps os ≡ accepted
    → (k : ℕ) → k < count → exceeds register_widths (stretch register_words k (column_next count at rs ps)) ≡ false
clock_within count at rs ps os p = column_within count at rs ps (accepted_settings count at rs ps os p)

-- and so are the registers that such a call of `clock` leaves: after every accepted clock every register is within its width
pub accepted_within : {count : ℕ} {at rs ps os rs' os' : List ℕ} → Clocked count at rs ps os accepted rs' os'
    → (k : ℕ) → k < count → exceeds register_widths (stretch register_words k rs') ≡ false
accepted_within {count} {at} {rs} {ps} {os} c k h =
    rw (accepted_leaves c).0 (clock_within count at rs ps os (sym c.answer) k h)

-- ---- a cleared column

-- each slice of a cleared column holds zeros
pub cleared_stretch : (n k count : ℕ) → k < count → stretch n k (replicate (n * count) 0) ≡ replicate n 0
cleared_stretch n k count h =
    rw (← stacked_zeros n count) (stretch_stacked (λ k. replicate n 0) n (λ k. length-replicate n 0) k count h)

pub cleared_within : (k count : ℕ) → k < count → exceeds register_widths (stretch register_words k (replicate (register_words * count) 0)) ≡ false
cleared_within k count h = rw (cleared_stretch register_words k count h) (fit_within (zeros_fit register_widths))
