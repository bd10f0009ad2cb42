-- What a slice is fed in a clock: term k of row j in clock j + k, and zeros with no row due. Assumes nothing.
use mathlib.Core.Path.{◌≡◌}
use mathlib.Core.List.{List}
use Prim.Native.Nat.{ℕ, ◌+◌, ◌-◌, ◌*◌, ◌≤◌, ◌<◌}
use native.Mathlib.Nat.{add-sub_cancel}
use native.Mathlib.Omega.{arith}
use lib.ListN.{get_or}
use lib.IntN.{ℤ, pos}
use borrow.Author.Tests.{le-leb, lt-leb, lt-ltb, le-ltb}
use Rattle.records.specs.declared.Ports.{Ports}
use Rattle.packed.specs.Packed.{Batch, Byte, ports_for, fed}
use Rattle.packed.specs.Parts.{SliceFed}

module _ (g : Batch) (xs : List ℤ) (t k : ℕ) where
  pub fed_early : t < k → fed g xs t k ≡ pos 0
  unfolding fed
  fed_early h = rw (lt-leb k t h)

  pub fed_late : k ≤ t → g.rows ≤ t - k → fed g xs t k ≡ pos 0
  unfolding fed
  fed_late h late = rw (le-leb k t h, le-ltb (t - k) g.rows late)

  pub fed_due : k ≤ t → t - k < g.rows → fed g xs t k ≡ get_or xs ((t - k) * g.terms + k) (pos 0)
  unfolding fed
  fed_due h due = rw (le-leb k t h, lt-ltb (t - k) g.rows due)

pub fed_term : (g : Batch) (xs : List ℤ) (j k : ℕ) → j < g.rows → fed g xs (j + k) k ≡ get_or xs (j * g.terms + k) (pos 0)
fed_term g xs j k h = rw (add-sub_cancel j k) at (fed_due g xs (j + k) k (omega arith) (rw (add-sub_cancel j k) h))

-- the ports for the share x of each array, where that is what slice k is fed
pub slice_fed : (g : Batch) (t k : ℕ) (x : List ℤ → ℤ) (r : Ports) → ((xs : List ℤ) → fed g xs t k ≡ x xs)
    → Byte (x g.a) × Byte (x g.d) × Byte (x g.b) → r ≡ ports_for (x g.a) (x g.d) (x g.b) → SliceFed g t k r
slice_fed g t k x r same bytes e =
    record { ports = rw (same g.a, same g.d, same g.b) e; bytes = rw (same g.a, same g.d, same g.b) bytes }
