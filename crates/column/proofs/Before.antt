-- Every slice reads what its neighbour showed before the edge. Assumes nothing.
use mathlib.Core.Path.{◌≡◌, refl}
use mathlib.Core.List.{List}
use Prim.Native.Nat.{ℕ, suc}
use lib.ListN.{get_or}
use Rattle.slice.specs.Slice.{cascade_of, slice_cascade}
use Rattle.slice.proofs.Registered.{registered_cascade}
use Rattle.column.specs.Column.{attributes_at, registers_at, ports_at, cascade_into, shown_at}

-- the PCIN of the slice above is the P that slice k shows in this clock, and so is the carry (02, Ask 7)
pub pcin_is_shown : (at rs ps : List ℕ) (k : ℕ) → (cascade_into at rs ps (suc k)).p ≡ get_or (shown_at at rs ps k) 0 0
unfolding cascade_into shown_at slice_cascade cascade_of
pcin_is_shown at rs ps k = refl

pub carry_is_shown : (at rs ps : List ℕ) (k : ℕ) → (cascade_into at rs ps (suc k)).carry ≡ get_or (shown_at at rs ps k) 6 0
unfolding cascade_into shown_at slice_cascade cascade_of
carry_is_shown at rs ps k = refl

-- and where slice k has PREG 1, those are its registers before the edge
pub pcin_is_register : (at rs ps : List ℕ) (k : ℕ) → (attributes_at at k).preg ≡ 1 → (cascade_into at rs ps (suc k)).p ≡ (registers_at rs k).p
unfolding cascade_into
pcin_is_register at rs ps k e = (registered_cascade (attributes_at at k) (registers_at rs k) (ports_at ps k) (cascade_into at rs ps k) e).0

pub carry_is_register : (at rs ps : List ℕ) (k : ℕ) → (attributes_at at k).preg ≡ 1 → (cascade_into at rs ps (suc k)).carry ≡ (registers_at rs k).carry
unfolding cascade_into
carry_is_register at rs ps k e = (registered_cascade (attributes_at at k) (registers_at rs k) (ports_at ps k) (cascade_into at rs ps k) e).1
