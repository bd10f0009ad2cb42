-- With PREG 1, P, the flags and the carry that a slice shows depend on its registers before the edge alone. Assumes nothing.
use mathlib.Core.Path.{◌≡◌}
use Prim.Native.Nat.{ℕ}
use Rattle.records.specs.declared.Attributes.{Attributes}
use Rattle.records.specs.declared.Registers.{Registers}
use Rattle.records.specs.declared.Ports.{Ports}
use Rattle.records.specs.declared.Outputs.{Outputs}
use Rattle.slice.specs.declared.inputs.Cascade.{Cascade}
use Rattle.slice.specs.Slice.{strayed, slice_settled, outputs_of_settled, cascade_of, slice_outputs, slice_cascade}

-- the registers' own P, PD, PBD and carry, and the flags that they light; the pre-adder's mark is no register's
abbrev pub registered : Registers → (wrap : ℕ) → Outputs
registered r wrap =
    record {
      p = r.p;
      patterndetect = r.pd;
      patternbdetect = r.pbd;
      overflow = strayed r.pdpast r.pd r.pbd;
      underflow = strayed r.pbdpast r.pd r.pbd;
      preaddwrap = wrap;
      carry = r.carry;
    }

pub registered_outputs : (a : Attributes) (r : Registers) (p : Ports) (x : Cascade) → a.preg ≡ 1
    → slice_outputs a r p x ≡ registered r (slice_settled a r p x).wrap
unfolding slice_outputs outputs_of_settled
registered_outputs a r p x e = rw e

pub registered_cascade : (a : Attributes) (r : Registers) (p : Ports) (x : Cascade) → a.preg ≡ 1
    → ((slice_cascade a r p x).p ≡ r.p) × ((slice_cascade a r p x).carry ≡ r.carry)
unfolding slice_cascade cascade_of slice_outputs outputs_of_settled
registered_cascade a r p x e = (rw e, rw e)
