-- `packed::batch::Checked::fill_ports`: the slices passed have their ports, of bytes. Assumes nothing.
use Rattle.std.proofs.Common.{◌≡◌, ℕ, ◌<◌, [], get_or}
use Rattle.records.specs.Records.{ports_words}
use Rattle.packed.specs.Packed.{slice_ports}
use Rattle.packed.specs.Parts.{FedBytes}
use Rattle.packed.proofs.batch.Checked.fill_ports.Given as goal

abbrev pub invariant-loop-k : goal.invariant-loop-k
invariant-loop-k l = record {
  ports : (i : ℕ) → i < l.k → get_or l.ports i [] ≡ ports_words (slice_ports l.self l.t i);
  bytes : (i : ℕ) → i < l.k → FedBytes l.self l.t i;
}
