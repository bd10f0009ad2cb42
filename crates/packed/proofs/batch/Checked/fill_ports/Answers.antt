-- `packed::batch::Checked::fill_ports`: after the loop every slice has its ports. Assumes nothing.
use Rattle.std.proofs.Common.{arith}
use Rattle.packed.specs.Packed.{run_ports}
use Rattle.packed.proofs.Fill.{flattened}
use Rattle.packed.proofs.batch.Checked.fill_ports.Goals as goal

pub returns : goal.returns
unfolding run_ports
returns c =
    record {
      ports = flattened _ _ c.args.self.now.terms (omega arith) (λ k h. c.loop-k.invariant.ports k (omega arith));
      bytes = λ k h. c.loop-k.invariant.bytes k (omega arith);
    }
