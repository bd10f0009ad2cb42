-- No slice passed fails a check.
use Rattle.std.proofs.Common.{◌≡◌}
use Rattle.std.specs.Prelude.{None}
use Rattle.column.specs.declared.Check.{Check}
use Rattle.column.specs.Refusals.{fails, lowest}
use Rattle.column.proofs.inputs.Inputs.nothing_broken.Given as goal

abbrev pub invariant-loop-k : goal.invariant-loop-k
invariant-loop-k l = (check : Check) → lowest (fails check l.self.attributes.now l.self.registers.now l.self.ports.now) l.k ≡ None
