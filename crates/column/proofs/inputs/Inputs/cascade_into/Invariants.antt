-- What the slices passed hand up.
use Rattle.std.proofs.Common.{◌≡◌}
use Rattle.column.specs.Column.{cascade_into}
use Rattle.column.proofs.inputs.Inputs.cascade_into.Given as goal

abbrev pub invariant-loop-j : goal.invariant-loop-j
invariant-loop-j l = l.below ≡ cascade_into l.self.attributes.now l.self.registers.now l.self.ports.now l.j
