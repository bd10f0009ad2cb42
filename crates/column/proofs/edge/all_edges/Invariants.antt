-- The slices passed have had their edge, and the others are as they were.
use Rattle.column.proofs.Edges.{Kept}
use Rattle.column.proofs.edge.all_edges.Given as goal

abbrev pub invariant-loop-k : goal.invariant-loop-k
invariant-loop-k l =
    Kept l.count l.attributes l.initial.registers l.ports l.initial.outputs l.registers l.outputs l.below l.k
