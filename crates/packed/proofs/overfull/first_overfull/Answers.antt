-- `packed::overfull::first_overfull`: what `find` answers is the lowest. Assumes nothing.
use Rattle.std.proofs.Common.{[], rules}
use Rattle.column.proofs.Search.{found_lowest}
use Rattle.packed.specs.Packed.{most_terms, batch}
use Rattle.packed.specs.Calls.{overfull}
use Rattle.packed.proofs.overfull.first_overfull.Goals as goal

pub returns : goal.returns
returns c =
    found_lowest (overfull (batch most_terms c.args.rows [] c.args.d.now c.args.b.now)) c.args.rows _ _ _ _ (search rules)
    c.find.ensures.ran (λ x b q k. search rules)
