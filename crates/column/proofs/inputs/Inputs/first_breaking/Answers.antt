-- What `breaks` says is about the slice's own stretches.
use Rattle.std.proofs.Common.{rules}
use Rattle.column.specs.Parts.{breaks_at}
use Rattle.column.proofs.Search.{found_lowest}
use Rattle.column.proofs.inputs.Inputs.first_breaking.Goals as goal

pub returns : goal.returns
unfolding breaks_at
returns c =
    found_lowest (breaks_at c.args.rule c.args.self.now.attributes.now c.args.self.now.registers.now c.args.self.now.ports.now) c.args.self.now.count _ _ _ _ (search rules)
    c.find.ensures.ran (λ x b q k. search rules)
