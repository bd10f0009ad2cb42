-- What `off_list` says is about the slice's own stretch.
use Rattle.std.proofs.Common.{rules}
use Rattle.column.specs.Parts.{off_list_at}
use Rattle.column.proofs.Search.{found_lowest}
use Rattle.column.proofs.refusals.first_off_list.Goals as goal

pub returns : goal.returns
unfolding off_list_at
returns c = found_lowest (off_list_at c.args.attributes.now) c.args.count _ _ _ _ (search rules) c.find.ensures.ran (λ x b q k. search rules)
