-- What is copied are the bytes before a newline, as far as the line has room.
use Rattle.std.proofs.Common.{◌∙◌, ap}
use Rattle.std.specs.Option.{unwrap_or}
use Rattle.listing.proofs.Gathering.{joined_at_once}
use Rattle.listing.proofs.machine.gathered.Goals as goal

pub returns : goal.returns
returns c =
    joined_at_once c.args.piece.now c.args.from c.args.held c.args.line.now c.requires.0 c.requires.1 c.told-line _ c.min-most.ensures _
    (c.unwrap_or-n.ensures ∙ ap (λ f. unwrap_or f c.min-most.result) c.newline_in.ensures) _ c.copy_from_slice.ensures.after
