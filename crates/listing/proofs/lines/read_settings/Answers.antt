-- The second reading is over the zeros of the first.
use Rattle.listing.proofs.SettingsLine.{all_read, some_read}
use Rattle.listing.proofs.lines.read_settings.Goals as goal

pub returns-then-line : goal.returns-then-line
returns-then-line c = all_read c.args.line.now c.args.into.now c.requires c.line.ensures c.if-line.true

pub returns : goal.returns
returns c = some_read c.args.line.now c.args.into.now c.requires c.line.ensures c.if-line.false c.line-2.ensures
