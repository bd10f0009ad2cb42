-- `opmode_fine` meets its contract: the tables are the rule.
use Rattle.std.proofs.Common.{refl}
use Rattle.slice.specs.Slice.{selects_of}
use Rattle.legal.specs.Legal.{bad_opmode}
use Rattle.legal.proofs.Tables.{opmode_table}
use Rattle.legal.proofs.quick.opmode_fine.Goals as goal

pub returns : goal.returns
unfolding bad_opmode selects_of
returns c = λ h g l. rw (c.marked.ensures, c.marked-2.ensures) (opmode_table _ _ refl c.args.a c.args.opmode h g l)
