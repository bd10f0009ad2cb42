-- Each turn takes a byte of the piece at least.
use Rattle.std.proofs.Common.{length}
use Rattle.dspcol.proofs.Desk.play.Given as goal

abbrev pub decreases-loop-rest : goal.decreases-loop-rest
decreases-loop-rest g l = length l.rest
