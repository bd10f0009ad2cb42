-- The line is the numbers so far, and then the fields that are due. Assumes nothing.
use Rattle.std.proofs.Common.{length}
use Rattle.text.proofs.Lines.{Reading}
use Rattle.text.proofs.fields.filled.Given as goal

abbrev pub invariant-loop-number : goal.invariant-loop-number
invariant-loop-number l = Reading l.letter l.s (length l.fn.into) l.into l.rest l.number-index
