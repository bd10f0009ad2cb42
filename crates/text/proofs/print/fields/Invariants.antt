-- The fields of the numbers so far are put. Assumes nothing.
use Rattle.std.proofs.Common.{take}
use Rattle.text.specs.Printed.{fields_of, Put}
use Rattle.text.proofs.print.fields.Given as goal

abbrev pub invariant-loop-n : goal.invariant-loop-n
invariant-loop-n l = Put 0 (fields_of (take l.n-index l.numbers)) l.fn.out l.end l.out
