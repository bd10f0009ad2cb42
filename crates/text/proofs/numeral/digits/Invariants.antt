-- What is left gives, from the number so far, what the whole gives. Assumes nothing.
use Rattle.std.proofs.Common.{◌≡◌}
use Rattle.text.specs.Within.{digits_at}
use Rattle.text.proofs.numeral.digits.Given as goal

abbrev pub invariant-loop-end : goal.invariant-loop-end
invariant-loop-end l = digits_at l.v l.s l.end ≡ digits_at 0 l.s 0
