-- `unit::arithmetic::lanes` calls itself with one lane less each time. Assumes nothing.
use Rattle.unit.proofs.arithmetic.+lanes.Given as goal

abbrev pub decreases-lanes : goal.decreases-lanes
decreases-lanes l = l.count
