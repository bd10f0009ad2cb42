-- `packed::batch::Checked::sums`: the rows passed have their two dot products. Assumes nothing.
use Rattle.packed.specs.Packed.{high_dot, low_dot}
use Rattle.packed.proofs.Fill.{Answered}
use Rattle.packed.proofs.batch.Checked.sums.Given as goal

abbrev pub invariant-loop-j : goal.invariant-loop-j
invariant-loop-j l =
    Answered (high_dot l.self) (low_dot l.self) l.self.rows l.j l.answers
