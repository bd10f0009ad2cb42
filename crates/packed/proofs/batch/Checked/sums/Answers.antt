-- `packed::batch::Checked::sums`: a row's terms are within the arrays, and one row more has its sums. Assumes nothing.
use Rattle.std.proofs.Common.{refl}
use Rattle.packed.proofs.Fill.{none_answered, one_answered}
use Rattle.packed.proofs.batch.Checked.sums.Goals as goal

pub loop-j-init : goal.loop-j-init
loop-j-init c = none_answered _ _ _ _ c.requires

pub loop-j-preserved : goal.loop-j-preserved
loop-j-preserved c =
    rw (c.put_sums.ensures, ← c.self.view_is) (one_answered _ _ _ _ _ _ _ c.loop-j-test.true (rw (← c.self.view_is) at c.loop-j.invariant) refl refl)
