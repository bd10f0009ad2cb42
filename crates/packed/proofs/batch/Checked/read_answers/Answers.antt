-- `packed::batch::Checked::read_answers`: one row more is read off its word. Assumes nothing.
use Rattle.std.proofs.Common.{◌∙◌, w32}
use Rattle.packed.proofs.Sizes.{kept}
use Rattle.packed.proofs.Fill.{none_answered, one_answered}
use Rattle.packed.proofs.batch.Checked.read_answers.Goals as goal

pub loop-j-init : goal.loop-j-init
loop-j-init c = none_answered _ _ _ _ c.requires.1

pub loop-j-preserved : goal.loop-j-preserved
loop-j-preserved c =
    rw (c.put_row.ensures, ← c.self.view_is)
    (one_answered _ _ _ _ _ _ _ c.loop-j-test.true (rw (← c.self.view_is) at c.loop-j.invariant)
    (kept w32 c.high_sum.result c.high_sum.type_inv ∙ c.high_sum.ensures)
    (kept w32 c.low_sum.result c.low_sum.type_inv ∙ c.low_sum.ensures))
