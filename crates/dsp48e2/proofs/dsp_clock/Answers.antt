-- No answer of the column's `clock` has a place above 23. Assumes nothing.
use Rattle.column.proofs.Answers.{clock_place}
use Rattle.dsp48e2.proofs.dsp_clock.Goals as goal

pub word_of-requires : goal.word_of-requires
word_of-requires c = rw c.clock.ensures.answer (clock_place _ _ _ _ _)
