-- No answer of the column's `clear` has a place above 23. Assumes nothing.
use Rattle.column.proofs.Answers.{clear_place}
use Rattle.dsp48e2.proofs.dsp_clear.Goals as goal

pub word_of-requires : goal.word_of-requires
word_of-requires c = rw c.clear.ensures.answer (clear_place _ _)
