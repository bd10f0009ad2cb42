-- `packed::batch::Checked::read_answers`: the rows passed have what is read off their words. Assumes nothing.
use Rattle.word.specs.Word.{high_sum, low_sum}
use Rattle.packed.specs.Packed.{row_word}
use Rattle.packed.proofs.Fill.{Answered}
use Rattle.packed.proofs.batch.Checked.read_answers.Given as goal

abbrev pub invariant-loop-j : goal.invariant-loop-j
invariant-loop-j l =
    Answered (λ j. high_sum (row_word l.self.terms l.list j)) (λ j. low_sum (row_word l.self.terms l.list j)) l.self.rows l.j l.answers
