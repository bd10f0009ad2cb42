-- No plain run has a place outside its rows. Assumes nothing.
use Rattle.dsp48e2.proofs.Runs.{plain_place}
use Rattle.dsp48e2.proofs.dsp_packed_plain.Goals as goal

pub run_word-requires : goal.run_word-requires
run_word-requires c = rw c.packed_plain.ensures.run (plain_place _ _)
