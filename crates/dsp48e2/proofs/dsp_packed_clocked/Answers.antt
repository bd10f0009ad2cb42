-- No clocked run has a place outside its rows. Assumes nothing.
use Rattle.dsp48e2.proofs.Runs.{clocked_place}
use Rattle.dsp48e2.proofs.dsp_packed_clocked.Goals as goal

pub run_word-requires : goal.run_word-requires
run_word-requires c = rw c.packed_clocked.ensures.run (clocked_place _ _ _)
