-- `packed::batch::Checked::stepped`: as many clocks are stepped as are counted, and the list holds the top P of each. Assumes nothing.
use Rattle.std.proofs.Common.{◌≡◌, length}
use Rattle.packed.proofs.Stepping.{Going}
use Rattle.packed.proofs.batch.Checked.stepped.Given as goal

abbrev pub invariant-loop-word : goal.invariant-loop-word
invariant-loop-word l = record {
  count : l.clocks ≡ l.word-index;
  ports : length l.ports ≡ l.self.terms;
  going : Going l.self l.word-index l.attributes l.registers l.outputs l.list;
}
