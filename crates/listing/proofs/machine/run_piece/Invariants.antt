-- What was played so far, and that the player can take the bytes that are left, which grow fewer.
use Rattle.std.proofs.Common.{◌-◌, length}
use Rattle.listing.specs.Parts.{Able, playing}
use Rattle.listing.proofs.Pieces.{SoFar}
use Rattle.listing.proofs.machine.run_piece.Given as goal

abbrev pub invariant-loop-out : goal.invariant-loop-out
invariant-loop-out l = record {
  able : Able l.player (length l.piece - l.used);
  so_far :
      SoFar (playing l.fn.begin l.fn.attributes l.fn.registers l.fn.ports l.fn.outputs l.fn.line) l.piece l.fn.out
      (playing l.player l.attributes l.registers l.ports l.outputs l.line) l.used l.made l.out;
}

abbrev pub decreases-loop-out : goal.decreases-loop-out
decreases-loop-out l = length l.piece - l.used
