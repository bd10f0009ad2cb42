-- `packed::batch::Checked::put_sums`: what is left of the row in each iterator, and both sums of the products passed. Assumes nothing.
use Rattle.std.proofs.Common.{◌*◌, length}
use Rattle.packed.proofs.Dots.{Summed}
use Rattle.packed.proofs.Zipped.{Left}
use Rattle.packed.proofs.batch.Checked.put_sums.Given as goal

abbrev pub invariant-loop-a : goal.invariant-loop-a
invariant-loop-a l = let g = l.self in let s = l.j * g.terms in let k = length l.yielded in record {
  a : Left g.a s g.terms k l.a-iterator.a.a.rest.now;
  d : Left g.d s g.terms k l.a-iterator.a.b.rest.now;
  b : Left g.b s g.terms k l.a-iterator.b.rest.now;
  high : Summed g.a g.b s k l.high;
  low : Summed g.d g.b s k l.low;
}
