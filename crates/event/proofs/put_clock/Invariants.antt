-- After `k` slices their lines are printed, one after the other, and the chunks that are left are those from `k` on.
use Rattle.std.proofs.Common.{◌≡◌, ◌+◌, ◌*◌, drop}
use Rattle.records.specs.Records.{output_words}
use Rattle.text.specs.Printed.{Put}
use Rattle.event.specs.Lines.{output_line, listed, printed_lines}
use Rattle.event.proofs.put_clock.Given as goal

abbrev pub invariant-loop-k : goal.invariant-loop-k
invariant-loop-k l = record {
  here : Put l.fn.at (printed_lines (listed (output_line l.fn.clock l.fn.outputs) l.k-iterator.count)) l.fn.out l.end l.out;
  left : l.k-iterator.iter.n + l.k-iterator.count ≡ l.fn.count;
  rest : l.k-iterator.iter.iter.rest.now ≡ drop (output_words * l.k-iterator.count) l.fn.outputs;
  size : l.k-iterator.iter.iter.size ≡ output_words;
}
