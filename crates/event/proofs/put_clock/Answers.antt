-- `put_clock` meets its contract: a line for each slice, from slice 0 up.
use Rattle.std.proofs.Common.{arith, ◌∙◌}
use Rattle.event.proofs.Printing.{chunk_first, chunks_end, one_line, all_slices}
use Rattle.event.proofs.put_clock.Goals as goal

pub loop-k-preserved : goal.loop-k-preserved
loop-k-preserved c =
    let a = c.args in
    let l = c.loop-k in
    let step = c.in-Some.ensures.steps in
    let chunk = chunk_first l.k-iterator.count a.outputs.now l.k-iterator.iter.iter.rest.now c.in-Some.shown.now c.next.new.self.iter.iter.rest.now
    l.invariant.rest step.0.0.1.0 (step.0.0.1.1 ∙ l.invariant.size) in
    record {
      here =
          rw step.2
          (one_line a.clock a.count a.at l.k-iterator.count l.end a.outputs.now a.out.now l.out l.invariant.here c.requires.1
          (omega arith) (omega arith) _ chunk.0 _ _ (rw step.1 at c.put_line-end.ensures));
      left = omega arith;
      rest = rw step.2 chunk.1;
      size = step.0.0.0 ∙ l.invariant.size;
    }

pub returns : goal.returns
returns c =
    let a = c.args in
    let l = c.loop-k in
    let all = chunks_end l.k-iterator.iter.n l.k-iterator.count a.count l.k-iterator.iter.iter.size a.outputs.now l.k-iterator.iter.iter.rest.now
    l.invariant.left l.invariant.rest l.invariant.size c.requires.0 (λ h. (c.in-None.ensures.steps.0 h).1.0) in
    all_slices a.clock a.count a.at l.k-iterator.count l.end a.outputs.now a.out.now l.out l.invariant.here all
