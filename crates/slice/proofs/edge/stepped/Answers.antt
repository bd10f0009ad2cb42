-- `slice::edge::stepped`: what settles is the definition's, layer by layer; so is what is shown, handed up and put back. The check finds it
-- too, but gives up at a limit where an edit is tried (docs/DECISIONS.md, 121).
use Rattle.slice.specs.Slice.{step_of, slice_outputs, slice_cascade, slice_next, slice_settled, slice_operands}
use Rattle.slice.proofs.edge.stepped.Goals as goal

pub returns : goal.returns
unfolding step_of slice_outputs slice_cascade slice_next slice_settled slice_operands
returns c = record {
  given =
      rw (
        c.handed_up-up.ensures,
        c.shown-shown.ensures,
        c.settled_from-v.ensures,
        c.summed.ensures,
        c.selected-o.ensures,
        c.mux.ensures,
        c.multiplied-t.ensures,
        c.routed-s.ensures,
        c.in_effect-k.ensures,
        c.of-r.ensures,
      );
  registers =
      rw (
        c.put_next.ensures,
        c.settled_from-v.ensures,
        c.summed.ensures,
        c.selected-o.ensures,
        c.mux.ensures,
        c.multiplied-t.ensures,
        c.routed-s.ensures,
        c.in_effect-k.ensures,
        c.of-r.ensures,
      );
}
