-- A turn lends the next slice its own stretches, and takes them back.
use Rattle.std.proofs.Common.{◌≡◌, arith}
use Rattle.records.specs.Records.{register_words, output_words}
use Rattle.column.specs.Column.{column_shown, column_next}
use Rattle.column.proofs.Stacks.{part_count, finished}
use Rattle.column.proofs.Edges.{next_length, shown_length, turned}
use Rattle.column.proofs.edge.all_edges.Goals as goal

pub loop-k-preserved : goal.loop-k-preserved
loop-k-preserved c =
    let done = rw (c.record_at.ensures, c.record_at-in-loop-k.ensures) at (simp part_count at c.one_edge-below.ensures) in
    simp part_count
    (turned _ _ _ _ _ c.requires.0 c.requires.1 c.requires.2 _ _ _ _ c.loop-k.invariant c.loop-k-test.true _ _ _ done)

pub returns : goal.returns
unfolding column_shown column_next
returns c =
    let e : c.loop-k.k ≡ c.args.count = omega arith in
    record {
      registers = rw (c.loop-k.invariant.registers, e) (finished _ register_words (next_length _ _ _) _ _ c.requires.1.registers);
      outputs = rw (c.loop-k.invariant.outputs, e) (finished _ output_words (shown_length _ _ _) _ _ c.requires.2);
    }
