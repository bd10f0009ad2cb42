-- Stretch after stretch, and the byte that ends each.
use Rattle.std.proofs.Common.{◌≡◌, ◌*◌, ◌<◌, length, arith}
use Rattle.records.specs.Records.{output_words}
use Rattle.player.specs.Limits.{most_slices}
use Rattle.listing.proofs.Printing.{event_put}
use Rattle.listing.proofs.Running.{reach_able, reach_so_far, next_able, next_so_far, all_ran, room_ran}
use Rattle.listing.proofs.machine.run_piece.Goals as goal

pub returns-then-used-piece : goal.returns-then-used-piece
returns-then-used-piece c =
    let loop = c.loop-out in
    let reach = c.up_to_end-reached in
    let so_far =
    reach_so_far _ _ _ loop.player loop.attributes loop.registers loop.ports loop.outputs loop.line _ _ _ loop.invariant.so_far
    c.loop-out-test.true reach.result _ reach.ensures in
    all_ran _ _ _ reach.result.player loop.attributes loop.registers loop.ports loop.outputs _ _ _ _ so_far (omega (arith, c.if-used-piece.true))

pub loop-out-preserved : goal.loop-out-preserved
loop-out-preserved c =
    let loop = c.loop-out in
    let reach = c.up_to_end-reached in
    let r = reach.result in
    let byte = c.take_end-step in
    let left : r.used < length c.args.piece.now = omega (arith, c.if-used-piece.false, reach.ensures.within) in
    let so_far =
    reach_so_far _ _ _ loop.player loop.attributes loop.registers loop.ports loop.outputs loop.line _ _ _ loop.invariant.so_far
    c.loop-out-test.true r _ reach.ensures in
    let next =
    next_able r.player loop.attributes loop.registers loop.ports loop.outputs _ _ byte.result _ _ _ _ _ byte.ensures
    (length c.args.piece.now) r.used left
    (reach_able loop.player c.args.piece.now loop.used loop.line r _ reach.ensures loop.invariant.able) in
    let few = next.fair.count in
    let long : length byte.new.outputs ≡ output_words * most_slices = byte.array_long4 in
    record {
      able = next;
      so_far =
          next_so_far _ _ _ r.player loop.attributes loop.registers loop.ports loop.outputs _ _ _ _ so_far byte.result _ _ _ _ _
          byte.ensures few left c.loop-out-test.true _ _
          (event_put byte.result.event byte.result.player.count _ few
          (omega (arith, few, long)) loop.made loop.out
          (omega (arith, c.loop-out-test.true, loop.invariant.so_far.room)) c.put-made.ensures)
          c.put-made.auto.out;
    }

pub returns : goal.returns
returns c =
    let loop = c.loop-out in
    room_ran _ _ _ loop.player loop.attributes loop.registers loop.ports loop.outputs loop.line _ _ _ loop.invariant.so_far
    c.loop-out-test.false
