-- Each number is put after those before it, and there is room for a field of each. Assumes nothing.
use Rattle.std.proofs.Common.{◌≤◌, ◌+◌, length, arith}
use Rattle.text.specs.Bytes.{field_room}
use Rattle.text.proofs.Paste.{part_room, part_put}
use Rattle.text.proofs.Decimal.{next_room, one_field}
use Rattle.text.proofs.print.fields.Goals as goal

pub field-end-requires : goal.field-end-requires
field-end-requires c =
    let room : c.loop-n.end + field_room ≤ length c.loop-n.out =
    next_room c.loop-n.n-index c.args.numbers.now c.loop-n.invariant (omega arith) c.requires in
    part_room c.loop-n.end c.loop-n.out (omega arith) room

pub loop-n-preserved : goal.loop-n-preserved
loop-n-preserved c =
    let room : c.loop-n.end + field_room ≤ length c.loop-n.out =
    next_room c.loop-n.n-index c.args.numbers.now c.loop-n.invariant (omega arith) c.requires in
    one_field c.loop-n.n-index c.args.numbers.now c.loop-n.invariant (omega arith) c.requires
    (part_put c.loop-n.end c.loop-n.out (omega arith) c.field-end.ensures)
