-- There is room for the numbers of both lists and for the newline. Assumes nothing.
use Rattle.text.proofs.Decimal.{more_room, newline_room, whole_line}
use Rattle.text.proofs.print.line.Goals as goal

pub fields-end-requires-2 : goal.fields-end-requires-2
fields-end-requires-2 c =
    more_room c.args.letter c.args.numbers.now c.args.more.now c.args.out.now c.requires c.fields-end.ensures

pub bounds-out-end : goal.bounds-out-end
bounds-out-end c =
    newline_room c.args.letter c.args.numbers.now c.args.more.now c.args.out.now c.requires c.fields-end.ensures c.fields-end-2.ensures

pub returns : goal.returns
returns c =
    whole_line c.args.letter c.args.numbers.now c.args.more.now c.args.out.now c.requires c.fields-end.ensures c.fields-end-2.ensures
