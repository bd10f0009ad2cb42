-- Each turn reads the field that is due, and a line whose fields are all read ends there. Assumes nothing.
use Rattle.std.proofs.Common.{length, sym, ◌∙◌, arith}
use Rattle.text.proofs.Lines.{line_other, line_begins, turn_stop, turn_more, turn_end}
use Rattle.text.proofs.fields.filled.Goals as goal

pub returns-then-not-starts : goal.returns-then-not-starts
returns-then-not-starts c =
    line_other c.args.letter (length c.args.into.now) c.args.s.now (sym c.starts.ensures ∙ c.if-not-starts.true)

pub loop-number-init : goal.loop-number-init
loop-number-init c = line_begins c.args.letter c.args.s.now c.args.into.now (sym c.starts.ensures ∙ c.if-not-starts.false)

pub returns-in_default : goal.returns-in_default
returns-in_default c = turn_stop c.loop-number.invariant (omega arith) (sym c.in_default.ensures)

pub loop-number-preserved : goal.loop-number-preserved
loop-number-preserved c = turn_more c.loop-number.invariant (omega arith) (sym c.in-Some.ensures)

pub returns : goal.returns
returns c = rw c.is_empty.ensures (turn_end c.loop-number.invariant (omega arith))
