-- What passes the checks before 3 to 9 is asked of a slice that the lent words reach to, so of one of the column's.
use Rattle.std.proofs.Common.{arith, ◌+◌, ◌*◌, ◌<◌, ◌≤◌}
use Rattle.column.proofs.Answers.{asked_ready}
use Rattle.column.proofs.why.Goals as goal

pub reason_at-requires : goal.reason_at-requires
reason_at-requires c =
    let asked = asked_ready _ _ _ _ _ c.in_ok-inputs.ensures.0 in
    omega (arith, asked.lengths.attributes, asked.reaches.attributes, c.in_ok-inputs.ensures.1)
