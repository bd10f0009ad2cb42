-- `unit::arithmetic::lanes` meets its contract, by recursion on the number of lanes: the lowest stands below the rest. Assumes nothing.
use Rattle.std.proofs.Common.{◌≡◌, ◌+◌, ◌*◌, arith}
use Rattle.unit.specs.Unit.{lanes}
use Rattle.unit.proofs.Lanes.{lanes_step, lanes_room, above_room}
use Rattle.unit.proofs.arithmetic.+lanes.Goals as goal
use Rattle.unit.proofs.arithmetic.+lanes.Goals.{After-lane}

pub returns-then-count-eq0 : goal.returns-then-count-eq0
unfolding lanes
returns-then-count-eq0 t c = rw c.if-count-eq0.true

-- those above the lowest have room with it
pub overflow_mul-result : goal.overflow_mul-result
overflow_mul-result t c =
    let a = c.args in
    let o = a.o in
    omega (
      arith,
      above_room a.width a.count a.mode o.w o.x o.y o.z o.cin c.words_of-all.result c.lanes-above.result
          c.if-count-eq0.false c.words_of-all.ensures.power (rw c.above.ensures at c.lanes-above.ensures) c.requires.0,
    )

-- the lowest stands below them
step : (t : _) (c : After-lane t) → let a = c.args in let o = a.o in
    c.lanes-above.result * c.words_of-all.result + c.lane.result ≡ lanes a.width a.count a.mode o.w o.x o.y o.z o.cin
step t c =
    let a = c.args in
    let o = a.o in
    lanes_step a.width a.count a.mode o.w o.x o.y o.z o.cin c.words_of-all.result c.lanes-above.result
    c.if-count-eq0.false c.words_of-all.ensures.power (rw c.above.ensures at c.lanes-above.ensures)
    c.lane.result (rw c.lowest.ensures at c.lane.ensures)

pub overflow_add-result : goal.overflow_add-result
overflow_add-result t c =
    let a = c.args in
    let o = a.o in
    omega (arith, step t c, lanes_room a.width a.count a.mode o.w o.x o.y o.z o.cin c.requires.0)

pub returns : goal.returns
returns t c = step t c
