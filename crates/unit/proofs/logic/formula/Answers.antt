-- `unit::logic::formula` meets its contract: it is the drawing at 48 bits. Assumes nothing.
use Rattle.std.proofs.Common.{◌/◌, arith}
use Rattle.unit.proofs.Gates.{made}
use Rattle.unit.proofs.Drawing.{drawn_48, spread}
use Rattle.unit.proofs.logic.formula.Goals as goal

pub returns-then-mode : goal.returns-then-mode
unfolding made
returns-then-mode c =
    let a = c.args in
    rw (c.cells-cell.ensures, c.all_if.ensures, spread a.mode, spread (a.mode / 2))
    (rw c.if-mode.true at (drawn_48 a.mode a.x a.y a.z (omega arith) (omega arith) (omega arith)))

pub returns-else-mode : goal.returns-else-mode
unfolding made
returns-else-mode c =
    let a = c.args in
    rw c.if-mode.false at (drawn_48 a.mode a.x a.y a.z (omega arith) (omega arith) (omega arith))
