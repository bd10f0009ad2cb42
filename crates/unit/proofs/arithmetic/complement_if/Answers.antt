-- `unit::arithmetic::complement_if` meets its contract: a difference from all ones that wraps is the complement. Assumes nothing.
use Rattle.std.proofs.Common.{ℕ, ◌-◌, ap, ◌∙◌, arith}
use Rattle.unit.proofs.Lanes.{complement_wraps}
use Rattle.unit.proofs.arithmetic.complement_if.Goals as goal

pub returns-then-b : goal.returns-then-b
returns-then-b c =
    let a = c.args in
    rw c.if-b.true
    (complement_wraps a.width 64 _ a.n (omega arith) (omega arith)
    (omega arith ∙ ap (λ (x : ℕ). x - 1) c.words_of.ensures.power))
