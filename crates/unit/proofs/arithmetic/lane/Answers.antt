-- `unit::arithmetic::lane` meets its contract: the lane as it is worked is the definition's row. Assumes nothing.
use Rattle.std.proofs.Common.{◌≡◌, ℕ, ◌+◌, ◌-◌, ◌%◌, ◌^◌, cond, eqb, sym, ap, ◌∙◌, arith}
use native.Mathlib.Nat.{mod-add-mod}
use Rattle.word.proofs.Steps.{low_bits}
use Rattle.unit.proofs.Lanes.{lane_works}
use Rattle.unit.proofs.arithmetic.lane.Goals as goal

pub returns : goal.returns
returns c =
    let a = c.args in
    let o = a.o in
    let rest = o.w + o.x + o.y + o.cin in
    let first = c.complement_if-first.result in
    let summed : (first + c.others.result) % 2 ^ 64 % 2 ^ a.width
    ≡ (cond (eqb (a.mode % 2) 1) (2 ^ a.width - 1 - o.z % 2 ^ a.width) (o.z % 2 ^ a.width) + rest) % 2 ^ a.width =
    ap (λ (n : ℕ). n % 2 ^ a.width) (omega arith)
    ∙ low_bits 64 a.width (first + rest) (omega arith)
    ∙ sym (mod-add-mod first (2 ^ a.width) rest)
    ∙ ap (λ (n : ℕ). (n + rest) % 2 ^ a.width) c.complement_if-first.ensures in
    rw c.words_of.ensures.power
    (c.complement_if.ensures
    ∙ rw summed (lane_works a.width a.mode o.w o.x o.y o.z o.cin c.requires.1))
