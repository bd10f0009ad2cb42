-- `packed::batch::Checked::slice_ports`: a slice with no row due gets zeros, and else its term. Assumes nothing.
use Rattle.std.proofs.Common.{List, ℤ, pos, get_or, ◌+◌, ◌-◌, ◌*◌, w8, FitsSigned, rules}
use Rattle.std.proofs.Math.Dec.{lit<}
use Rattle.packed.proofs.Sizes.{kept}
use Rattle.packed.proofs.Fed.{fed_early, fed_late, fed_due, slice_fed}
use Rattle.packed.proofs.batch.Checked.slice_ports.Goals as goal

pub returns-then-t-k : goal.returns-then-t-k
returns-then-t-k c =
    slice_fed _ _ _ (λ xs. pos 0) _ (λ xs. fed_early _ xs _ _ c.if-t-k.true) (lit< tt, lit< tt, lit< tt) c.ports_for.ensures

pub returns-then-self-j : goal.returns-then-self-j
returns-then-self-j c =
    rw (← c.self.view_is)
    (slice_fed _ _ _ (λ xs. pos 0) _ (λ xs. fed_late _ xs _ _ c.if-t-k.false c.if-self-j.true) (lit< tt, lit< tt, lit< tt)
    c.ports_for-then-self-j.ensures)

pub returns : goal.returns
returns c =
    let g = c.self.inside in
    let i = (c.args.t - c.args.k) * g.terms + c.args.k in
    let x : List ℤ → ℤ = λ xs. get_or xs i (pos 0) in
    let a : FitsSigned w8 (x g.a.now) = search rules in
    let d : FitsSigned w8 (x g.d.now) = search rules in
    let b : FitsSigned w8 (x g.b.now) = search rules in
    rw (← c.self.view_is)
    (slice_fed _ _ _ x _ (λ xs. fed_due _ xs _ _ c.if-t-k.false c.if-self-j.false) (a.sfits, d.sfits, b.sfits)
    (rw (kept w8 (x g.a.now) a.sfits, kept w8 (x g.d.now) d.sfits, kept w8 (x g.b.now) b.sfits) at c.ports_for-2.ensures))
