-- `packed::batch::Checked::one_step`: the ports are those of clock t, and the clock is accepted. Assumes nothing.
use Rattle.std.proofs.Common.{◌≡◌, ap}
use Rattle.packed.proofs.Stepping.{steps}
use Rattle.packed.proofs.batch.Checked.one_step.Goals as goal

pub returns : goal.returns
returns c =
    let e : c.self.inside.terms ≡ c.args.self.now.terms = ap (λ g. g.terms) c.self.view_is in
    rw e
    (steps _ (rw c.self.view_is at c.self.invariant) _ _ _ _ _ c.requires.0 (rw c.as_flattened-ports.ensures.value c.fill_ports.ensures) _ _ _
    (rw e at c.clock.ensures))
