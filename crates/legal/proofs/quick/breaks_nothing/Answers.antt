-- `breaks_nothing` meets its contract: within its widths a slice's tests are the checks.
use Rattle.slice.specs.Slice.{controls_of, selects_of}
use Rattle.legal.specs.Legal.{listed, split_fits, bad_inmode, bad_opmode, bad_alumode, bad_carryinsel, within_widths, off_list, breaks, breaks_nothing}
use Rattle.legal.proofs.Verdict as of
use Rattle.legal.proofs.quick.breaks_nothing.Goals as goal

pub returns : goal.returns
unfolding breaks_nothing off_list breaks
returns c =
    let controls = c.in_effect-k.ensures in
    let x = c.args in
    let k = controls_of x.a x.r x.p in
    let inmode = rw controls at c.inmode_fine.ensures in
    let opmode = rw controls at c.opmode_fine.ensures in
    let alumode = rw controls at c.alumode_fine.ensures in
    let carryinsel = rw controls at c.carryinsel_fine.ensures in
    rw c.excess.ensures
    (of.verdict (within_widths x.a x.r x.p) _ _ _ _ _ _ _ (split_fits x.a.use_mult x.a.use_simd)
    (listed x.a.areg x.a.acascreg) (listed x.a.breg x.a.bcascreg) (bad_inmode x.a k) (bad_opmode x.a (selects_of k.opmode))
    (bad_alumode k.alumode (selects_of k.opmode)) (bad_carryinsel x.a k)
    (λ w. c.split_mark-mark.ensures (of.mult_lt _ _ _ w) (of.simd_lt _ _ _ w))
    (λ w. c.depth_fine.ensures (of.areg_lt _ _ _ w) (of.acascreg_lt _ _ _ w))
    (λ w. c.depth_fine-2.ensures (of.breg_lt _ _ _ w) (of.bcascreg_lt _ _ _ w))
    (λ w. inmode (of.inmode_lt _ _ _ w) (of.amultsel_lt _ _ _ w) (of.areg_lt _ _ _ w) (of.breg_lt _ _ _ w))
    (λ w. opmode (of.opmode_lt _ _ _ w) (of.mult_lt _ _ _ w) (of.preg_lt _ _ _ w))
    (λ w. alumode (of.alumode_lt _ _ _ w) (of.opmode_lt _ _ _ w) (of.mult_lt _ _ _ w) (of.preg_lt _ _ _ w))
    (λ w. carryinsel (of.carryinsel_lt _ _ _ w) (of.preg_lt _ _ _ w)))
