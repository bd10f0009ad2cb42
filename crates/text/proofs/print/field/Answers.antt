-- The digits stand after the tab. Assumes nothing.
use Rattle.std.proofs.Common.{◌∙◌}
use Rattle.text.proofs.Decimal.{one_digit, more_digits}
use Rattle.text.proofs.print.field.Goals as goal

pub returns-then-n-lt10 : goal.returns-then-n-lt10
returns-then-n-lt10 c = one_digit c.args.n c.args.out.now c.ranges.n.fits c.requires c.if-n-lt10.true

pub returns : goal.returns
returns c =
    more_digits c.args.n c.args.out.now c.ranges.n.fits c.requires _ _ (c.as_bytes-digits.ensures.value ∙ c.format.ensures.text)
    c.copy_from_slice.ensures.after
