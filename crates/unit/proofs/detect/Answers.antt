-- `unit::detect` meets its contract, by the laws of masks at 48 bits. Assumes nothing.
use Rattle.std.proofs.Common.{◌≡◌, Bool, true, false, cond, refl, ap, ◌∙◌}
use Rattle.unit.specs.Detector.{detected}
use mir.Val.{bool_byte}
use Rattle.unit.proofs.Masks.{hides_differing, hides_equal}
use Rattle.unit.proofs.detect.Goals as goal

-- a test as a word is 1 where it holds, else 0
test_word : (b : Bool) → bool_byte b ≡ cond b 1 0
test_word true = refl
test_word false = refl

pub returns : goal.returns
unfolding detected
returns c =
    let a = c.args in
    λ i.
    record {
      pd = (test_word _ ∙ ap (λ (b : Bool). cond b 1 0) (hides_differing 48 a.p a.pattern a.mask)) i;
      pbd = (test_word _ ∙ ap (λ (b : Bool). cond b 1 0) (hides_equal 48 a.p a.pattern a.mask)) i;
    }
