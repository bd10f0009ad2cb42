-- `packed::batch::Checked::stepped`: the column that is stepped is set and cleared, and after the loop the list is whole. Assumes nothing.
use Rattle.std.proofs.Common.{◌≡◌, refl, arith, length}
use Rattle.std.proofs.lemmas.List.{length-take}
use Rattle.packed.specs.Packed.{run_clocks}
use Rattle.packed.proofs.Stepping.{set_for_all, cleared, starts, ends}
use Rattle.packed.proofs.batch.Checked.stepped.Goals as goal

pub loop-word-init : goal.loop-word-init
loop-word-init c =
    let most = c.self.invariant.most in
    rw (← c.self.view_is)
    (record {
      count = refl;
      ports = simp length-take (omega arith);
      going =
          starts _
          (record {
            attributes = rw (c.as_flattened-attributes.ensures.value, c.words-attributes.ensures, c.slice_setting.ensures) (set_for_all _ most);
            registers = cleared _ most;
            outputs = simp length-take (omega arith);
          });
    })

pub returns : goal.returns
returns c =
    let was = c.loop-word.invariant in
    let long : length c.loop-word.list ≡ run_clocks c.args.self.now.terms c.args.self.now.rows = omega arith in
    rw was.count (ends _ long (omega arith) was.going)
