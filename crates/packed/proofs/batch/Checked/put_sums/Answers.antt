-- `packed::batch::Checked::put_sums`: a row's terms are within the arrays, and a sum of so few products of bytes fits. Assumes nothing.
use Rattle.std.proofs.Common.{◌≡◌, ◌≤◌, ◌<◌, ◌+◌, ◌*◌, length, ap, arith, rules, w8, FitsSigned}
use Rattle.std.proofs.lemmas.List.{length-append}
use Rattle.packed.specs.Packed.{most_terms}
use Rattle.packed.proofs.Passing.{row_end}
use Rattle.packed.proofs.Dots.{none_summed, more_fits, more_summed}
use Rattle.packed.proofs.Zipped.{all_left, turned}
use Rattle.packed.proofs.batch.Checked.put_sums.Goals as goal

pub loop-a-init : goal.loop-a-init
loop-a-init c =
    let rows : c.self.inside.rows ≡ c.args.self.now.rows = ap (λ g. g.rows) c.self.view_is in
    let end : c.args.j * c.self.inside.terms + c.self.inside.terms ≤ c.self.inside.rows * c.self.inside.terms =
    row_end c.self.inside.terms (omega arith)
    in
    let ready = c.self.invariant in
    rw (← c.self.view_is, c.into_iter-a-iterator.ensures.into_iter_gives)
    (record {
      a = all_left _ _ _ (omega arith) (rw (c.zip-a-items.ensures.first, c.zip.ensures.first) c.iter.ensures.rest);
      d = all_left _ _ _ (omega arith) (rw c.zip-a-items.ensures.first c.zip.ensures.second.0);
      b = all_left _ _ _ (omega arith) c.zip-a-items.ensures.second.0;
      high = none_summed _ _ _;
      low = none_summed _ _ _;
    })

pub overflow_add-high : goal.overflow_add-high
overflow_add-high c =
    let turn = c.in-Some.ensures.steps in
    let was = c.loop-a.invariant in
    let x = turned _ _ _ _ _ _ _ was.a turn.0.0 in
    let y = turned _ _ _ _ _ _ _ was.b turn.1 in
    let fx : FitsSigned w8 c.in-Some.field-0-0-0.now = search rules in
    let fy : FitsSigned w8 c.in-Some.field-0-1.now = search rules in
    let most = c.self.invariant.most in
    let e : c.self.inside.terms ≡ c.args.self.now.terms = ap (λ g. g.terms) c.self.view_is in
    more_fits _ _ _ _ _ (let few = x.0 in omega arith) was.high (rw x.1 fx.sfits) (rw y.1 fy.sfits) c.product-high.result c.product-high.type_inv (rw (x.1, y.1) c.product-high.ensures)

pub overflow_add-low : goal.overflow_add-low
overflow_add-low c =
    let turn = c.in-Some.ensures.steps in
    let was = c.loop-a.invariant in
    let x = turned _ _ _ _ _ _ _ was.d turn.0.1 in
    let y = turned _ _ _ _ _ _ _ was.b turn.1 in
    let fx : FitsSigned w8 c.in-Some.field-0-0-1.now = search rules in
    let fy : FitsSigned w8 c.in-Some.field-0-1.now = search rules in
    let most = c.self.invariant.most in
    let e : c.self.inside.terms ≡ c.args.self.now.terms = ap (λ g. g.terms) c.self.view_is in
    more_fits _ _ _ _ _ (let few = x.0 in omega arith) was.low (rw x.1 fx.sfits) (rw y.1 fy.sfits) c.product-low.result c.product-low.type_inv (rw (x.1, y.1) c.product-low.ensures)

pub loop-a-preserved : goal.loop-a-preserved
loop-a-preserved c =
    let turn = c.in-Some.ensures.steps in
    let was = c.loop-a.invariant in
    let x = turned _ _ _ _ _ _ _ was.a turn.0.0 in
    let z = turned _ _ _ _ _ _ _ was.d turn.0.1 in
    let y = turned _ _ _ _ _ _ _ was.b turn.1 in
    let fx : FitsSigned w8 c.in-Some.field-0-0-0.now = search rules in
    let fz : FitsSigned w8 c.in-Some.field-0-0-1.now = search rules in
    let fy : FitsSigned w8 c.in-Some.field-0-1.now = search rules in
    let most = c.self.invariant.most in
    let e : c.self.inside.terms ≡ c.args.self.now.terms = ap (λ g. g.terms) c.self.view_is in
    let few : length c.loop-a.yielded < most_terms = let here = x.0 in omega arith in
    rw length-append
    (record {
      a = x.2;
      d = z.2;
      b = y.2;
      high =
          more_summed _ _ _ _ _ few was.high (rw x.1 fx.sfits) (rw y.1 fy.sfits) c.product-high.result c.product-high.type_inv
          (rw (x.1, y.1) c.product-high.ensures);
      low =
          more_summed _ _ _ _ _ few was.low (rw z.1 fz.sfits) (rw y.1 fy.sfits) c.product-low.result c.product-low.type_inv
          (rw (z.1, y.1) c.product-low.ensures);
    })
