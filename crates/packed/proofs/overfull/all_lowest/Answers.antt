-- `packed::overfull::all_lowest`: the fold over the eight numbers, one call after the other. Assumes nothing.
use Rattle.std.proofs.Common.{◌≡◌, refl, ◌+◌, ◌-◌, arith, Bool, true, ◌&&◌, List, ℤ, rules}
use Rattle.std.specs.List.{fold}
use Rattle.std.proofs.lemmas.Fn.{fold_over, fronts, slice_gives}
use Rattle.std.proofs.lemmas.Grind.{fold-append}
use Rattle.packed.specs.Packed.{most_terms}
use Rattle.packed.specs.Calls.{is_lowest}
use Rattle.packed.proofs.LowSums.{all_folded}
use Rattle.packed.proofs.overfull.all_lowest.Goals as goal

abbrev next : Bool → ℤ → Bool
next all v = all && is_lowest v

pub returns : goal.returns
returns c =
    let e =
    fold_over fronts (λ y. y.now) _ (λ (ys : List ℤ) (a : Bool). a ≡ fold next true ys) _
    (λ ys a x b f' told call. (let here : b ≡ next a x.now = search rules in rw (fold-append, ← told) here, search rules))
    c.iter.result _ true _ (slice_gives c.iter.result) refl c.fold.ensures.ran
    in
    let eight : c.args.s + most_terms - c.args.s ≡ most_terms = omega arith in
    rw (e, c.iter.ensures.rest, eight) (all_folded c.args.x.now c.args.s most_terms c.requires)
