-- A slice that breaks nothing passes every check. Assumes nothing.
use mathlib.Core.Path.{◌≡◌}
use mathlib.Core.Bool.{Bool, true, false, not, ◌&&◌}
use mathlib.Core.List.{List}
use Prim.Native.Nat.{ℕ}
use borrow.Author.Tests.{not-true}
use Rattle.word.proofs.Laws.{both_true}
use Rattle.records.specs.Records.{exceeds, attribute_widths, attributes_words}
use Rattle.legal.specs.declared.rules.Rule.TheVariants as rule
use Rattle.records.proofs.Searching.{neither}
use Rattle.legal.specs.Legal.{off_list, breaks, within_widths, breaks_nothing}
use Rattle.legal.proofs.Excess.{within_parts}
use Rattle.column.specs.declared.Check.{Check}
use Rattle.column.specs.Column.{attributes_at, registers_at, ports_at}
use Rattle.column.specs.Refusals.{broken, fails}
use Rattle.column.proofs.Answers.{each_check}

-- a test that holds with the complement of another
with_not : (x b : Bool) → x && not b ≡ true → (x ≡ true) × (b ≡ false)
with_not x b p = let q = both_true x (not b) p in (q.0, not-true b q.1)

module _ (at rs ps : List ℕ) (k : ℕ) (holds : breaks_nothing (attributes_at at k) (registers_at rs k) (ports_at ps k) ≡ true) where
  pub passes : (check : Check) → fails check at rs ps k ≡ false
  unfolding fails broken breaks_nothing exceeds
  passes =
      let a = attributes_at at k in
      let r = registers_at rs k in
      let p = ports_at ps k in
      let p9 = with_not _ (breaks rule.Carryinsel a r p) holds in
      let p8 = with_not _ (breaks rule.Alumode a r p) p9.0 in
      let p7 = with_not _ (breaks rule.Opmode a r p) p8.0 in
      let p6 = with_not _ (breaks rule.Inmode a r p) p7.0 in
      let p3 = with_not (within_widths a r p) (off_list a) p6.0 in
      let within = within_parts a r p p3.0 in
      each_check (λ check. fails check at rs ps k ≡ false)
      (neither (exceeds attribute_widths (attributes_words a)) (off_list a) within.0 p3.1)
      within.1 within.2 p6.1 p7.1 p8.1 p9.1
