-- No answer of the column's `why` has a place above 23, and what it tells is what is lent. Assumes nothing.
use Rattle.std.proofs.Common.{◌≡◌, refl, ◌∙◌, ap, sym, subst, ℕ, ◌<◌, Bool, true, false, ◌||◌, List, eqb, lit<}
use Rattle.lent.specs.Refusing.{unless}
use Rattle.std.specs.Prelude.{⊤, Result, Ok, Err}
use Rattle.std.specs.Result.{result_and}
use Rattle.reason.specs.declared.Reason.{Reason}
use Rattle.column.specs.declared.Refusal.{Refusal}
use Rattle.column.specs.declared.Refusal.TheVariants.{BadLength}
use Rattle.column.specs.Refusals.{Answer, number_of, place_of, why_answer}
use Rattle.column.specs.Calls.{reason_at, why_of}
use Rattle.column.proofs.Answers.{why_place}
use Rattle.dsp48e2.specs.Border.{word_of, why_lent}
use Rattle.dsp48e2.proofs.dsp_why.Goals as goal

-- number 2 has the place 0, and no other answer of `why` a place above 23
lent_place : (fits : Bool) (a b : Answer) → b ≡ why_lent fits a → place_of a < 24 → place_of b < 24
unfolding why_lent
lent_place fits a b e h = rw e (by (fits || eqb (number_of a) 1))
  where
    by : (t : Bool) → place_of (unless t (Err BadLength) a) < 24
    by true = h
    by false = lit< tt

-- without its reason, what `why` tells is its answer
answered : (count : ℕ) (at rs ps : List ℕ) (k : ℕ) (told : Result Reason Refusal) (b : Answer)
    → told ≡ why_of count at rs ps k → b ≡ result_and told (Ok tt) → b ≡ why_answer count at rs ps k
unfolding why_of
answered count at rs ps k told b t e = e ∙ rw t (by (why_answer count at rs ps k) (reason_at at rs ps k))
  where
    by : (a : Answer) (reason : Reason) → result_and {U = Unit {0}} (result_and a (Ok reason)) (Ok tt) ≡ a
    by (Ok v) reason = refl
    by (Err e) reason = refl

pub word_of-requires : goal.word_of-requires
word_of-requires c =
    let a = c.args in
    lent_place _ _ _ c.why_lent.ensures
    (subst (λ (b : Answer). place_of b < 24)
    (sym (answered a.count a.attributes.now a.registers.now a.ports.now a.slice c.why-told.result c.and.result c.why-told.ensures c.and.ensures))
    (why_place a.count a.attributes.now a.registers.now a.ports.now a.slice))

pub returns : goal.returns
returns c =
    let a = c.args in
    record {
      word =
          c.word_of.ensures
          ∙ ap word_of
          (rw (answered a.count a.attributes.now a.registers.now a.ports.now a.slice c.why-told.result c.and.result c.why-told.ensures c.and.ensures)
          at c.why_lent.ensures);
      why = rw (c.words.ensures, c.unwrap_or.ensures, c.none.ensures, c.why-told.ensures) at c.store.ensures;
    }
