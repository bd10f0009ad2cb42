-- Facts by value that pin the border's rule. Assumes nothing.
use mathlib.Core.Path.{◌≡◌, refl}
use mathlib.Core.Bool.{true, false}
use Prim.Native.Nat.{◌^◌}
use Rattle.unit.specs.Unit.{adder}
use Rattle.column.specs.declared.Check.TheVariants.{Opmode}
use Rattle.std.specs.Prelude.{Ok, Err}
use Rattle.column.specs.declared.Refusal.TheVariants.{BadCount, BadLength, Broken, BadSlice}
use Rattle.column.specs.Refusals.{accepted}
use Rattle.packed.specs.declared.Refusal.TheVariants.{BadTerms, BadRows, BadLength as BadLen, Overfull}
use Rattle.dsp48e2.specs.Border.{refusal, word_of, why_lent, run_word}

pub record Words : Type 0 where
  pub accepted_0 : word_of accepted ≡ 0
  pub length : word_of (Err BadLength) ≡ 281474976710658
  -- number 7 at slice 23
  pub top_slice : word_of (Err (Broken Opmode 23)) ≡ 281474976716551
  -- the adder's two refusals are the rule at place 0
  pub adder_5 : adder 0 (2 ^ 48) 0 0 0 8 ≡ refusal 0 5
  pub adder_8 : adder 0 0 0 0 0 8 ≡ refusal 0 8
  -- number 13 has the place 0; a `why` of another length is 2 in the place of 0, 13 and 3 to 9, and not of 1
  pub no_such_slice : word_of (why_lent true (Err BadSlice)) ≡ refusal 0 13
  pub why_length : (word_of (why_lent false accepted) ≡ refusal 0 2) × (word_of (why_lent false (Err BadSlice)) ≡ refusal 0 2)
      × (word_of (why_lent false (Err (Broken Opmode 23))) ≡ refusal 0 2) × (word_of (why_lent false (Err BadCount)) ≡ refusal 0 1)
  -- a run of 11 clocks, a plain one, and the refusals of a packed run: at place 0, and 14 at the first row and the last
  pub run_11 : (run_word (Ok 11) ≡ 11) × (run_word (Ok 0) ≡ 0)
  pub run_refused : (run_word (Err BadTerms) ≡ refusal 0 10) × (run_word (Err BadRows) ≡ refusal 0 11) × (run_word (Err BadLen) ≡ refusal 0 2)
  pub run_overfull : (run_word (Err (Overfull 0)) ≡ 281474976710670) × (run_word (Err (Overfull 4095)) ≡ 281474977758990)

pub words : Words
unfolding word_of why_lent run_word adder
words =
    record {
      accepted_0 = refl;
      length = refl;
      top_slice = refl;
      adder_5 = refl;
      adder_8 = refl;
      no_such_slice = refl;
      why_length = (refl, refl, refl, refl);
      run_11 = (refl, refl);
      run_refused = (refl, refl, refl);
      run_overfull = (refl, refl);
    }
