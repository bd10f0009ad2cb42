-- Facts by value that pin the run's definitions and its refusals: each stands beside a slip that would break it. Assumes nothing.
use Prim.Native.Nat.{ℕ, ◌+◌, ◌*◌, ◌^◌}
use mathlib.Core.Path.{◌≡◌, refl}
use mathlib.Core.Bool.{true, false}
use mathlib.Core.List.{List, [], ◌∷◌, ◌++◌}
use lib.ListN.{replicate}
use lib.IntN.{ℤ, pos, negsuc}
use Rattle.unit.specs.Unit.{arithmetic, lanes, unit_result, split_result, wrapped_sum, pre_adder, product, load}
use Rattle.unit.specs.Detector.{unmasked, detected}
use Rattle.slice.specs.Slice.{controls_of, selects_of, paths_of, a_side, d_side, pre_added_of, left_of, right_of, product_of, operands_of, slice_operands, result_of, settled_of, slice_settled, outputs_of_settled, cascade_of, edge, next_of, slice_outputs, slice_cascade, slice_next}
use Rattle.column.specs.Column.{cascade_into, shown_at, next_at, column_shown, column_next, after}
use Rattle.std.specs.Prelude.{Ok, Err}
use Rattle.packed.specs.declared.Refusal.TheVariants.{BadTerms, BadRows, BadLength, Overfull}
use Rattle.packed.specs.Packed.{Batch, batch, fed, run_attributes, run_ports, run_registers, top, run_list, pairs, read_answers, dot, plain_answers}
use Rattle.packed.specs.Calls.{number_of, clocks_of, place_of, lengths_fit, all_lowest, sized, checked, clocked_run, plain_run}

-- two rows of one term, (1, −1, 1) and (3, 4, 2); and of two terms
abbrev two : Batch
two = batch 1 2 (pos 1 ∷ pos 3 ∷ []) (negsuc 0 ∷ pos 4 ∷ []) (pos 1 ∷ pos 2 ∷ [])

abbrev two_by_two : Batch
two_by_two = batch 2 2 (pos 1 ∷ pos 2 ∷ pos 3 ∷ pos 4 ∷ []) (replicate 4 (pos 0)) (replicate 4 (pos 1))

-- each number the same, as many as terms and rows want
abbrev all : (z : ℤ) → (terms rows : ℕ) → Batch
all z terms rows = batch terms rows (replicate (rows * terms) z) (replicate (rows * terms) z) (replicate (rows * terms) z)

abbrev zeros : (terms rows : ℕ) → Batch
zeros = all (pos 0)

-- all −128
abbrev lowests : (terms rows : ℕ) → Batch
lowests = all (negsuc 127)

-- four rows of eight terms with d −128 in rows 1 to 3 and 0 in row 0, b −128 in all
abbrev rows_1_to_3 : List ℤ
rows_1_to_3 = replicate 8 (pos 0) ++ replicate 24 (negsuc 127)

abbrev three_overfull : Batch
three_overfull = batch 8 4 (replicate 32 (pos 0)) rows_1_to_3 (replicate 32 (negsuc 127))

pub record Runs : Type 0 where
  -- nothing shows before clock 4; then one row a clock, and the last row's word is the last
  pub list : run_list two ≡ 0 ∷ 0 ∷ 0 ∷ 0 ∷ 262143 ∷ (6 * 2 ^ 18 + 8) ∷ []
  pub sums : plain_answers two ≡ pos 1 ∷ negsuc 0 ∷ pos 6 ∷ pos 8 ∷ []
  -- row j is read from the word of clock j + terms + 3, and from no other
  pub read : read_answers 1 2 (0 ∷ 0 ∷ 0 ∷ 5 ∷ 262143 ∷ (6 * 2 ^ 18 + 8) ∷ 7 ∷ []) ≡ pos 1 ∷ negsuc 0 ∷ pos 6 ∷ pos 8 ∷ []
  -- slice 1 gets term 1 of row 0 in clock 1 and of row 1 in clock 2, and zeros before and after
  pub slice_0 : (fed two_by_two two_by_two.a 0 0 ≡ pos 1) × (fed two_by_two two_by_two.a 1 0 ≡ pos 3) × (fed two_by_two two_by_two.a 2 0 ≡ pos 0)
  pub slice_1 : (fed two_by_two two_by_two.a 0 1 ≡ pos 0) × (fed two_by_two two_by_two.a 1 1 ≡ pos 2) × (fed two_by_two two_by_two.a 2 1 ≡ pos 4)
      × (fed two_by_two two_by_two.a 3 1 ≡ pos 0)

pub record Refused : Type 0 where
  -- 10 comes before 11, 11 before 2, and 2 before 14
  pub no_terms : number_of (checked (batch 0 0 [] [] []) 1 false 0) ≡ 10
  pub nine_terms : number_of (checked (batch 9 0 [] [] []) 1 false 0) ≡ 10
  pub no_rows : number_of (checked (batch 8 0 [] [] []) 1 false 0) ≡ 11
  pub too_many_rows : number_of (checked (batch 8 4097 [] [] []) 1 false 0) ≡ 11
  pub most_rows_lem : number_of (checked (batch 8 4096 [] [] []) 1 false 0) ≡ 2
  pub overfull_answers_short : number_of (checked (lowests 8 1) 1 true 0) ≡ 2
  pub overfull_list_short : number_of (clocked_run (lowests 8 1) (replicate 2 (pos 0)) (replicate 11 0)) ≡ 2
  -- a word too few or too many
  pub answers_short : number_of (checked (zeros 2 3) 5 true 0) ≡ 2
  pub list_short : number_of (clocked_run (zeros 7 1) (replicate 2 (pos 0)) (replicate 10 0)) ≡ 2
  pub list_long : number_of (clocked_run (zeros 7 1) (replicate 2 (pos 0)) (replicate 12 0)) ≡ 2
  -- seven and eight terms pass: 1 + 7 + 3 clocks, 1 + 8 + 3, and none in the plain run
  pub seven_terms : clocked_run (zeros 7 1) (replicate 2 (pos 0)) (replicate 11 0) ≡ Ok 11
  pub eight_terms : clocked_run (zeros 8 1) (replicate 2 (pos 0)) (replicate 12 0) ≡ Ok 12
  pub plain_steps_none : plain_run (zeros 8 1) (replicate 2 (pos 0)) ≡ Ok 0
  -- eight terms all −128 are 14 at row 0; seven pass as they did
  pub all_lowest_lem : (clocked_run (lowests 8 1) (replicate 2 (pos 0)) (replicate 12 0) ≡ Err (Overfull 0)) × (plain_run (lowests 8 1) (replicate 2 (pos 0)) ≡ Err (Overfull 0))
  pub seven_lowest : (clocked_run (lowests 7 1) (replicate 2 (pos 0)) (replicate 11 0) ≡ Ok 11) × (plain_run (lowests 7 1) (replicate 2 (pos 0)) ≡ Ok 0)
  -- one b −127 passes, and so does one d
  pub one_b_less : plain_run (batch 8 1 (lowests 8 1).a (lowests 8 1).d (negsuc 126 ∷ (lowests 7 1).b)) (replicate 2 (pos 0)) ≡ Ok 0
  pub one_d_less : plain_run (batch 8 1 (lowests 8 1).a (negsuc 126 ∷ (lowests 7 1).d) (lowests 8 1).b) (replicate 2 (pos 0)) ≡ Ok 0
  -- d all −128 with b all 127, and b all −128 with d all 127, pass
  pub b_highest : plain_run (batch 8 1 (lowests 8 1).a (lowests 8 1).d (all (pos 127) 8 1).b) (replicate 2 (pos 0)) ≡ Ok 0
  pub d_highest : plain_run (batch 8 1 (lowests 8 1).a (all (pos 127) 8 1).d (lowests 8 1).b) (replicate 2 (pos 0)) ≡ Ok 0
  -- of the rows 1 to 3 the lowest is named
  pub lowest_row : (clocked_run three_overfull (replicate 8 (pos 0)) (replicate 15 0) ≡ Err (Overfull 1)) × (plain_run three_overfull (replicate 8 (pos 0)) ≡ Err (Overfull 1))

-- the number of each answer, its clocks and its place
pub record Told : Type 0 where
  pub numbers : (number_of (Ok 11) ≡ 0) × (number_of (Err BadTerms) ≡ 10) × (number_of (Err BadRows) ≡ 11) × (number_of (Err BadLength) ≡ 2) × (number_of (Err (Overfull 5)) ≡ 14)
  pub clocks : (clocks_of (Ok 11) ≡ 11) × (clocks_of (Err BadTerms) ≡ 0) × (clocks_of (Err BadRows) ≡ 0) × (clocks_of (Err BadLength) ≡ 0) × (clocks_of (Err (Overfull 5)) ≡ 0)
  pub places : (place_of (Ok 11) ≡ 0) × (place_of (Err BadTerms) ≡ 0) × (place_of (Err BadRows) ≡ 0) × (place_of (Err BadLength) ≡ 0) × (place_of (Err (Overfull 5)) ≡ 5)

pub told : Told
told = record { numbers = (refl, refl, refl, refl, refl); clocks = (refl, refl, refl, refl, refl); places = (refl, refl, refl, refl, refl) }

pub runs : Runs
unfolding run_list top fed run_attributes run_ports run_registers pairs dot after column_shown column_next shown_at next_at cascade_into slice_next slice_outputs slice_cascade next_of edge load outputs_of_settled cascade_of slice_settled settled_of result_of slice_operands operands_of selects_of controls_of paths_of product_of left_of right_of pre_added_of a_side d_side split_result unit_result lanes arithmetic wrapped_sum pre_adder product detected unmasked
runs = record { list = refl; sums = refl; read = refl; slice_0 = (refl, refl, refl); slice_1 = (refl, refl, refl, refl) }

pub refused : Refused
unfolding clocked_run plain_run checked sized lengths_fit all_lowest run_list
refused =
    record {
      no_terms = refl;
      nine_terms = refl;
      no_rows = refl;
      too_many_rows = refl;
      most_rows_lem = refl;
      overfull_answers_short = refl;
      overfull_list_short = refl;
      answers_short = refl;
      list_short = refl;
      list_long = refl;
      seven_terms = refl;
      eight_terms = refl;
      plain_steps_none = refl;
      all_lowest_lem = (refl, refl);
      seven_lowest = (refl, refl);
      one_b_less = refl;
      one_d_less = refl;
      b_highest = refl;
      d_highest = refl;
      lowest_row = (refl, refl);
    }
