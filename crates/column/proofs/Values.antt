-- Facts by value that pin the column, its refusals and its reasons: each stands beside a slip that would break it. Assumes nothing.
use mathlib.Core.Path.{◌≡◌, refl}
use mathlib.Core.List.{List, [], ◌∷◌, ◌++◌}
use Prim.Native.Nat.{ℕ, ◌-◌, ◌*◌, ◌^◌}
use lib.ListN.{replicate, set}
use Rattle.std.specs.Prelude.{Result}
use Rattle.std.specs.Result.{result_unwrap_or}
use Rattle.records.specs.Records.{attribute_words, register_words, output_words, exceeds}
use Rattle.unit.specs.Unit.{arithmetic, lanes, logic_rows, unit_result, split_result, carry_out, wrapped_sum, pre_adder, product, load}
use Rattle.unit.specs.Detector.{unmasked, detected}
use Rattle.slice.specs.Slice.{controls_of, selects_of, paths_of, a_side, d_side, pre_added_of, left_of, right_of, product_of, operands_of, slice_operands, result_of, settled_carry, settled_of, slice_settled, outputs_of_settled, cascade_of, edge, next_of, slice_outputs, slice_cascade, slice_next}
use Rattle.legal.specs.Legal.{off_list, bad_inmode, bad_opmode, bad_alumode, bad_carryinsel, breaks}
use Rattle.reason.specs.Reason.{places_of, rule_of, reason_of, reason_words, no_reason}
use Rattle.column.specs.declared.Refusal.{Refusal}
use Rattle.column.specs.Column.{cascade_into, shown_at, next_at, column_shown, column_next}
use Rattle.column.specs.Refusals.{number_of, place_of, broken, fails, rules, settings, lengths_fit, inputs_fit, clock_answer, clear_answer, attributes_answer, why_answer}
use Rattle.column.specs.Calls.{reason_at, why_of}

-- the attributes of n slices, all 0
abbrev plain : (n : ℕ) → List ℕ
plain n = replicate (attribute_words * n) 0

-- the registers of n slices, all 0
abbrev blank : (n : ℕ) → List ℕ
blank n = replicate (register_words * n) 0

-- a slice's words, of which all others are 0
abbrev preg : List ℕ
preg = set (plain 1) 10 1

abbrev p_holds : ℕ → List ℕ
p_holds n = set (blank 1) 8 n

-- the carry's register 1
abbrev carry_held : List ℕ
carry_held = set (blank 1) 18 1

-- CARRYINSEL 2, CE P
abbrev carry_taken : List ℕ
carry_taken = 0 ∷ 0 ∷ 0 ∷ 0 ∷ 0 ∷ 0 ∷ 0 ∷ 2 ∷ 0 ∷ 256 ∷ 0 ∷ []

-- C and OPMODE, CE P
abbrev c_and_opmode : ℕ → ℕ → List ℕ
c_and_opmode c opmode = 0 ∷ 0 ∷ c ∷ 0 ∷ opmode ∷ 0 ∷ 0 ∷ 0 ∷ 0 ∷ 256 ∷ 0 ∷ []

abbrev told : {A : Type 0} → Result A Refusal → List ℕ
told a = number_of a ∷ place_of a ∷ []

abbrev one : (at rs ps : List ℕ) → List ℕ
one at rs ps = told (clock_answer 1 at rs ps (replicate output_words 0))

abbrev two : (at rs ps : List ℕ) → List ℕ
two at rs ps = told (clock_answer 2 at rs ps (replicate (output_words * 2) 0))

-- the answer of `why` of slice k by number and place, and the reason's words, or zeros
abbrev why : (count : ℕ) → (at rs ps : List ℕ) → (k : ℕ) → List ℕ
why count at rs ps k = told (why_of count at rs ps k) ++ reason_words (result_unwrap_or (why_of count at rs ps k) no_reason)

-- the packed run's settings (01, "Packed run")
abbrev packed : List ℕ
packed = 1 ∷ 2 ∷ 1 ∷ 2 ∷ 0 ∷ 0 ∷ 0 ∷ 1 ∷ 1 ∷ 1 ∷ 1 ∷ 0 ∷ 0 ∷ 0 ∷ 0 ∷ 0 ∷ 1 ∷ 1 ∷ replicate (attribute_words - 18) 0

abbrev packed_ports : List ℕ
packed_ports = 0 ∷ 0 ∷ 0 ∷ 0 ∷ 21 ∷ 0 ∷ 4 ∷ 0 ∷ 0 ∷ 8191 ∷ 0 ∷ []

pub record Neighbours : Type 0 where
  -- two slices with PREG 1, P 40 below and 2 above; below loads C (100), above adds PCIN (40, from before the edge) to its own P
  pub before_the_edge : column_next 2 (preg ++ preg) (p_holds 40 ++ p_holds 2) (c_and_opmode 100 12 ++ c_and_opmode 0 18)
      ≡ p_holds 100 ++ p_holds 42
  pub shown_before : column_shown 2 (preg ++ preg) (p_holds 40 ++ p_holds 2) (c_and_opmode 100 12 ++ c_and_opmode 0 18)
      ≡ 40 ∷ 0 ∷ 0 ∷ 0 ∷ 0 ∷ 0 ∷ 0 ∷ 2 ∷ 0 ∷ 0 ∷ 0 ∷ 0 ∷ 0 ∷ 0 ∷ []
  -- the carry goes up likewise: held 1 below, where 0 settles; above takes the 1 by CARRYINSEL 2
  pub carry_before : column_next 2 (preg ++ preg) (carry_held ++ blank 1) (c_and_opmode 100 12 ++ carry_taken) ≡ p_holds 100 ++ p_holds 1
  pub carry_shown : column_shown 2 (preg ++ preg) (carry_held ++ blank 1) (c_and_opmode 100 12 ++ carry_taken)
      ≡ 0 ∷ 0 ∷ 0 ∷ 0 ∷ 0 ∷ 0 ∷ 1 ∷ replicate 7 0

pub record Refused : Type 0 where
  pub none : one (plain 1) (blank 1) (replicate 11 0) ≡ 0 ∷ 0 ∷ []
  pub no_slices : told (clock_answer 0 [] [] [] []) ≡ 1 ∷ 0 ∷ []
  pub too_many : told (clock_answer 25 [] [] [] []) ≡ 1 ∷ 0 ∷ []
  pub a_word_short : one (replicate (attribute_words - 1) 0) (blank 1) (replicate 11 0) ≡ 2 ∷ 0 ∷ []
  -- seven outputs a slice (02, Ask 4 and 7), not six and not eight; 19 registers, not 18
  pub outputs : (told (clock_answer 1 (plain 1) (blank 1) (replicate 11 0) (replicate 6 0)) ≡ 2 ∷ 0 ∷ [])
      × (told (clock_answer 1 (plain 1) (blank 1) (replicate 11 0) (replicate 7 0)) ≡ 0 ∷ 0 ∷ [])
      × (told (clock_answer 1 (plain 1) (blank 1) (replicate 11 0) (replicate 8 0)) ≡ 2 ∷ 0 ∷ [])
  pub registers : (one (plain 1) (replicate 18 0) (replicate 11 0) ≡ 2 ∷ 0 ∷ []) × (one (plain 1) (replicate 19 0) (replicate 11 0) ≡ 0 ∷ 0 ∷ [])
  -- slice 1 has AREG 1 with ACASCREG 0
  pub attribute : two (plain 1 ++ set (plain 1) 0 1) (blank 2) (replicate 22 0) ≡ 3 ∷ 1 ∷ []
  -- USE_SIMD 2 is accepted; 3 in slice 1, or 1 with USE_MULT, is refused before slice 0's register A1
  pub simd : (one (set (plain 1) 21 2) (blank 1) (replicate 11 0) ≡ 0 ∷ 0 ∷ [])
      × (two (plain 1 ++ set (plain 1) 21 3) (set (blank 2) 0 (2 ^ 30)) (replicate 22 0) ≡ 3 ∷ 1 ∷ [])
      × (two (plain 1 ++ set (set (plain 1) 16 1) 21 1) (set (blank 2) 0 (2 ^ 30)) (replicate 22 0) ≡ 3 ∷ 1 ∷ [])
  -- slice 1's register A1 is 2^30, and slice 0's port RST 2^10
  pub register_first : two (plain 2) (blank 1 ++ set (blank 1) 0 (2 ^ 30)) (replicate 10 0 ++ (2 ^ 10 ∷ replicate 11 0)) ≡ 4 ∷ 1 ∷ []
  -- the carry has one bit
  pub carry_over : (one (plain 1) carry_held (replicate 11 0) ≡ 0 ∷ 0 ∷ []) × (two (plain 2) (blank 1 ++ set (blank 1) 18 2) (replicate 22 0) ≡ 4 ∷ 1 ∷ [])
  pub port : two (plain 2) (blank 2) (replicate 10 0 ++ (2 ^ 10 ∷ replicate 11 0)) ≡ 5 ∷ 0 ∷ []
  -- INMODE 1 with AREG 0 in slice 1, and OPMODE 1 in slice 0: 6 comes before 7
  pub inmode_first : two (plain 2) (blank 2) ((replicate 4 0 ++ (1 ∷ replicate 6 0)) ++ (replicate 6 0 ++ (1 ∷ replicate 4 0))) ≡ 6 ∷ 1 ∷ []
  pub opmode : two (plain 2) (blank 2) ((replicate 4 0 ++ (1 ∷ replicate 6 0)) ++ (replicate 4 0 ++ (1 ∷ replicate 6 0))) ≡ 7 ∷ 0 ∷ []
  pub alumode : one (plain 1) (blank 1) (replicate 5 0 ++ (8 ∷ replicate 5 0)) ≡ 8 ∷ 0 ∷ []
  -- CARRYINSEL 4 is refused, 2 (02, Ask 7) is not
  pub carryinsel : (one (plain 1) (blank 1) (replicate 7 0 ++ (4 ∷ replicate 3 0)) ≡ 9 ∷ 0 ∷ [])
      × (one (plain 1) (blank 1) (replicate 7 0 ++ (2 ∷ replicate 3 0)) ≡ 0 ∷ 0 ∷ [])
  -- a control register in effect that holds a forbidden setting refuses by itself
  pub held : one (set (plain 1) 11 1) (set (blank 1) 9 64) (replicate 11 0) ≡ 7 ∷ 0 ∷ []
  pub clearing : (told (clear_answer 0 []) ≡ 1 ∷ 0 ∷ []) × (told (clear_answer 1 []) ≡ 2 ∷ 0 ∷ []) × (told (clear_answer 1 (replicate register_words 9)) ≡ 0 ∷ 0 ∷ [])
  -- the attributes alone: none; AREG 3 with ACASCREG 3 in slice 1; USE_MULT 2 in slice 0; a word too many
  pub alone : (told (attributes_answer 1 (plain 1)) ≡ 0 ∷ 0 ∷ [])
      × (told (attributes_answer 2 (plain 1 ++ set (set (plain 1) 0 3) 2 3)) ≡ 3 ∷ 1 ∷ [])
      × (told (attributes_answer 1 (set (plain 1) 16 2)) ≡ 3 ∷ 0 ∷ [])
      × (told (attributes_answer 1 (0 ∷ plain 1)) ≡ 2 ∷ 0 ∷ [])

-- number and place; W, X, Y, Z, CIN; their places; the rule, USE_SIMD, the result
pub record Whys : Type 0 where
  -- the two slices of `Neighbours`: below C 100 is Y, above Z is PCIN (40, from before the edge) and X its own P
  pub lower : why 2 (preg ++ preg) (p_holds 40 ++ p_holds 2) (c_and_opmode 100 12 ++ c_and_opmode 0 18) 0
      ≡ 0 ∷ 0 ∷ 0 ∷ 0 ∷ 100 ∷ 0 ∷ 0 ∷ 0 ∷ 0 ∷ 5 ∷ 0 ∷ 10 ∷ 1 ∷ 0 ∷ 100 ∷ []
  pub upper : why 2 (preg ++ preg) (p_holds 40 ++ p_holds 2) (c_and_opmode 100 12 ++ c_and_opmode 0 18) 1
      ≡ 0 ∷ 0 ∷ 0 ∷ 2 ∷ 0 ∷ 40 ∷ 0 ∷ 0 ∷ 2 ∷ 0 ∷ 6 ∷ 10 ∷ 1 ∷ 0 ∷ 42 ∷ []
  -- the carry of the slice below is CIN, at place 15; at the bottom it is 0
  pub carry_above : why 2 (preg ++ preg) (carry_held ++ blank 1) (c_and_opmode 100 12 ++ carry_taken) 1
      ≡ 0 ∷ 0 ∷ 0 ∷ 0 ∷ 0 ∷ 0 ∷ 1 ∷ 0 ∷ 0 ∷ 0 ∷ 0 ∷ 15 ∷ 1 ∷ 0 ∷ 1 ∷ []
  pub carry_bottom : why 1 preg carry_held carry_taken 0 ≡ 0 ∷ 0 ∷ 0 ∷ 0 ∷ 0 ∷ 0 ∷ 0 ∷ 0 ∷ 0 ∷ 0 ∷ 0 ∷ 15 ∷ 1 ∷ 0 ∷ 0 ∷ []
  -- the packed setting's slice 1, which holds M 3, over P 12: X is M, Z is PCIN, and Y's place is 0
  pub packed_slice : why 2 (packed ++ packed) (p_holds 12 ++ set (p_holds 77) 7 3) (packed_ports ++ packed_ports) 1
      ≡ 0 ∷ 0 ∷ 0 ∷ 3 ∷ 0 ∷ 12 ∷ 0 ∷ 0 ∷ 1 ∷ 0 ∷ 6 ∷ 10 ∷ 1 ∷ 0 ∷ 15 ∷ []
  -- every refusal gives zeros: 1 before 2; 2 of each length, before 13; 13 at the count, before 3; 3 of a slice above the one asked for
  pub no_slices : why 0 [] [] [] 0 ≡ 1 ∷ 0 ∷ replicate 13 0
  pub short : (why 1 (replicate (attribute_words - 1) 0) (blank 1) (replicate 11 0) 1 ≡ 2 ∷ 0 ∷ replicate 13 0)
      × (why 1 (plain 1) (replicate (register_words - 1) 0) (replicate 11 0) 1 ≡ 2 ∷ 0 ∷ replicate 13 0)
      × (why 1 (plain 1) (blank 1) (replicate 12 0) 1 ≡ 2 ∷ 0 ∷ replicate 13 0)
  pub no_such_slice : why 1 (set (plain 1) 0 3) (blank 1) (replicate 11 0) 1 ≡ 13 ∷ 0 ∷ replicate 13 0
  pub faulty_above : why 2 (plain 1 ++ set (plain 1) 0 3) (blank 2) (replicate 22 0) 0 ≡ 3 ∷ 1 ∷ replicate 13 0

pub neighbours : Neighbours
unfolding column_next column_shown next_at shown_at cascade_into slice_next next_of edge load slice_outputs slice_cascade outputs_of_settled cascade_of slice_settled settled_of settled_carry carry_out result_of slice_operands operands_of selects_of product_of left_of right_of pre_added_of a_side d_side controls_of paths_of split_result unit_result lanes arithmetic logic_rows wrapped_sum pre_adder product detected unmasked
neighbours = record { before_the_edge = refl; shown_before = refl; carry_before = refl; carry_shown = refl }

pub refused : Refused
unfolding clock_answer clear_answer attributes_answer lengths_fit rules settings fails broken breaks exceeds off_list bad_inmode bad_opmode bad_alumode bad_carryinsel controls_of selects_of
refused =
    record {
      none = refl;
      no_slices = refl;
      too_many = refl;
      a_word_short = refl;
      outputs = (refl, refl, refl);
      registers = (refl, refl);
      attribute = refl;
      simd = (refl, refl, refl);
      register_first = refl;
      carry_over = (refl, refl);
      port = refl;
      inmode_first = refl;
      opmode = refl;
      alumode = refl;
      carryinsel = (refl, refl);
      held = refl;
      clearing = (refl, refl, refl);
      alone = (refl, refl, refl, refl);
    }

pub whys : Whys
unfolding why_of why_answer inputs_fit settings rules fails broken breaks exceeds off_list bad_inmode bad_opmode bad_alumode bad_carryinsel reason_at reason_of reason_words places_of rule_of cascade_into slice_outputs slice_cascade outputs_of_settled cascade_of slice_settled settled_of settled_carry carry_out result_of slice_operands operands_of selects_of product_of left_of right_of pre_added_of a_side d_side controls_of paths_of split_result unit_result lanes arithmetic logic_rows wrapped_sum pre_adder product detected unmasked
whys =
    record {
      lower = refl;
      upper = refl;
      carry_above = refl;
      carry_bottom = refl;
      packed_slice = refl;
      no_slices = refl;
      short = (refl, refl, refl);
      no_such_slice = refl;
      faulty_above = refl;
    }
