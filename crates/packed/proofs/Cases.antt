-- 01, "Values to hold against": the twelve cases in a single statement; beside it "Slips the old model made", each as a fact that the
-- slip would break; and eight terms at their bound (02, Ask 6). All by computation from the definitions. Assumes nothing.
use Prim.Native.Nat.{ℕ, ◌+◌, ◌%◌, ◌^◌}
use mathlib.Core.Path.{◌≡◌, refl}
use mathlib.Core.List.{List, [], ◌∷◌}
use lib.ListN.{replicate}
use lib.IntN.{ℤ, pos, negsuc}
use lib.Signed.{shr_z}
use Rattle.word.specs.Word.{word, signed, shifted, high_sum, low_sum}
use Rattle.unit.specs.Choice.{bit}
use Rattle.unit.specs.Unit.{ones, arithmetic, lanes, logic_rows, unit_result, split_result, wrapped_sum, pre_adder, product, load}
use Rattle.unit.specs.Detector.{unmasked, detected}
use Rattle.slice.specs.Slice.{controls_of, selects_of, paths_of, a_side, d_side, pre_added_of, left_of, right_of, product_of, operands_of, slice_operands, result_of, settled_of, slice_settled, outputs_of_settled, cascade_of, edge, next_of, slice_outputs, slice_cascade, slice_next}
use Rattle.column.specs.Column.{cascade_into, shown_at, next_at, column_shown, column_next, after}
use Rattle.packed.specs.Packed.{batch, fed, run_attributes, run_ports, run_registers, top}

-- one row: its answers stand in the word of clock 0 + terms + 3
abbrev row : (terms : ℕ) → (a d b : List ℤ) → ℕ
row terms a d b = top (batch terms 1 a d b) (0 + terms + 3)

-- n numbers −128
abbrev lowest : (n : ℕ) → List ℤ
lowest n = replicate n (negsuc 127)

-- the unit is the clock's own, with USE_SIMD 0
pub record Cases : Type 0 where
  -- mode 0, X 5, Y 7: 12
  pub case1 : split_result 0 0 0 5 7 0 0 ≡ 12
  -- mode 3, Z 0, X 1: 281474976710655
  pub case2 : split_result 0 3 0 1 0 0 0 ≡ 281474976710655
  -- mode 1, all 0: 281474976710655
  pub case3 : split_result 0 1 0 0 0 0 0 ≡ 281474976710655
  -- mode 1, CIN 1 only: 0
  pub case4 : split_result 0 1 0 0 0 0 1 ≡ 0
  -- mode 0, four operands all ones, CIN 1: 281474976710653
  pub case5 : split_result 0 0 (ones 48) (ones 48) (ones 48) (ones 48) 1 ≡ 281474976710653
  -- mode 12, X 12, Z 10: Y 0 gives 8, Y all ones 14
  pub case6 : (split_result 0 12 0 12 0 10 0 ≡ 8) × (split_result 0 12 0 12 (ones 48) 10 0 ≡ 14)
  -- 2^47 shifted: 281473902968832
  pub case7 : shifted 48 17 (2 ^ 47) ≡ 281473902968832
  -- d 67108863 + a 1: 67108864, read as −67108864
  pub case8 : ((pre_adder 0 67108863 1).ad ≡ 67108864) × (signed 27 67108864 ≡ negsuc 67108863)
  -- −2^26 times −2^17: 8796093022208
  pub case9 : product (word 27 (negsuc 67108863)) (word 18 (negsuc 131071)) ≡ 8796093022208
  -- PATTERN 0, MASK 70368744177663: P 70368744177663 has PD 1; 70368744177664 neither; 211106232532992 has PBD 1
  pub case10 : ((detected 70368744177663 0 70368744177663).pd ≡ 1)
      × ((detected 70368744177664 0 70368744177663).pd ≡ 0)
      × ((detected 70368744177664 0 70368744177663).pbd ≡ 0)
      × ((detected 211106232532992 0 70368744177663).pbd ≡ 1)
  -- row (1, −1, 1): P 262143, high 1, low −1
  pub case11 : (row 1 (pos 1 ∷ []) (negsuc 0 ∷ []) (pos 1 ∷ []) ≡ 262143)
      × (high_sum (row 1 (pos 1 ∷ []) (negsuc 0 ∷ []) (pos 1 ∷ [])) ≡ pos 1)
      × (low_sum (row 1 (pos 1 ∷ []) (negsuc 0 ∷ []) (pos 1 ∷ [])) ≡ negsuc 0)
  -- seven terms all −128: 114688 and 114688
  pub case12 : (high_sum (row 7 (lowest 7) (lowest 7) (lowest 7)) ≡ pos 114688) × (low_sum (row 7 (lowest 7) (lowest 7) (lowest 7)) ≡ pos 114688)

pub cases : Cases
unfolding top fed run_attributes run_ports run_registers after column_shown column_next shown_at next_at cascade_into slice_next slice_outputs slice_cascade next_of edge load outputs_of_settled cascade_of slice_settled settled_of result_of slice_operands operands_of selects_of controls_of paths_of product_of left_of right_of pre_added_of a_side d_side split_result unit_result lanes arithmetic logic_rows wrapped_sum pre_adder product detected unmasked
cases =
    record {
      case1 = refl;
      case2 = refl;
      case3 = refl;
      case4 = refl;
      case5 = refl;
      case6 = (refl, refl);
      case7 = refl;
      case8 = (refl, refl);
      case9 = refl;
      case10 = (refl, refl, refl, refl);
      case11 = (refl, refl, refl);
      case12 = (refl, refl);
    }

pub record Slips : Type 0 where
  -- slice 1 reading slice 0's P after the edge: of 10 · 1 and 1 · 1 the first would be lost, and the high sum 1
  pub before_the_edge : high_sum (row 2 (pos 10 ∷ pos 1 ∷ []) (pos 0 ∷ pos 0 ∷ []) (pos 1 ∷ pos 1 ∷ [])) ≡ pos 11
  -- mode 3 adding CIN where it is subtracted: 6
  pub mode_3_takes_cin : split_result 0 3 0 0 0 5 1 ≡ 4
  -- the 17-bit shift filling with zeros: the top bit would be 0
  pub shift_keeps_sign : bit (shifted 48 17 (2 ^ 47)) 47 ≡ 1
  -- high sum taken without bit 17: 0 for case 11
  pub with_bit_17 : (shr_z (signed 48 262143) (2 ^ 18) ≡ pos 0) × (high_sum 262143 ≡ pos 1)
  -- −5 as 1..1010, which is −6; it is 1..1011
  pub minus_five : (word 48 (negsuc 4) % 2 ^ 4 ≡ 11) × (word 48 (negsuc 5) % 2 ^ 4 ≡ 10)

pub slips : Slips
unfolding top fed run_attributes run_ports run_registers after column_shown column_next shown_at next_at cascade_into slice_next slice_outputs slice_cascade next_of edge load outputs_of_settled cascade_of slice_settled settled_of result_of slice_operands operands_of selects_of controls_of paths_of product_of left_of right_of pre_added_of a_side d_side split_result unit_result lanes arithmetic wrapped_sum pre_adder product detected unmasked
slips = record { before_the_edge = refl; mode_3_takes_cin = refl; shift_keeps_sign = refl; with_bit_17 = (refl, refl); minus_five = (refl, refl) }

pub record Eight : Type 0 where
  -- all −128 but one b, −127: 7 · 16384 + 16256, twice
  pub one_less : (high_sum (row 8 (lowest 8) (lowest 8) (negsuc 126 ∷ lowest 7)) ≡ pos 130944)
      × (low_sum (row 8 (lowest 8) (lowest 8) (negsuc 126 ∷ lowest 7)) ≡ pos 130944)
  -- d all −128, b all 127: −8 · 16256, the least low sum; and a all 127
  pub least : (high_sum (row 8 (replicate 8 (pos 127)) (lowest 8) (replicate 8 (pos 127))) ≡ pos 129032)
      × (low_sum (row 8 (replicate 8 (pos 127)) (lowest 8) (replicate 8 (pos 127))) ≡ negsuc 130047)
  -- the row that is refused: 131072 twice, and what would be read for them is neither
  pub overfull_read : (high_sum (row 8 (lowest 8) (lowest 8) (lowest 8)) ≡ pos 131073) × (low_sum (row 8 (lowest 8) (lowest 8) (lowest 8)) ≡ negsuc 131071)

pub eight : Eight
unfolding top fed run_attributes run_ports run_registers after column_shown column_next shown_at next_at cascade_into slice_next slice_outputs slice_cascade next_of edge load outputs_of_settled cascade_of slice_settled settled_of result_of slice_operands operands_of selects_of controls_of paths_of product_of left_of right_of pre_added_of a_side d_side split_result unit_result lanes arithmetic wrapped_sum pre_adder product detected unmasked
eight = record { one_less = (refl, refl); least = (refl, refl); overfull_read = (refl, refl) }
