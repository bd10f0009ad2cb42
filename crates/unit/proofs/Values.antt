-- Values of the parts, in one statement, by computation: what 01's sentences say of the modes, the logic rows, the lanes, the pre-adder, the
-- detector, the load and the adder call. 01's twelve cases stand together in `packed`, `Cases`. Assumes nothing.
use Rattle.std.proofs.Common.{◌≡◌, ℕ, ◌+◌, ◌-◌, ◌*◌, ◌^◌, refl}
use Rattle.word.specs.Word.{extend}
use Rattle.unit.specs.declared.PreAdded.{PreAdded}
use Rattle.unit.specs.Unit.{ones, arithmetic, lanes, logic_rows, unit_result, split_result, carry_out, wrapped_sum, pre_adder, cut_mark, product, load, adder}
use Rattle.unit.specs.Detector.{unmasked, detected}

-- a logic mode's result at X 12 and Z 10, with a CIN that is ignored
abbrev row : (mode y : ℕ) → ℕ
row mode y = unit_result mode 0 12 y 10 1

-- what the pre-adder makes, and a side below 0 as its pattern of 27 bits
abbrev added : (ad wrap : ℕ) → PreAdded
added ad wrap = record { ad = ad; wrap = wrap }

abbrev minus : ℕ → ℕ
minus n = 2 ^ 27 - n

pub record Values : Type 0 where
  -- mode 2 is the complement of the sum, and mode 3 takes CIN off
  pub mode2 : unit_result 2 0 2 0 5 1 ≡ 281474976710647
  pub mode3 : (unit_result 3 0 0 0 5 1 ≡ 4) × (unit_result 3 0 2 0 5 1 ≡ 2)
  pub mode4 : (row 4 0 ≡ 6) × (row 4 (ones 48) ≡ 281474976710649)
  pub mode5 : (row 5 0 ≡ 281474976710649) × (row 5 (ones 48) ≡ 6)
  pub mode6 : (row 6 0 ≡ 281474976710649) × (row 6 (ones 48) ≡ 6)
  pub mode7 : (row 7 0 ≡ 6) × (row 7 (ones 48) ≡ 281474976710649)
  pub mode12 : (row 12 0 ≡ 8) × (row 12 (ones 48) ≡ 14)
  pub mode13 : (row 13 0 ≡ 4) × (row 13 (ones 48) ≡ 281474976710653)
  pub mode14 : (row 14 0 ≡ 281474976710647) × (row 14 (ones 48) ≡ 281474976710641)
  pub mode15 : (row 15 0 ≡ 281474976710651) × (row 15 (ones 48) ≡ 2)
  -- modes that are refused give 0, whatever their bits are; a Y that is refused is as one of all ones
  pub no_row : (row 8 0 ≡ 0) × (row 11 (ones 48) ≡ 0) × (row 16 0 ≡ 0) × (row 20 (ones 48) ≡ 0) × (row 28 0 ≡ 0)
  pub other_y : (row 12 1 ≡ 14) × (row 4 (2 ^ 63) ≡ 281474976710649)
  -- the lanes of USE_SIMD: TWO24 with X all ones and Y 1, whose low lane wraps to 0 (or to CIN) and leaves the high lane all ones; ONE48
  -- carries on
  pub two24 : (split_result 1 0 0 (ones 48) 1 0 0 ≡ 16777215 * 2 ^ 24) × (split_result 1 0 0 (ones 48) 1 0 1 ≡ 16777215 * 2 ^ 24 + 1)
      × (split_result 0 0 0 (ones 48) 1 0 0 ≡ 0)
  -- FOUR12 in mode 3 with Z 0 and X 1 in the lowest lane: that lane is all ones, the others are 0
  pub four12 : split_result 2 3 0 1 0 0 0 ≡ 4095
  -- modes 2 and 1 complement in each lane: of 1, 2, 3, 4 from the lowest up
  pub lanes2 : split_result 2 2 0 (1 + 2 * 2 ^ 12 + 3 * 2 ^ 24 + 4 * 2 ^ 36) 0 0 0 ≡ 4094 + 4093 * 2 ^ 12 + 4092 * 2 ^ 24 + 4091 * 2 ^ 36
  pub lanes1 : split_result 2 1 0 0 0 (1 + 2 * 2 ^ 12 + 3 * 2 ^ 24 + 4 * 2 ^ 36) 1 ≡ 4095 + 4093 * 2 ^ 12 + 4092 * 2 ^ 24 + 4091 * 2 ^ 36
  -- logic sees 48 bits
  pub logic : (split_result 2 5 0 12 0 10 0 ≡ 281474976710649) × (split_result 1 12 0 (ones 48) 0 (2 ^ 24 - 1) 0 ≡ 2 ^ 24 - 1)
  -- the carry (02, Ask 7): 2^48 is the least sum that makes it, by the words or by CIN alone, and leaves the result 0
  pub carried : (carry_out 0 0 0 0 (ones 48) 1 0 ≡ 1) × (split_result 0 0 0 (ones 48) 0 1 0 ≡ 0) × (carry_out 0 0 0 0 (ones 48) 0 0 ≡ 0)
  pub by_cin : (carry_out 0 0 0 0 (ones 48) 0 1 ≡ 1) × (carry_out 0 0 0 0 0 (ones 48) 1 ≡ 1) × (carry_out 0 0 0 0 0 0 1 ≡ 0)
  pub most_carried : (carry_out 0 0 0 0 (ones 48) (ones 48) 1 ≡ 1) × (split_result 0 0 0 (ones 48) 0 (ones 48) 1 ≡ ones 48)
  -- and 0 with ALUMODE 3 or a logic mode, W select 2, Y select 3, TWO24
  pub hidden : (carry_out 0 3 0 0 (ones 48) 1 0 ≡ 0) × (carry_out 0 12 0 0 (ones 48) 1 0 ≡ 0) × (carry_out 0 0 2 0 (ones 48) 1 0 ≡ 0)
      × (carry_out 0 0 0 3 (ones 48) 1 0 ≡ 0) × (carry_out 1 0 0 0 (ones 48) 1 0 ≡ 0)
  -- d - a below 0
  pub subtracts : pre_adder 1 0 1 ≡ added 134217727 0
  -- the pre-adder's mark (02, Ask 4): one over the highest, which is 01's case 8, and one under the lowest, by sum and by difference
  pub over : (pre_adder 0 67108863 1 ≡ added 67108864 1) × (pre_adder 1 67108863 (minus 1) ≡ added 67108864 1)
  pub under : (pre_adder 1 67108864 1 ≡ added 67108863 1) × (pre_adder 0 67108864 (minus 1) ≡ added 67108863 1)
  -- 0 - (-67108864) is one over the highest too; 0 + (-67108864), and both ends with 0, are in range
  pub lowest_turned : (pre_adder 1 0 67108864 ≡ added 67108864 1) × (pre_adder 0 0 67108864 ≡ added 67108864 0)
  pub ends : (pre_adder 0 67108863 0 ≡ added 67108863 0) × (pre_adder 1 67108863 0 ≡ added 67108863 0)
      × (pre_adder 0 67108864 0 ≡ added 67108864 0) × (pre_adder 1 67108864 0 ≡ added 67108864 0)
  -- the same words, whose sum wraps and whose difference does not, and the other way round
  pub sum_alone : (pre_adder 0 67108863 67108863 ≡ added 134217726 1) × (pre_adder 1 67108863 67108863 ≡ added 0 0)
  pub difference_alone : (pre_adder 0 67108863 (minus 67108863) ≡ added 0 0) × (pre_adder 1 67108863 (minus 67108863) ≡ added 134217726 1)
  -- patterns that carry out of 27 bits, where no signed sum leaves the range; those that borrow are `subtracts`
  pub carries : pre_adder 0 (minus 1) 1 ≡ added 0 0
  -- of a side the low 27 bits alone are read
  pub low_27 : pre_adder 0 (2 ^ 27 + 5) (2 ^ 30 + 7) ≡ added 12 0
  -- a product with either side below 0, and its extension
  pub below_0 : (product 134217727 1 ≡ 35184372088831) × (product 1 262143 ≡ 35184372088831)
  pub extends : extend 45 48 35184372088831 ≡ 281474976710655
  -- 18 bits extended to 27: the highest number, the lowest, and a pattern whose higher bits are not read
  pub extends_18 : (extend 18 27 131071 ≡ 131071) × (extend 18 27 131072 ≡ minus 131072) × (extend 18 27 (2 ^ 18 + 1) ≡ 1)
  -- the mark of a cut (02, Ask 9): 0 at the ends of 18 bits, 1 one beyond either, and for a number of which the cut leaves 0
  pub cuts : (cut_mark 18 27 131071 ≡ 0) × (cut_mark 18 27 131072 ≡ 1) × (cut_mark 18 27 (minus 131072) ≡ 0)
      × (cut_mark 18 27 (minus 131073) ≡ 1) × (cut_mark 18 27 (2 ^ 18) ≡ 1)
  -- with no mask a word is the pattern, its complement, or neither
  pub detects : ((detected 5 5 0).pd ≡ 1) × ((detected 5 5 0).pbd ≡ 0) × ((detected (ones 48 - 5) 5 0).pd ≡ 0) × ((detected (ones 48 - 5) 5 0).pbd ≡ 1)
      × ((detected 4 5 0).pd ≡ 0) × ((detected 4 5 1).pd ≡ 1)
  pub resets : (load 1 1 7 9 ≡ 0) × (load 1 0 7 9 ≡ 0)
  pub loads : load 0 1 7 9 ≡ 9
  pub keeps : load 0 0 7 9 ≡ 7
  pub over_width : (adder (2 ^ 48) 0 0 0 0 0 ≡ 2 ^ 48 + 5) × (adder 0 0 0 0 2 0 ≡ 2 ^ 48 + 5) × (adder 0 0 0 0 0 16 ≡ 2 ^ 48 + 5)
  pub forbids : (adder 0 0 0 0 0 8 ≡ 2 ^ 48 + 8) × (adder 0 0 0 0 0 11 ≡ 2 ^ 48 + 8)
      × (adder 1 0 0 0 0 4 ≡ 2 ^ 48 + 8) × (adder 0 0 1 0 0 4 ≡ 2 ^ 48 + 8)
  pub width_first : adder (2 ^ 48) 0 0 0 0 8 ≡ 2 ^ 48 + 5
  pub accepts : (adder 0 5 7 0 0 0 ≡ 12) × (adder 0 12 (ones 48) 10 1 12 ≡ 14)

pub values : Values
unfolding arithmetic lanes logic_rows unit_result split_result carry_out wrapped_sum pre_adder cut_mark product load adder unmasked detected
values =
    record {
      mode2 = refl;
      mode3 = (refl, refl);
      mode4 = (refl, refl);
      mode5 = (refl, refl);
      mode6 = (refl, refl);
      mode7 = (refl, refl);
      mode12 = (refl, refl);
      mode13 = (refl, refl);
      mode14 = (refl, refl);
      mode15 = (refl, refl);
      no_row = (refl, refl, refl, refl, refl);
      other_y = (refl, refl);
      two24 = (refl, refl, refl);
      four12 = refl;
      lanes2 = refl;
      lanes1 = refl;
      logic = (refl, refl);
      carried = (refl, refl, refl);
      by_cin = (refl, refl, refl);
      most_carried = (refl, refl);
      hidden = (refl, refl, refl, refl, refl);
      subtracts = refl;
      over = (refl, refl);
      under = (refl, refl);
      lowest_turned = (refl, refl);
      ends = (refl, refl, refl, refl);
      sum_alone = (refl, refl);
      difference_alone = (refl, refl);
      carries = refl;
      low_27 = refl;
      below_0 = (refl, refl);
      extends = refl;
      extends_18 = (refl, refl, refl);
      cuts = (refl, refl, refl, refl, refl);
      detects = (refl, refl, refl, refl, refl, refl);
      resets = (refl, refl);
      loads = refl;
      keeps = refl;
      over_width = (refl, refl, refl);
      forbids = (refl, refl, refl, refl);
      width_first = refl;
      accepts = (refl, refl);
    }
