-- Facts by value that pin the first match: each stands beside a slip that would break it. Assumes nothing.
use mathlib.Core.Path.{◌≡◌, refl}
use mathlib.Core.List.{List, [], ◌∷◌, ◌++◌}
use Prim.Native.Nat.{ℕ}
use lib.ListN.{replicate}
use Rattle.records.specs.Records.{exceeds}
use Rattle.column.specs.Column.{column_next, column_shown, shown_at, next_at, cascade_into}
use Rattle.column.specs.Refusals.{attributes_answer, clock_answer, rules, settings, lengths_fit as lengths_of_clock, fails, broken}
use Rattle.legal.specs.Legal.{off_list, bad_inmode, bad_opmode, bad_alumode, bad_carryinsel, breaks}
use Rattle.slice.specs.Slice.{controls_of, selects_of, slice_next, next_of, edge, slice_outputs, slice_cascade, outputs_of_settled, cascade_of, slice_settled, settled_of, settled_carry, result_of, slice_operands, operands_of, product_of, left_of, right_of, pre_added_of, a_side, d_side, paths_of}
use Rattle.unit.specs.Unit.{unit_result, split_result, carry_out, arithmetic, lanes, logic_rows, wrapped_sum, pre_adder, product, load}
use Rattle.unit.specs.Detector.{detected, unmasked}
use Rattle.text.specs.Printed.{printed, decimal_of}
use Rattle.text.specs.Numbers.{line_of}
use Rattle.event.specs.Letters.{letter_m, letter_e}
use Rattle.event.specs.Showing.{detects, shown}
use Rattle.listing.specs.Letters.{letter_n, letter_a, letter_p}
use Rattle.listing.specs.Steps.{head_step, begin_step, shown_step, group_step, answered, end_of}
use Rattle.listing.specs.Listing.{settings_line, clocked_registers, clocked_outputs, byte_turn, end_says, listing}
use Rattle.listing.proofs.Values.{a_line, p_line, refused}

-- `N`, the count and the slice
abbrev m_line : (count slice : ℕ) → List ℕ
m_line count slice = printed letter_n (count ∷ slice ∷ [])

abbrev match : (clock : ℕ) → List ℕ
match clock = printed letter_m (clock ∷ [])

abbrev end : (clocks : ℕ) → List ℕ
end clocks = printed letter_e (clocks ∷ [])

-- ---- `N` lines

pub record Heads : Type 0 where
  -- the top slice is let in, and then a line is missing
  pub top : listing (m_line 24 23) ≡ refused 12 0 2
  pub over : listing (m_line 24 24 ++ (88 ∷ [])) ≡ refused 13 0 0
  pub only : listing (m_line 1 0 ++ a_line 0) ≡ end 0
  pub only_over : listing (m_line 1 1) ≡ refused 13 0 0
  -- 12, then 1, then 13
  pub count_first : (listing (m_line 25 25) ≡ refused 1 0 0) × (listing (m_line 0 0) ≡ refused 1 0 0)
  pub four_fields : listing (printed letter_n (25 ∷ 25 ∷ 0 ∷ [])) ≡ refused 12 0 1
  pub one_field : listing (printed letter_n []) ≡ refused 12 0 1
  -- `N 1`, a tab and nothing
  pub empty_field : listing (78 ∷ 9 ∷ 49 ∷ 9 ∷ 10 ∷ []) ≡ refused 12 0 1

pub heads : Heads
unfolding listing byte_turn head_step begin_step group_step answered settings_line line_of end_says end_of printed decimal_of attributes_answer fails broken exceeds off_list
heads =
    record {
      top = refl;
      over = refl;
      only = refl;
      only_over = refl;
      count_first = (refl, refl);
      four_fields = refl;
      one_field = refl;
      empty_field = refl;
    }

-- ---- clocks: PATTERN and MASK are 0, so a slice shows PATTERNDETECT where P is 0

abbrev hit : List ℕ
hit = p_line 0 0 0

-- P 12
abbrev miss : List ℕ
miss = p_line 5 7 15

-- number 7
abbrev forbidden : List ℕ
forbidden = p_line 0 0 1

pub record OneSlice : Type 0 where
  pub in_clock_0 : listing (m_line 1 0 ++ (a_line 0 ++ hit)) ≡ match 0
  pub in_the_last_clock : listing (m_line 1 0 ++ (a_line 0 ++ (miss ++ hit))) ≡ match 1
  pub never : listing (m_line 1 0 ++ (a_line 0 ++ miss)) ≡ end 1
  -- the first of two, and nothing that follows it
  pub then_anything : listing (m_line 1 0 ++ (a_line 0 ++ (hit ++ (hit ++ (88 ∷ []))))) ≡ match 0
  -- a refusal a clock before it, and a clock after it
  pub refused_before : listing (m_line 1 0 ++ (a_line 0 ++ (miss ++ (forbidden ++ hit)))) ≡ refused 7 1 0
  pub refused_after : listing (m_line 1 0 ++ (a_line 0 ++ (hit ++ forbidden))) ≡ match 0

pub one_slice : OneSlice
unfolding listing byte_turn head_step begin_step group_step answered shown_step shown detects settings_line line_of end_says end_of printed decimal_of clocked_registers clocked_outputs attributes_answer clock_answer rules settings lengths_of_clock fails broken breaks exceeds column_next column_shown shown_at next_at cascade_into off_list bad_inmode bad_opmode bad_alumode bad_carryinsel controls_of selects_of slice_next next_of edge load slice_outputs slice_cascade outputs_of_settled cascade_of slice_settled settled_of settled_carry carry_out result_of slice_operands operands_of product_of left_of right_of pre_added_of a_side d_side paths_of split_result unit_result lanes arithmetic logic_rows wrapped_sum pre_adder product detected unmasked
one_slice =
    record {
      in_clock_0 = refl;
      in_the_last_clock = refl;
      never = refl;
      then_anything = refl;
      refused_before = refl;
      refused_after = refl;
    }

pub record TwoSlices : Type 0 where
  -- slice 0 alone shows it
  pub lower : listing (m_line 2 0 ++ (a_line 0 ++ (a_line 0 ++ (hit ++ miss)))) ≡ match 0
  pub another : listing (m_line 2 1 ++ (a_line 0 ++ (a_line 0 ++ (hit ++ miss)))) ≡ end 1
  pub upper : listing (m_line 2 1 ++ (a_line 0 ++ (a_line 0 ++ (miss ++ hit)))) ≡ match 0
  -- in a clock that is refused there is none
  pub refused_clock : listing (m_line 2 0 ++ (a_line 0 ++ (a_line 0 ++ (hit ++ forbidden)))) ≡ refused 7 0 1

pub two_slices : TwoSlices
unfolding listing byte_turn head_step begin_step group_step answered shown_step shown detects settings_line line_of end_says end_of printed decimal_of clocked_registers clocked_outputs attributes_answer clock_answer rules settings lengths_of_clock fails broken breaks exceeds column_next column_shown shown_at next_at cascade_into off_list bad_inmode bad_opmode bad_alumode bad_carryinsel controls_of selects_of slice_next next_of edge load slice_outputs slice_cascade outputs_of_settled cascade_of slice_settled settled_of settled_carry carry_out result_of slice_operands operands_of product_of left_of right_of pre_added_of a_side d_side paths_of split_result unit_result lanes arithmetic logic_rows wrapped_sum pre_adder product detected unmasked
two_slices = record { lower = refl; another = refl; upper = refl; refused_clock = refl }

-- PREG 1, and CE P: the cleared registers show none, and what clock 0 loads shows in clock 1
abbrev preg_line : List ℕ
preg_line = printed letter_a (replicate 10 0 ++ (1 ∷ replicate 10 0))

abbrev loading : List ℕ
loading = printed letter_p (replicate 9 0 ++ (256 ∷ 0 ∷ []))

pub record Registered : Type 0 where
  pub shows_later : listing (m_line 1 0 ++ (preg_line ++ (loading ++ loading))) ≡ match 1
  pub not_yet : listing (m_line 1 0 ++ (preg_line ++ loading)) ≡ end 1

pub registered : Registered
unfolding listing byte_turn head_step begin_step group_step answered shown_step shown detects settings_line line_of end_says end_of printed decimal_of clocked_registers clocked_outputs attributes_answer clock_answer rules settings lengths_of_clock fails broken breaks exceeds column_next column_shown shown_at next_at cascade_into off_list bad_inmode bad_opmode bad_alumode bad_carryinsel controls_of selects_of slice_next next_of edge load slice_outputs slice_cascade outputs_of_settled cascade_of slice_settled settled_of settled_carry carry_out result_of slice_operands operands_of product_of left_of right_of pre_added_of a_side d_side paths_of split_result unit_result lanes arithmetic logic_rows wrapped_sum pre_adder product detected unmasked
registered = record { shows_later = refl; not_yet = refl }
