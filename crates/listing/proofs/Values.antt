-- Facts by value that pin the listing's definitions: each stands beside a slip that would break it. Assumes nothing.
use mathlib.Core.Path.{◌≡◌, refl}
use mathlib.Core.Bool.{false}
use mathlib.Core.List.{List, [], ◌∷◌, ◌++◌}
use Prim.Native.Nat.{ℕ, ◌-◌, ◌^◌}
use lib.ListN.{replicate}
use Rattle.records.specs.Records.{exceeds}
use Rattle.text.specs.Printed.{printed, decimal_of}
use Rattle.text.specs.Numbers.{line_of}
use Rattle.event.specs.declared.Event.TheVariants.{Clocked}
use Rattle.event.specs.Letters.{letter_o, letter_m, letter_r, letter_e}
use Rattle.event.specs.Events.{bytes_within}
use Rattle.event.specs.Showing.{detects, shown}
use Rattle.column.specs.Column.{column_next, column_shown, shown_at, next_at, cascade_into}
use Rattle.column.specs.Refusals.{accepted, attributes_answer, clock_answer, rules, settings, lengths_fit as lengths_of_clock, fails, broken}
use Rattle.legal.specs.Legal.{off_list, bad_inmode, bad_opmode, bad_alumode, bad_carryinsel, breaks}
use Rattle.slice.specs.Slice.{controls_of, selects_of, slice_next, next_of, edge, slice_outputs, slice_cascade, outputs_of_settled, cascade_of, slice_settled, settled_of, settled_carry, result_of, slice_operands, operands_of, product_of, left_of, right_of, pre_added_of, a_side, d_side, paths_of}
use Rattle.unit.specs.Unit.{unit_result, split_result, carry_out, arithmetic, lanes, logic_rows, wrapped_sum, pre_adder, product, load}
use Rattle.unit.specs.Detector.{detected, unmasked}
use Rattle.player.specs.declared.Phase.TheVariants.{Head, Clocks}
use Rattle.player.specs.declared.Shows.TheVariants.{Outputs}
use Rattle.player.specs.declared.Player.{Player}
use Rattle.listing.specs.Letters.{letter_n, letter_a, letter_p}
use Rattle.listing.specs.Steps.{head_step, begin_step, shown_step, group_step, answered, clock_step, end_of}
use Rattle.listing.specs.Listing.{settings_line, clocked_registers, clocked_outputs, Play, start, turn_bytes, byte_turn, end_says, listing}
use Rattle.player.specs.Fitting.{fits as fits_by}
use Rattle.listing.specs.Calls.{lending, play_of, played, lent_after, goes_after, outcome_of, end_bytes}

-- ---- lines, printed as the output is: a letter, each number after a tab, and a newline

abbrev pub n_line : (count : ℕ) → List ℕ
n_line count = printed letter_n (count ∷ [])

abbrev pub a_line : (areg : ℕ) → List ℕ
a_line areg = printed letter_a (areg ∷ replicate 20 0)

-- of 22 numbers
abbrev simd_line : (simd : ℕ) → List ℕ
simd_line simd = printed letter_a (replicate 21 0 ++ (simd ∷ []))

abbrev pub p_line : (b c opmode : ℕ) → List ℕ
p_line b c opmode = printed letter_p (0 ∷ b ∷ c ∷ 0 ∷ opmode ∷ 0 ∷ 0 ∷ 0 ∷ 0 ∷ 0 ∷ 0 ∷ [])

abbrev pub refused : (number clocks place : ℕ) → List ℕ
refused number clocks place = printed letter_r (number ∷ clocks ∷ place ∷ [])

-- N, A, P, O, M, R, E
letters : letter_n ∷ letter_a ∷ letter_p ∷ letter_o ∷ letter_m ∷ letter_r ∷ letter_e ∷ [] ≡ 78 ∷ 65 ∷ 80 ∷ 79 ∷ 77 ∷ 82 ∷ 69 ∷ []
letters = refl

-- ---- listings that end before a clock is run

pub record Unclocked : Type 0 where
  -- a missing line is 12 at the line after the last
  pub no_text : listing [] ≡ refused 12 0 1
  -- number 1 with place 0, as soon as `N` is read, whatever follows
  pub too_many : listing (n_line 25 ++ (88 ∷ [])) ≡ refused 1 0 0
  pub none : listing (n_line 0) ≡ refused 1 0 0
  -- 24 slices are let in, and then a line is missing
  pub most : listing (n_line 24) ≡ refused 12 0 2
  -- N 25 without its newline is 12 at that line, and so is a `P` line
  pub unended : listing (78 ∷ 9 ∷ 50 ∷ 53 ∷ []) ≡ refused 12 0 1
  pub unended_later : listing (n_line 1 ++ (a_line 0 ++ (80 ∷ []))) ≡ refused 12 0 3
  -- no `P` lines: `E 0`, after number 3
  pub no_clocks : listing (n_line 1 ++ a_line 0) ≡ printed letter_e (0 ∷ [])
  pub attribute_off_list : listing (n_line 1 ++ a_line 3) ≡ refused 3 0 0
  -- number 3 waits for the last `A` line, so a malformed one comes first
  pub malformed_first : listing (n_line 2 ++ (a_line 3 ++ n_line 1)) ≡ refused 12 0 3
  -- `A` lines of both lengths in one listing, and USE_SIMD 3 in the second of them
  pub both_lengths : listing (n_line 2 ++ (a_line 0 ++ simd_line 2)) ≡ printed letter_e (0 ∷ [])
  pub simd_off_list : listing (n_line 2 ++ (a_line 0 ++ simd_line 3)) ≡ refused 3 0 1
  -- 20 or 23 numbers of an `A` line are 12, and 10 or 12 of a `P` line
  pub a_of_20 : listing (n_line 1 ++ printed letter_a (replicate 20 0)) ≡ refused 12 0 2
  pub a_of_23 : listing (n_line 1 ++ printed letter_a (replicate 23 0)) ≡ refused 12 0 2
  pub p_of_10 : listing (n_line 1 ++ (a_line 0 ++ printed letter_p (replicate 10 0))) ≡ refused 12 0 3
  pub p_of_12 : listing (n_line 1 ++ (a_line 0 ++ printed letter_p (replicate 12 0))) ≡ refused 12 0 3
  -- a line of another kind than is due
  pub early_p : listing (p_line 0 0 0) ≡ refused 12 0 1
  pub second_n : listing (n_line 1 ++ n_line 1) ≡ refused 12 0 2
  pub late_a : listing (n_line 1 ++ (a_line 0 ++ a_line 0)) ≡ refused 12 0 3
  -- a short last clock is 12 at the line after the last
  pub short_clock : listing (n_line 2 ++ (a_line 0 ++ (a_line 0 ++ p_line 0 0 0))) ≡ refused 12 0 5
  -- number 7 waits for the last line of its clock, so a malformed one comes first
  pub malformed_port_first : listing (n_line 2 ++ (a_line 0 ++ (a_line 0 ++ (p_line 0 0 1 ++ n_line 1)))) ≡ refused 12 0 5

pub unclocked : Unclocked
unfolding listing byte_turn head_step begin_step group_step answered settings_line line_of end_says end_of printed decimal_of attributes_answer fails broken exceeds off_list
unclocked =
    record {
      no_text = refl;
      too_many = refl;
      none = refl;
      most = refl;
      unended = refl;
      unended_later = refl;
      no_clocks = refl;
      attribute_off_list = refl;
      malformed_first = refl;
      both_lengths = refl;
      simd_off_list = refl;
      a_of_20 = refl;
      a_of_23 = refl;
      p_of_10 = refl;
      p_of_12 = refl;
      early_p = refl;
      second_n = refl;
      late_a = refl;
      short_clock = refl;
      malformed_port_first = refl;
    }

-- ---- listings with clocks

pub record OneClock : Type 0 where
  -- 01's worked example
  pub worked : listing (n_line 1 ++ (a_line 0 ++ p_line 5 7 15)) ≡ printed letter_o (0 ∷ 0 ∷ 12 ∷ 0 ∷ 0 ∷ 0 ∷ 0 ∷ 0 ∷ 0 ∷ []) ++ printed letter_e (1 ∷ [])
  -- TWO24, B 1 and C all ones: the low lane wraps, and the high one is as it was
  pub split : listing (n_line 1 ++ (simd_line 1 ++ p_line 1 281474976710655 15))
      ≡ printed letter_o (0 ∷ 0 ∷ 281474959933440 ∷ 0 ∷ 0 ∷ 0 ∷ 0 ∷ 0 ∷ 0 ∷ []) ++ printed letter_e (1 ∷ [])
  -- a forbidden OPMODE in the second clock: one clock was run, and the refused one prints no `O`
  pub refused_later : listing (n_line 1 ++ (a_line 0 ++ (p_line 5 7 15 ++ p_line 5 7 1)))
      ≡ printed letter_o (0 ∷ 0 ∷ 12 ∷ 0 ∷ 0 ∷ 0 ∷ 0 ∷ 0 ∷ 0 ∷ []) ++ refused 7 1 0
  -- bottom first: B over its width in the second line is 5 of slice 1
  pub port_over : listing (n_line 2 ++ (a_line 0 ++ (a_line 0 ++ (p_line 0 0 0 ++ p_line 262144 0 0)))) ≡ refused 5 0 1

pub one_clock : OneClock
unfolding listing byte_turn head_step begin_step group_step answered shown_step shown detects settings_line line_of end_says end_of printed decimal_of clocked_registers clocked_outputs attributes_answer clock_answer rules settings lengths_of_clock fails broken breaks exceeds column_next column_shown shown_at next_at cascade_into off_list bad_inmode bad_opmode bad_alumode bad_carryinsel controls_of selects_of slice_next next_of edge load slice_outputs slice_cascade outputs_of_settled cascade_of slice_settled settled_of settled_carry carry_out result_of slice_operands operands_of product_of left_of right_of pre_added_of a_side d_side paths_of split_result unit_result lanes arithmetic logic_rows wrapped_sum pre_adder product detected unmasked
one_clock = record { worked = refl; split = refl; refused_later = refl; port_over = refl }

-- a player whose `P` lines are due
abbrev player : (count given clocks lines held : ℕ) → Player
player count given clocks lines held =
    record { phase = Clocks; count = count; given = given; clocks = clocks; lines = lines; held = held; shows = Outputs }

-- an accepted clock is shown by its number, and counts
clock_counts : clock_step (player 2 1 7 9 0) accepted [] ≡ record { player = player 2 0 8 9 0; event = Clocked 7 }
unfolding answered shown_step shown
clock_counts = refl

-- ---- pieces, and what is lent

abbrev begun : (held : ℕ) → Play
begun held = record {
  player = record { phase = Head; count = 0; given = 0; clocks = 0; lines = 0; held = held; shows = Outputs };
  attributes = [];
  registers = [];
  ports = [];
  outputs = [];
  line = [];
}

pub record Pieces : Type 0 where
  -- a line has 512 bytes, and its 513th is 12 as soon as it is read
  pub byte_512 : turn_bytes (byte_turn (begun 511) 78) ≡ []
  pub byte_513 : turn_bytes (byte_turn (begun 512) 78) ≡ refused 12 0 1
  -- a byte is taken while 8,192 bytes are left; `R 1 0 0` takes 8 of them
  pub room : ((played 8192 start (78 ∷ [])).used ≡ 1) × ((played 8191 start (78 ∷ [])).used ≡ 0)
  pub room_left : ((played 8200 start (n_line 25 ++ (88 ∷ []))).used ≡ 6) × ((played 8199 start (n_line 25 ++ (88 ∷ []))).used ≡ 5)
  -- what is no player's is left as it is, and there is no more to play
  pub unlent : (let l = lending [] [] [] [] [] [] in
      ((outcome_of l (78 ∷ []) (0 ∷ [])).used ≡ 0) × (goes_after l (78 ∷ []) (0 ∷ []) ≡ false) × (lent_after l (78 ∷ []) (0 ∷ []) ≡ l))

pub pieces : Pieces
unfolding byte_turn head_step begin_step line_of printed decimal_of fits_by outcome_of goes_after lent_after play_of
pieces = record { byte_512 = refl; byte_513 = refl; room = (refl, refl); room_left = (refl, refl); unlent = (refl, refl, refl) }

pub record Ends : Type 0 where
  pub missing : end_bytes (replicate 8 0) (replicate 84 0) ≡ refused 12 0 1
  -- a line takes 84 bytes of room, and `E` 42
  pub no_room : end_bytes (replicate 8 0) (replicate 83 0) ≡ []
  pub end : end_bytes (2 ∷ 1 ∷ 0 ∷ 57 ∷ 59 ∷ 0 ∷ 0 ∷ 0 ∷ []) (replicate 42 0) ≡ printed letter_e (57 ∷ [])
  pub no_room_for_end : end_bytes (2 ∷ 1 ∷ 0 ∷ 57 ∷ 59 ∷ 0 ∷ 0 ∷ 0 ∷ []) (replicate 41 0) ≡ []
  pub no_player : end_bytes (replicate 7 0) (replicate 84 0) ≡ []
  pub no_line : end_bytes (0 ∷ 0 ∷ 0 ∷ 0 ∷ (2 ^ 64 - 1) ∷ 0 ∷ 0 ∷ 0 ∷ []) (replicate 84 0) ≡ []
  -- after a refusal the end prints nothing
  pub after_a_refusal : end_bytes (3 ∷ 1 ∷ 0 ∷ 0 ∷ 2 ∷ 0 ∷ 0 ∷ 0 ∷ []) (replicate 84 0) ≡ []

pub ends : Ends
unfolding end_bytes bytes_within end_of printed decimal_of
ends = record { missing = refl; no_room = refl; end = refl; no_room_for_end = refl; no_player = refl; no_line = refl; after_a_refusal = refl }
