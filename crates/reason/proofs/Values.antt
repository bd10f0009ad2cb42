-- Facts by value that pin the places and the rules: each stands beside a slip that would break it. Assumes nothing.
use mathlib.Core.Path.{◌≡◌, refl}
use mathlib.Core.List.{List, [], ◌∷◌, ◌++◌, map}
use Prim.Native.Nat.{ℕ, ◌-◌, ◌^◌}
use lib.ListN.{replicate}
use Rattle.unit.specs.Unit.{ones, arithmetic, lanes, logic_rows, unit_result, split_result, carry_out, wrapped_sum, pre_adder, product}
use Rattle.unit.specs.Detector.{unmasked, detected}
use Rattle.records.specs.declared.Attributes.{Attributes}
use Rattle.records.specs.declared.Registers.{Registers}
use Rattle.records.specs.declared.Ports.{Ports}
use Rattle.slice.specs.declared.inputs.Cascade.{Cascade}
use Rattle.records.specs.Records.{attributes_of, registers_of, ports_of}
use Rattle.slice.specs.Slice.{controls_of, selects_of, paths_of, a_side, d_side, pre_added_of, left_of, right_of, product_of, operands_of, slice_operands, result_of, settled_carry, settled_of, slice_settled}
use Rattle.reason.specs.Reason.{place_number, w_place, x_place, y_place, z_place, cin_place, places_of, rule_number, rule_of, reason_of, no_reason, reason_words}

abbrev told : Attributes → Registers → Ports → Cascade → List ℕ
told a r p x = reason_words (reason_of a r p x)

-- settings, of which all others are 0: none; the packed run's (01, "Packed run"); RND 9; USE_SIMD 2
abbrev plain : Attributes
plain = attributes_of []

abbrev packed : Attributes
packed = attributes_of (1 ∷ 2 ∷ 1 ∷ 2 ∷ 0 ∷ 0 ∷ 0 ∷ 1 ∷ 1 ∷ 1 ∷ 1 ∷ 0 ∷ 0 ∷ 0 ∷ 0 ∷ 0 ∷ 1 ∷ 1 ∷ [])

abbrev rounding : Attributes
rounding = attributes_of (replicate 18 0 ++ (9 ∷ []))

abbrev four12 : Attributes
four12 = attributes_of (replicate 21 0 ++ (2 ∷ []))

-- M and P
abbrev holding : (m p : ℕ) → Registers
holding m p = registers_of (replicate 7 0 ++ (m ∷ p ∷ []))

-- A 0, B, C, D 0, OPMODE, ALUMODE, INMODE, CARRYINSEL and CARRYIN
abbrev given : (b c opmode alumode inmode carryinsel carryin : ℕ) → Ports
given b c opmode alumode inmode carryinsel carryin = ports_of (0 ∷ b ∷ c ∷ 0 ∷ opmode ∷ alumode ∷ inmode ∷ carryinsel ∷ carryin ∷ [])

-- PCIN, and a carry
abbrev below : ℕ → Cascade
below p = record { a = 0; b = 0; p = p; carry = 1 }

-- CIN and its place: P is 5, whose bit 47 is 0, PCIN 2^47, and the slice below shows a carry
abbrev carry : (carryinsel : ℕ) → List ℕ
carry carryinsel =
    (reason_of plain (holding 0 5) (given 0 0 0 0 0 carryinsel 1) (below (2 ^ 47))).values.cin
    ∷ place_number (reason_of plain (holding 0 5) (given 0 0 0 0 0 carryinsel 1) (below (2 ^ 47))).places.cin
    ∷ []

-- the numbers of the places that the selects 0 to 8 name
abbrev selects : List ℕ
selects = 0 ∷ 1 ∷ 2 ∷ 3 ∷ 4 ∷ 5 ∷ 6 ∷ 7 ∷ 8 ∷ []

-- the numbers of the rules of modes 0 to 16
abbrev rules : (y : ℕ) → List ℕ
rules y =
    map (λ mode. rule_number (rule_of mode y)) (0 ∷ 1 ∷ 2 ∷ 3 ∷ 4 ∷ 5 ∷ 6 ∷ 7 ∷ 8 ∷ 9 ∷ 10 ∷ 11 ∷ 12 ∷ 13 ∷ 14 ∷ 15 ∷ 16 ∷ [])

-- each list: W, X, Y, Z, CIN; their places; the rule, USE_SIMD, the result
pub record Reasons : Type 0 where
  -- the packed setting above another slice: M 3 in X, PCIN 12 in Z, and Y's place is 0 though X and Y are both 1
  pub packed_slice : told packed (holding 3 77) (given 0 0 21 0 4 0 0) (below 12)
      ≡ 0 ∷ 3 ∷ 0 ∷ 12 ∷ 0 ∷ 0 ∷ 1 ∷ 0 ∷ 6 ∷ 10 ∷ 1 ∷ 0 ∷ 15 ∷ []
  -- M is sign-extended
  pub m_below_0 : told packed (holding (2 ^ 45 - 1) 0) (given 0 0 21 0 4 0 0) (below 12)
      ≡ 0 ∷ (2 ^ 48 - 1) ∷ 0 ∷ 12 ∷ 0 ∷ 0 ∷ 1 ∷ 0 ∷ 6 ∷ 10 ∷ 1 ∷ 0 ∷ 11 ∷ []
  -- a logic row, X 12 and Z 10: mode 12 with Y 0 is and, with Y 2 or; CARRYIN 1 is given as selected
  pub and_row : told plain (holding 0 0) (given 12 10 51 12 0 0 1) (below 0)
      ≡ 0 ∷ 12 ∷ 0 ∷ 10 ∷ 1 ∷ 0 ∷ 3 ∷ 0 ∷ 5 ∷ 10 ∷ 7 ∷ 0 ∷ 8 ∷ []
  pub or_row : told plain (holding 0 0) (given 12 10 59 12 0 0 0) (below 0)
      ≡ 0 ∷ 12 ∷ ones 48 ∷ 10 ∷ 0 ∷ 0 ∷ 3 ∷ 4 ∷ 5 ∷ 10 ∷ 8 ∷ 0 ∷ 14 ∷ []
  -- X A:B with Y C: 01's worked example
  pub worked : told plain (holding 0 0) (given 5 7 15 0 0 0 0) (below 0)
      ≡ 0 ∷ 5 ∷ 7 ∷ 0 ∷ 0 ∷ 0 ∷ 3 ∷ 5 ∷ 0 ∷ 10 ∷ 1 ∷ 0 ∷ 12 ∷ []
  -- W RND, and a place is its select's though it holds 0
  pub rnd : told rounding (holding 0 0) (given 0 0 271 0 0 0 0) (below 0)
      ≡ 9 ∷ 0 ∷ 0 ∷ 0 ∷ 0 ∷ 9 ∷ 3 ∷ 5 ∷ 0 ∷ 10 ∷ 1 ∷ 0 ∷ 9 ∷ []
  -- mode 3 in four lanes: PCIN 0 less C 1 borrows in the lowest lane alone
  pub four_lanes : told four12 (holding 0 0) (given 0 1 28 3 0 0 0) (below 0)
      ≡ 0 ∷ 0 ∷ 1 ∷ 0 ∷ 0 ∷ 0 ∷ 0 ∷ 5 ∷ 6 ∷ 10 ∷ 4 ∷ 2 ∷ 4095 ∷ []
  -- Z shifted: of P 2^18, and of PCIN 2^19
  pub z_shifted : told plain (holding 0 (2 ^ 18)) (given 0 0 96 0 0 0 0) (below (2 ^ 19))
      ≡ 0 ∷ 0 ∷ 0 ∷ 2 ∷ 0 ∷ 0 ∷ 0 ∷ 0 ∷ 8 ∷ 10 ∷ 1 ∷ 0 ∷ 2 ∷ []
  pub carries : (carry 0 ≡ 1 ∷ 10 ∷ []) × (carry 1 ≡ 0 ∷ 12 ∷ []) × (carry 2 ≡ 1 ∷ 15 ∷ []) × (carry 3 ≡ 1 ∷ 11 ∷ []) × (carry 5 ≡ 1 ∷ 14 ∷ []) × (carry 7 ≡ 0 ∷ 13 ∷ [])
  -- every select of every operand, those refused and one past the last among them
  pub w_places : map (λ s. place_number (w_place s)) selects ≡ 0 ∷ 2 ∷ 9 ∷ 5 ∷ replicate 5 0
  pub x_places : map (λ s. place_number (x_place s)) selects ≡ 0 ∷ 1 ∷ 2 ∷ 3 ∷ replicate 5 0
  pub y_places : map (λ s. place_number (y_place s)) selects ≡ 0 ∷ 0 ∷ 4 ∷ 5 ∷ replicate 5 0
  pub z_places : map (λ s. place_number (z_place s)) selects ≡ 0 ∷ 6 ∷ 2 ∷ 5 ∷ 0 ∷ 7 ∷ 8 ∷ 0 ∷ 0 ∷ []
  pub cin_places : map (λ s. place_number (cin_place s)) selects ≡ 10 ∷ 12 ∷ 15 ∷ 11 ∷ 0 ∷ 14 ∷ 0 ∷ 13 ∷ 0 ∷ []
  -- every mode, those refused and 16 among them, with Y 0 and with Y all ones
  pub with_y_0 : rules 0 ≡ 1 ∷ 2 ∷ 3 ∷ 4 ∷ 5 ∷ 6 ∷ 6 ∷ 5 ∷ 0 ∷ 0 ∷ 0 ∷ 0 ∷ 7 ∷ 9 ∷ 11 ∷ 13 ∷ 0 ∷ []
  pub with_y_ones : rules (ones 48) ≡ 1 ∷ 2 ∷ 3 ∷ 4 ∷ 6 ∷ 5 ∷ 5 ∷ 6 ∷ 0 ∷ 0 ∷ 0 ∷ 0 ∷ 8 ∷ 10 ∷ 12 ∷ 14 ∷ 0 ∷ []
  -- of a refused call
  pub zeros : reason_words no_reason ≡ replicate 13 0

pub reasons : Reasons
unfolding reason_words reason_of places_of rule_of slice_settled settled_of settled_carry carry_out result_of slice_operands operands_of selects_of product_of left_of right_of pre_added_of a_side d_side controls_of paths_of split_result unit_result lanes arithmetic logic_rows wrapped_sum pre_adder product detected unmasked
reasons =
    record {
      packed_slice = refl;
      m_below_0 = refl;
      and_row = refl;
      or_row = refl;
      worked = refl;
      rnd = refl;
      four_lanes = refl;
      z_shifted = refl;
      carries = (refl, refl, refl, refl, refl, refl);
      w_places = refl;
      x_places = refl;
      y_places = refl;
      z_places = refl;
      cin_places = refl;
      with_y_0 = refl;
      with_y_ones = refl;
      zeros = refl;
    }
