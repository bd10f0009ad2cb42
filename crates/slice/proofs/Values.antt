-- Facts by value that pin the definitions of a slice: each stands beside a slip that would break it. Assumes nothing.
use mathlib.Core.Path.{◌≡◌, refl}
use mathlib.Core.List.{List, [], ◌∷◌, ◌++◌}
use lib.ListN.{replicate}
use Prim.Native.Nat.{ℕ, ◌+◌, ◌-◌, ◌*◌, ◌^◌}
use Rattle.unit.specs.Unit.{arithmetic, lanes, logic_rows, unit_result, split_result, carry_out, wrapped_sum, pre_adder, product, load}
use Rattle.unit.specs.Detector.{unmasked, detected}
use Rattle.records.specs.declared.Attributes.{Attributes}
use Rattle.records.specs.declared.Registers.{Registers}
use Rattle.records.specs.declared.Ports.{Ports}
use Rattle.slice.specs.declared.inputs.Cascade.{Cascade}
use Rattle.records.specs.Records.{attributes_of, registers_of, ports_of, outputs_words}
use Rattle.slice.specs.Slice.{controls_of, selects_of, paths_of, a_side, d_side, pre_added_of, left_of, right_of, product_of, operands_of, slice_operands, result_of, settled_carry, settled_of, slice_settled, outputs_of_settled, cascade_of, edge, next_of, slice_outputs, slice_cascade, slice_next}

-- settings, of which all others are 0
abbrev plain : Attributes
plain = attributes_of []

-- AREG 2 and BREG 2, with the cascade from the first register, or from the second
abbrev deep1 : Attributes
deep1 = attributes_of (2 ∷ 2 ∷ 1 ∷ 1 ∷ [])

abbrev deep2 : Attributes
deep2 = attributes_of (2 ∷ 2 ∷ 2 ∷ 2 ∷ [])

-- PREG 1, with a mask, or with none; USE_MULT 1; USE_MULT 1 with AMULTSEL 1
abbrev masking : (mask : ℕ) → Attributes
masking mask = attributes_of (replicate 10 0 ++ (1 ∷ replicate 9 0 ++ (mask ∷ [])))

abbrev registered : Attributes
registered = masking 0

abbrev multiplying : Attributes
multiplying = attributes_of (0 ∷ 0 ∷ 0 ∷ 0 ∷ 0 ∷ 0 ∷ 0 ∷ 0 ∷ 0 ∷ 0 ∷ 0 ∷ 0 ∷ 0 ∷ 0 ∷ 0 ∷ 0 ∷ 1 ∷ [])

abbrev preadding : Attributes
preadding = attributes_of (0 ∷ 0 ∷ 0 ∷ 0 ∷ 0 ∷ 0 ∷ 0 ∷ 0 ∷ 0 ∷ 0 ∷ 0 ∷ 0 ∷ 0 ∷ 0 ∷ 0 ∷ 0 ∷ 1 ∷ 1 ∷ [])

-- USE_SIMD
abbrev split : (simd : ℕ) → Attributes
split simd = attributes_of (replicate 21 0 ++ (simd ∷ []))

-- A1 11, A2 22, B1 33, B2 44
abbrev held : Registers
held = registers_of (11 ∷ 22 ∷ 33 ∷ 44 ∷ [])

-- P, PD and PBD, PDPAST and PBDPAST
abbrev showing : (p pd pbd pdpast pbdpast : ℕ) → Registers
showing p pd pbd pdpast pbdpast = registers_of (replicate 8 0 ++ (p ∷ 0 ∷ 0 ∷ 0 ∷ 0 ∷ 0 ∷ pd ∷ pbd ∷ pdpast ∷ pbdpast ∷ []))

abbrev empty : Registers
empty = registers_of []

abbrev bottom : Cascade
bottom = record { a = 0; b = 0; p = 0; carry = 0 }

-- A 3, B 4, C 5, D 6, and the control words
abbrev given : (opmode alumode inmode carryinsel carryin ce rst : ℕ) → Ports
given opmode alumode inmode carryinsel carryin ce rst =
    ports_of (3 ∷ 4 ∷ 5 ∷ 6 ∷ opmode ∷ alumode ∷ inmode ∷ carryinsel ∷ carryin ∷ ce ∷ rst ∷ [])

abbrev p_of : Attributes → Registers → Ports → Cascade → ℕ
p_of a r p x = (slice_outputs a r p x).p

pub record Clocks : Type 0 where
  -- 01, "Port listings": attributes all 0, B 5, C 7, OPMODE 15 shows 12
  pub worked : outputs_words (slice_outputs plain empty (ports_of (0 ∷ 5 ∷ 7 ∷ 0 ∷ 15 ∷ [])) bottom) ≡ 12 ∷ 0 ∷ 0 ∷ 0 ∷ 0 ∷ 0 ∷ 0 ∷ []
  -- X and Y both 1 contribute M once: 3 times 4, not twice that
  pub once : p_of multiplying empty (given 5 0 0 0 0 0 0) bottom ≡ 12
  -- the pre-adder: D + A, D - A, and A cleared by INMODE bit 1, times B
  pub pre_added : p_of preadding empty (given 5 0 4 0 0 0 0) bottom ≡ (6 + 3) * 4
  pub pre_taken : p_of preadding empty (given 5 0 12 0 0 0 0) bottom ≡ 3 * 4
  pub a_cleared : p_of preadding empty (given 5 0 6 0 0 0 0) bottom ≡ 6 * 4
  -- X 3 is A:B, A above B
  pub a_above_b : p_of plain empty (given 3 0 0 0 0 0 0) bottom ≡ 3 * 2 ^ 18 + 4
  -- Z 1 is PCIN, and 5 is PCIN shifted
  pub z_pcin : p_of plain empty (given 16 0 0 0 0 0 0) (record { a = 0; b = 0; p = 2 ^ 18; carry = 0 }) ≡ 2 ^ 18
  pub z_shifted : p_of plain empty (given 80 0 0 0 0 0 0) (record { a = 0; b = 0; p = 2 ^ 18; carry = 0 }) ≡ 2
  -- CARRYINSEL 1 is the complement of PCIN bit 47, and 3 the bit
  pub cin_not_pcin : p_of plain empty (given 0 0 0 1 0 0 0) bottom ≡ 1
  pub cin_pcin : p_of plain empty (given 0 0 0 3 0 0 0) bottom ≡ 0
  -- C 5 in Z, less CIN in mode 3
  pub mode_3_takes_cin : p_of plain empty (given 48 3 0 0 1 0 0) bottom ≡ 4
  -- all ones in Y and 5 in Z: the low lane wraps to 4, or to 5 with CARRYIN, and those above it stay all ones
  pub one48 : p_of (split 0) empty (given 56 0 0 0 1 0 0) bottom ≡ 5
  pub two24 : (p_of (split 1) empty (given 56 0 0 0 0 0 0) bottom ≡ 16777215 * 2 ^ 24 + 4)
      × (p_of (split 1) empty (given 56 0 0 0 1 0 0) bottom ≡ 16777215 * 2 ^ 24 + 5)
  pub four12 : p_of (split 2) empty (given 56 0 0 0 1 0 0) bottom ≡ (4095 * 2 ^ 24 + 4095 * 2 ^ 12 + 4095) * 2 ^ 12 + 5
  -- with PREG 1 the registers show; with 0 what settles, and no flag
  pub shows_register : outputs_words (slice_outputs registered (showing 9 0 1 0 0) (given 3 0 0 0 0 0 0) bottom) ≡ 9 ∷ 0 ∷ 1 ∷ 0 ∷ 0 ∷ 0 ∷ 0 ∷ []
  pub shows_settled : outputs_words (slice_outputs plain (showing 9 0 1 0 0) (given 0 0 0 0 0 0 0) bottom) ≡ 0 ∷ 1 ∷ 0 ∷ 0 ∷ 0 ∷ 0 ∷ 0 ∷ []
  -- ACOUT and BCOUT: the first register where AREG is 2 and ACASCREG 1, else the path
  pub cascade_1 : ((slice_cascade deep1 held (given 0 0 0 0 0 0 0) bottom).a ≡ 11) × ((slice_cascade deep1 held (given 0 0 0 0 0 0 0) bottom).b ≡ 33)
  pub cascade_2 : ((slice_cascade deep2 held (given 0 0 0 0 0 0 0) bottom).a ≡ 22) × ((slice_cascade deep2 held (given 0 0 0 0 0 0 0) bottom).b ≡ 44)
  pub cascade_0 : ((slice_cascade plain held (given 0 0 0 0 0 0 0) bottom).a ≡ 3) × ((slice_cascade plain held (given 0 0 0 0 0 0 0) bottom).b ≡ 4)

-- OVERFLOW and UNDERFLOW, as a slice shows them that holds PD, PBD, PDPAST and PBDPAST
abbrev flags : Attributes → (pd pbd pdpast pbdpast : ℕ) → List ℕ
flags a pd pbd pdpast pbdpast =
    (slice_outputs a (showing 0 pd pbd pdpast pbdpast) (given 0 0 0 0 0 0 0) bottom).overflow
    ∷ (slice_outputs a (showing 0 pd pbd pdpast pbdpast) (given 0 0 0 0 0 0 0) bottom).underflow
    ∷ []

-- what it shows with the mask of 46 bits once C was added to P, or taken from it (ALUMODE 0 or 3; OPMODE 44, CE P)
abbrev added : (alumode c : ℕ) → Registers → List ℕ
added alumode c r =
    outputs_words
    (slice_outputs (masking (2 ^ 46 - 1))
    (slice_next (masking (2 ^ 46 - 1)) r (ports_of (0 ∷ 0 ∷ c ∷ 0 ∷ 44 ∷ alumode ∷ 0 ∷ 0 ∷ 0 ∷ 256 ∷ [])) bottom)
    (given 0 0 0 0 0 0 0) bottom)

-- 02, Ask 2
pub record Flags : Type 0 where
  -- PDPAST 1 and PBDPAST 0: OVERFLOW where PD and PBD are both 0, and only there; the second is a swing, for which 01's rule gave 1
  pub over : flags registered 0 0 1 0 ≡ 1 ∷ 0 ∷ []
  pub swung_down : flags registered 0 1 1 0 ≡ 0 ∷ 0 ∷ []
  pub stays_up : flags registered 1 0 1 0 ≡ 0 ∷ 0 ∷ []
  pub both_after_pd : flags registered 1 1 1 0 ≡ 0 ∷ 0 ∷ []
  -- PDPAST 0 and PBDPAST 1: UNDERFLOW likewise
  pub under : flags registered 0 0 0 1 ≡ 0 ∷ 1 ∷ []
  pub swung_up : flags registered 1 0 0 1 ≡ 0 ∷ 0 ∷ []
  pub stays_down : flags registered 0 1 0 1 ≡ 0 ∷ 0 ∷ []
  pub both_after_pbd : flags registered 1 1 0 1 ≡ 0 ∷ 0 ∷ []
  -- neither before, and both before
  pub no_past : flags registered 0 0 0 0 ≡ 0 ∷ 0 ∷ []
  pub both_past : flags registered 0 0 1 1 ≡ 1 ∷ 1 ∷ []
  -- PREG 0
  pub unregistered : flags plain 0 0 1 1 ≡ 0 ∷ 0 ∷ []
  -- a mask of all 48 bits: PD and PBD load 1 both, and no flag follows
  pub all_masked : ((slice_next (masking (2 ^ 48 - 1)) empty (given 12 0 0 0 0 256 0) bottom).pd ≡ 1)
      × ((slice_next (masking (2 ^ 48 - 1)) empty (given 12 0 0 0 0 256 0) bottom).pbd ≡ 1)
  pub none_of_all_masked : flags (masking (2 ^ 48 - 1)) 1 1 1 1 ≡ 0 ∷ 0 ∷ []
  -- the last legal sums and the first outside, and a swing over the whole range each way
  pub one_over : added 0 1 (showing (2 ^ 46 - 1) 1 0 0 0) ≡ 2 ^ 46 ∷ 0 ∷ 0 ∷ 1 ∷ 0 ∷ 0 ∷ 0 ∷ []
  pub one_under : added 3 1 (showing (2 ^ 48 - 2 ^ 46) 0 1 0 0) ≡ (2 ^ 48 - 2 ^ 46 - 1) ∷ 0 ∷ 0 ∷ 0 ∷ 1 ∷ 0 ∷ 0 ∷ []
  pub whole_swing_down : added 3 (2 ^ 47 - 1) (showing (2 ^ 46 - 1) 1 0 0 0) ≡ (2 ^ 48 - 2 ^ 46) ∷ 0 ∷ 1 ∷ 0 ∷ 0 ∷ 0 ∷ 0 ∷ []
  pub whole_swing_up : added 0 (2 ^ 47 - 1) (showing (2 ^ 48 - 2 ^ 46) 0 1 0 0) ≡ (2 ^ 46 - 1) ∷ 1 ∷ 0 ∷ 0 ∷ 0 ∷ 0 ∷ 0 ∷ []

-- the mark of a slice with AMULTSEL 1, by ADREG, PREG and USE_MULT
abbrev marking : (adreg preg mult : ℕ) → Attributes
marking adreg preg mult = attributes_of (replicate 8 0 ++ (adreg ∷ 0 ∷ preg ∷ replicate 5 0 ++ (mult ∷ 1 ∷ [])))

abbrev sides : (inmode a d ce : ℕ) → Ports
sides inmode a d ce = ports_of (a ∷ 0 ∷ 0 ∷ d ∷ 0 ∷ 0 ∷ inmode ∷ 0 ∷ 0 ∷ ce ∷ [])

abbrev mark : Attributes → Registers → Ports → ℕ
mark a r p = (slice_outputs a r p bottom).preaddwrap

-- 02, Ask 4; 67108863 is the highest number of 27 bits, and 67108864 the pattern of the lowest, -67108864
pub record Wraps : Type 0 where
  -- INMODE 4 is D + A, 12 is D - A: the same words, by sum and by difference
  pub over_by_sum : (mark (marking 0 0 1) empty (sides 4 1 67108863 0) ≡ 1) × (mark (marking 0 0 1) empty (sides 12 1 67108863 0) ≡ 0)
  pub under_by_difference : (mark (marking 0 0 1) empty (sides 4 1 67108864 0) ≡ 0) × (mark (marking 0 0 1) empty (sides 12 1 67108864 0) ≡ 1)
  -- INMODE 8 is 0 - A
  pub lowest_turned : (mark (marking 0 0 1) empty (sides 8 67108864 1 0) ≡ 1) × (mark (marking 0 0 1) empty (sides 0 67108864 1 0) ≡ 0)
  -- INMODE bit 1 clears a, and bit 0 takes A1, which is 11; of A the low 27 bits are read
  pub a_cleared : mark (marking 0 0 1) empty (sides 6 1 67108863 0) ≡ 0
  pub a1_taken : (mark (marking 0 0 1) held (sides 5 0 67108863 0) ≡ 1) × (mark (marking 0 0 1) held (sides 4 0 67108863 0) ≡ 0)
  pub low_27 : mark (marking 0 0 1) empty (sides 4 (7 * 2 ^ 27 + 1) 67108862 0) ≡ 0
  -- ADREG, PREG and USE_MULT change nothing, and neither does AMULTSEL
  pub whatever_is_set : (mark (marking 1 0 1) empty (sides 4 1 67108863 0) ≡ 1) × (mark (marking 0 1 1) empty (sides 4 1 67108863 0) ≡ 1)
      × (mark (marking 1 1 0) empty (sides 4 1 67108863 0) ≡ 1) × (mark plain empty (sides 4 1 67108863 0) ≡ 1)
  -- a clock later AD holds the wrapped word, and the mark is that of the sides of that clock
  pub not_held : ((slice_next (marking 1 0 1) empty (sides 4 1 67108863 64) bottom).ad ≡ 67108864)
      × (mark (marking 1 0 1) (slice_next (marking 1 0 1) empty (sides 4 1 67108863 64) bottom) (sides 4 1 1 0) ≡ 0)
  -- it is the sixth output
  pub sixth : outputs_words (slice_outputs (marking 0 0 1) empty (sides 4 1 67108863 0) bottom) ≡ 0 ∷ 1 ∷ 0 ∷ 0 ∷ 0 ∷ 1 ∷ 0 ∷ []

-- 02, Ask 7: USE_SIMD and PREG; A:B all ones, and C; OPMODE 51 adds them, X A:B and Z C
abbrev adding : (simd preg : ℕ) → Attributes
adding simd preg = attributes_of (replicate 10 0 ++ (preg ∷ replicate 10 0 ++ (simd ∷ [])))

abbrev fed : (c opmode alumode carryinsel carryin ce rst : ℕ) → Ports
fed c opmode alumode carryinsel carryin ce rst =
    ports_of ((2 ^ 30 - 1) ∷ (2 ^ 18 - 1) ∷ c ∷ 0 ∷ opmode ∷ alumode ∷ 0 ∷ carryinsel ∷ carryin ∷ ce ∷ rst ∷ [])

-- a slice below that shows a carry
abbrev carrying : Cascade
carrying = record { a = 0; b = 0; p = 0; carry = 1 }

-- the carry's register 1
abbrev carried : Registers
carried = registers_of (replicate 18 0 ++ (1 ∷ []))

-- P and the carry that a slice shows, and the carry's register after the edge
abbrev shows : Attributes → Registers → Ports → Cascade → List ℕ
shows a r p x = (slice_outputs a r p x).p ∷ (slice_outputs a r p x).carry ∷ []

abbrev loads : Registers → (ce rst : ℕ) → ℕ
loads r ce rst = (slice_next (adding 0 1) r (fed 1 51 0 0 0 ce rst) bottom).carry

pub record Carries : Type 0 where
  -- 2^48 - 1 and 1 make 2^48
  pub made : shows (adding 0 0) empty (fed 1 51 0 0 0 0 0) bottom ≡ 0 ∷ 1 ∷ []
  pub one_less : shows (adding 0 0) empty (fed 0 51 0 0 0 0 0) bottom ≡ (2 ^ 48 - 1) ∷ 0 ∷ []
  -- the same with ALUMODE 3, which is 1 - (2^48 - 1), with Y 3, with W 2, in TWO24
  pub mode_3 : shows (adding 0 0) empty (fed 1 51 3 0 0 0 0) bottom ≡ 2 ∷ 0 ∷ []
  pub y_3 : shows (adding 0 0) empty (fed 1 63 0 0 0 0 0) bottom ≡ 1 ∷ 0 ∷ []
  pub w_2 : shows (adding 0 0) empty (fed 1 307 0 0 0 0 0) bottom ≡ 0 ∷ 0 ∷ []
  pub two24_hides : shows (adding 1 0) empty (fed 1 51 0 0 0 0 0) bottom ≡ (16777215 * 2 ^ 24) ∷ 0 ∷ []
  -- CIN alone makes it: by CARRYIN, and by CARRYINSEL 2 from the slice below, which is 0 at the bottom
  pub by_carryin : shows (adding 0 0) empty (fed 0 51 0 0 1 0 0) bottom ≡ 0 ∷ 1 ∷ []
  pub by_below : shows (adding 0 0) empty (fed 0 51 0 2 0 0 0) carrying ≡ 0 ∷ 1 ∷ []
  pub at_bottom : shows (adding 0 0) empty (fed 0 51 0 2 1 0 0) bottom ≡ (2 ^ 48 - 1) ∷ 0 ∷ []
  -- with PREG 1 the register is shown, and goes up; with PREG 0 what settles
  pub register_shown : (shows (adding 0 1) empty (fed 1 51 0 0 0 0 0) bottom ≡ 0 ∷ 0 ∷ [])
      × (shows (adding 0 1) carried (fed 0 51 0 0 0 0 0) bottom ≡ 0 ∷ 1 ∷ [])
  pub goes_up : ((slice_cascade (adding 0 1) carried (fed 0 51 0 0 0 0 0) bottom).carry ≡ 1)
      × ((slice_cascade (adding 0 0) carried (fed 0 51 0 0 0 0 0) bottom).carry ≡ 0)
      × ((slice_cascade (adding 0 0) empty (fed 1 51 0 0 0 0 0) bottom).carry ≡ 1)
  -- it loads by CE P, is kept without, and RST P clears it whatever CE is; another reset does not
  pub loaded : (loads empty 256 0 ≡ 1) × (loads empty (8191 - 256) 0 ≡ 0) × (loads carried 0 0 ≡ 1)
  pub cleared : (loads carried 0 32 ≡ 0) × (loads carried 8191 32 ≡ 0) × (loads carried 0 (1023 - 32) ≡ 1)

pub record Edges : Type 0 where
  -- A2 loads A1 when AREG is 2, else the input; A1 loads the input
  pub a2_from_a1 : ((slice_next deep2 held (given 0 0 0 0 0 8191 0) bottom).a1 ≡ 3) × ((slice_next deep2 held (given 0 0 0 0 0 8191 0) bottom).a2 ≡ 11)
  pub a2_from_input : (slice_next plain held (given 0 0 0 0 0 8191 0) bottom).a2 ≡ 3
  -- a reset outranks its enable, and neither keeps the word
  pub reset : (slice_next plain held (given 0 0 0 0 0 8191 1) bottom).a1 ≡ 0
  pub kept : (slice_next plain held (given 0 0 0 0 0 0 0) bottom).a1 ≡ 11
  -- the enable of A1 alone does not load A2
  pub one_enable : (slice_next plain held (given 0 0 0 0 0 1 0) bottom).a2 ≡ 22
  -- RST D also clears AD; RST M does not
  pub reset_d : (slice_next plain (registers_of (0 ∷ 0 ∷ 0 ∷ 0 ∷ 0 ∷ 0 ∷ 7 ∷ [])) (given 0 0 0 0 0 0 8) bottom).ad ≡ 0
  pub reset_m : (slice_next plain (registers_of (0 ∷ 0 ∷ 0 ∷ 0 ∷ 0 ∷ 0 ∷ 7 ∷ [])) (given 0 0 0 0 0 0 16) bottom).ad ≡ 7
  -- PDPAST loads what PD held before the edge, while PD loads what settles (PATTERN 0, P 12: no match)
  pub past : (slice_next plain (registers_of (0 ∷ 0 ∷ 0 ∷ 0 ∷ 0 ∷ 0 ∷ 0 ∷ 0 ∷ 0 ∷ 0 ∷ 0 ∷ 0 ∷ 0 ∷ 0 ∷ 1 ∷ [])) (given 3 0 0 0 0 256 0) bottom).pdpast ≡ 1
  pub settled_pd : (slice_next plain empty (given 0 0 0 0 0 256 0) bottom).pd ≡ 1
  -- P loads the settled result, and M the product, even when bypassed
  pub p_loads : (slice_next plain empty (given 12 0 0 0 0 256 0) bottom).p ≡ 5
  pub m_loads : (slice_next plain empty (given 0 0 0 0 0 128 0) bottom).m ≡ 12

pub clocks : Clocks
unfolding slice_outputs slice_cascade outputs_of_settled cascade_of slice_settled settled_of settled_carry carry_out result_of slice_operands operands_of selects_of product_of left_of right_of pre_added_of a_side d_side controls_of paths_of split_result unit_result lanes arithmetic logic_rows wrapped_sum pre_adder product detected unmasked
clocks =
    record {
      worked = refl;
      once = refl;
      pre_added = refl;
      pre_taken = refl;
      a_cleared = refl;
      a_above_b = refl;
      z_pcin = refl;
      z_shifted = refl;
      cin_not_pcin = refl;
      cin_pcin = refl;
      mode_3_takes_cin = refl;
      one48 = refl;
      two24 = (refl, refl);
      four12 = refl;
      shows_register = refl;
      shows_settled = refl;
      cascade_1 = (refl, refl);
      cascade_2 = (refl, refl);
      cascade_0 = (refl, refl);
    }

pub flag_values : Flags
unfolding slice_outputs outputs_of_settled slice_next next_of edge load slice_settled settled_of settled_carry carry_out result_of slice_operands operands_of selects_of product_of left_of right_of pre_added_of a_side d_side controls_of paths_of split_result unit_result lanes arithmetic logic_rows wrapped_sum pre_adder product detected unmasked
flag_values =
    record {
      over = refl;
      swung_down = refl;
      stays_up = refl;
      both_after_pd = refl;
      under = refl;
      swung_up = refl;
      stays_down = refl;
      both_after_pbd = refl;
      no_past = refl;
      both_past = refl;
      unregistered = refl;
      all_masked = (refl, refl);
      none_of_all_masked = refl;
      one_over = refl;
      one_under = refl;
      whole_swing_down = refl;
      whole_swing_up = refl;
    }

pub wraps : Wraps
unfolding slice_outputs outputs_of_settled slice_next next_of edge load slice_settled settled_of settled_carry carry_out result_of slice_operands operands_of selects_of product_of left_of right_of pre_added_of a_side d_side controls_of paths_of split_result unit_result lanes arithmetic logic_rows wrapped_sum pre_adder product detected unmasked
wraps =
    record {
      over_by_sum = (refl, refl);
      under_by_difference = (refl, refl);
      lowest_turned = (refl, refl);
      a_cleared = refl;
      a1_taken = (refl, refl);
      low_27 = refl;
      whatever_is_set = (refl, refl, refl, refl);
      not_held = (refl, refl);
      sixth = refl;
    }

pub carries : Carries
unfolding slice_outputs slice_cascade cascade_of outputs_of_settled slice_next next_of edge load slice_settled settled_of settled_carry carry_out result_of slice_operands operands_of selects_of product_of left_of right_of pre_added_of a_side d_side controls_of paths_of split_result unit_result lanes arithmetic logic_rows wrapped_sum pre_adder product detected unmasked
carries =
    record {
      made = refl;
      one_less = refl;
      mode_3 = refl;
      y_3 = refl;
      w_2 = refl;
      two24_hides = refl;
      by_carryin = refl;
      by_below = refl;
      at_bottom = refl;
      register_shown = (refl, refl);
      goes_up = (refl, refl, refl);
      loaded = (refl, refl, refl);
      cleared = (refl, refl, refl);
    }

pub edges : Edges
unfolding slice_next next_of edge load slice_settled settled_of settled_carry carry_out result_of slice_operands operands_of selects_of product_of left_of right_of pre_added_of a_side d_side controls_of paths_of split_result unit_result lanes arithmetic logic_rows wrapped_sum pre_adder product detected unmasked
edges =
    record {
      a2_from_a1 = (refl, refl);
      a2_from_input = refl;
      reset = refl;
      kept = refl;
      one_enable = refl;
      reset_d = refl;
      reset_m = refl;
      past = refl;
      settled_pd = refl;
      p_loads = refl;
      m_loads = refl;
    }
