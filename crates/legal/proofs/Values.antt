-- Facts by value that pin what is legal: each stands beside a slip that would break it. Assumes nothing.
use Rattle.std.proofs.Common.{◌≡◌, ℕ, ◌-◌, ◌^◌, true, false, [], ◌∷◌, refl}
use Rattle.records.specs.declared.Attributes.{Attributes}
use Rattle.records.specs.declared.Registers.{Registers}
use Rattle.records.specs.declared.Ports.{Ports}
use Rattle.records.specs.Records.{exceeds, attributes_of, registers_of, ports_of}
use Rattle.slice.specs.Slice.{controls_of, selects_of}
use Rattle.legal.specs.Legal.{listed, split_fits, off_list, bad_inmode, bad_opmode, bad_alumode, bad_carryinsel, breaks, within_widths, breaks_nothing}

-- every setting 0
abbrev plain : Attributes
plain = attributes_of []

-- PREG 1, or USE_MULT 1, and all others 0
abbrev registered : Attributes
registered = attributes_of (0 ∷ 0 ∷ 0 ∷ 0 ∷ 0 ∷ 0 ∷ 0 ∷ 0 ∷ 0 ∷ 0 ∷ 1 ∷ [])

abbrev multiplying : Attributes
multiplying = attributes_of (0 ∷ 0 ∷ 0 ∷ 0 ∷ 0 ∷ 0 ∷ 0 ∷ 0 ∷ 0 ∷ 0 ∷ 0 ∷ 0 ∷ 0 ∷ 0 ∷ 0 ∷ 0 ∷ 1 ∷ [])

abbrev empty : Registers
empty = registers_of []

-- the control words, of ports of which all others are 0
abbrev given : (opmode alumode inmode carryinsel : ℕ) → Ports
given opmode alumode inmode carryinsel = ports_of (0 ∷ 0 ∷ 0 ∷ 0 ∷ opmode ∷ alumode ∷ inmode ∷ carryinsel ∷ [])

pub record Legality : Type 0 where
  pub cascregs : (listed 2 1 ≡ true) × (listed 2 2 ≡ true) × (listed 1 1 ≡ true) × (listed 0 0 ≡ true)
  pub off : (listed 1 2 ≡ false) × (listed 0 1 ≡ false) × (listed 2 0 ≡ false) × (listed 2 3 ≡ false) × (listed 3 3 ≡ false)
  -- USE_SIMD 0 to 2, and 0 alone with USE_MULT
  pub splits : (split_fits 0 0 ≡ true) × (split_fits 0 1 ≡ true) × (split_fits 0 2 ≡ true) × (split_fits 1 0 ≡ true)
  pub no_splits : (split_fits 0 3 ≡ false) × (split_fits 1 1 ≡ false) × (split_fits 1 2 ≡ false)
  -- INMODE bit 0 with AREG 0, bit 2 with AMULTSEL 0, bit 4 with BREG 0; bit 1 is free
  pub inmode_bits : (bad_inmode plain (controls_of plain empty (given 0 0 1 0)) ≡ true) × (bad_inmode plain (controls_of plain empty (given 0 0 4 0)) ≡ true)
      × (bad_inmode plain (controls_of plain empty (given 0 0 16 0)) ≡ true) × (bad_inmode plain (controls_of plain empty (given 0 0 2 0)) ≡ false)
  -- X 1 alone, Y 1 alone, both without USE_MULT, both with it; X 2 with PREG 0, with PREG 1; Z 4 and 7
  pub opmode_selects : (bad_opmode multiplying (selects_of 1) ≡ true) × (bad_opmode multiplying (selects_of 4) ≡ true) × (bad_opmode plain (selects_of 5) ≡ true)
      × (bad_opmode multiplying (selects_of 5) ≡ false) × (bad_opmode plain (selects_of 2) ≡ true) × (bad_opmode registered (selects_of 2) ≡ false)
      × (bad_opmode plain (selects_of 64) ≡ true) × (bad_opmode plain (selects_of 112) ≡ true)
  -- 7 and 12 are logic modes, 8 and 11 are refused, 3 is free; a logic mode with W 3, Y 3 or X 1
  pub alumodes : (bad_alumode 7 (selects_of 0) ≡ false) × (bad_alumode 8 (selects_of 0) ≡ true) × (bad_alumode 11 (selects_of 0) ≡ true) × (bad_alumode 12 (selects_of 8) ≡ false)
      × (bad_alumode 3 (selects_of 384) ≡ false) × (bad_alumode 4 (selects_of 384) ≡ true) × (bad_alumode 4 (selects_of 12) ≡ true) × (bad_alumode 4 (selects_of 5) ≡ true)
  -- 4 and 6 are refused, 2 (02, Ask 7) and 3 are free, 7 asks for PREG 1
  pub carryinsels : (bad_carryinsel plain (controls_of plain empty (given 0 0 0 2)) ≡ false) × (bad_carryinsel plain (controls_of plain empty (given 0 0 0 4)) ≡ true)
      × (bad_carryinsel plain (controls_of plain empty (given 0 0 0 6)) ≡ true)
      × (bad_carryinsel plain (controls_of plain empty (given 0 0 0 3)) ≡ false) × (bad_carryinsel plain (controls_of plain empty (given 0 0 0 7)) ≡ true)
      × (bad_carryinsel registered (controls_of registered empty (given 0 0 0 7)) ≡ false)
  -- a word at its width's power of two is over, one below it is not; and a setting at fault is enough
  pub quick : (breaks_nothing plain empty (given 0 0 0 0) ≡ true) × (breaks_nothing plain (registers_of ((2 ^ 30) ∷ [])) (given 0 0 0 0) ≡ false)
      × (breaks_nothing plain (registers_of ((2 ^ 30 - 1) ∷ [])) (given 0 0 0 0) ≡ true)
      × (breaks_nothing plain empty (given 64 0 0 0) ≡ false) × (breaks_nothing plain empty (given 0 0 0 2) ≡ true) × (breaks_nothing plain empty (given 0 0 0 4) ≡ false)
      × (breaks_nothing multiplying empty (given 5 0 0 0) ≡ true) × (breaks_nothing (attributes_of (3 ∷ 0 ∷ 3 ∷ [])) empty (given 0 0 0 0) ≡ false)

pub legality : Legality
unfolding off_list bad_inmode bad_opmode bad_alumode bad_carryinsel breaks within_widths exceeds breaks_nothing controls_of selects_of
legality =
    record {
      cascregs = (refl, refl, refl, refl);
      off = (refl, refl, refl, refl, refl);
      splits = (refl, refl, refl, refl);
      no_splits = (refl, refl, refl);
      inmode_bits = (refl, refl, refl, refl);
      opmode_selects = (refl, refl, refl, refl, refl, refl, refl, refl);
      alumodes = (refl, refl, refl, refl, refl, refl, refl, refl);
      carryinsels = (refl, refl, refl, refl, refl, refl);
      quick = (refl, refl, refl, refl, refl, refl, refl, refl);
    }
