-- Facts by value that pin the records: their words in 01's order, one round trip each, and each table as long as its record. Assumes
-- nothing.
use mathlib.Core.Path.{◌≡◌, refl}
use mathlib.Core.List.{List, [], ◌∷◌, ◌++◌}
use mathlib.Core.Bool.{true, false}
use Prim.Native.Nat.{ℕ, zero, suc, ◌^◌, ◌-◌}
use lib.ListN.{length, replicate}
use Rattle.records.specs.Records.{attribute_words, register_words, port_words, output_words, attribute_widths, register_widths, port_widths, exceeds, attributes_of, attributes_words, registers_of, registers_words, ports_of, ports_words, outputs_of, outputs_words}

-- n, n + 1 and so on: so many numbers
abbrev up_from : (n count : ℕ) → List ℕ
up_from n zero = []
up_from n (suc k) = n ∷ up_from (suc n) k

pub record Values : Type 0 where
  -- every word is written where it was read
  pub attributes : attributes_words (attributes_of (up_from 1 attribute_words)) ≡ up_from 1 22
  pub registers : registers_words (registers_of (up_from 1 register_words)) ≡ up_from 1 19
  pub ports : ports_words (ports_of (up_from 1 port_words)) ≡ up_from 1 11
  pub outputs : outputs_words (outputs_of (up_from 1 output_words)) ≡ up_from 1 7
  -- 01 names AREG first, PREG 11th, MASK 21st, and 02, Ask 1, USE_SIMD 22nd
  pub named_attributes : ((attributes_of (up_from 1 22)).areg ≡ 1) × ((attributes_of (up_from 1 22)).preg ≡ 11)
      × ((attributes_of (up_from 1 22)).mask ≡ 21) × ((attributes_of (up_from 1 22)).use_simd ≡ 22)
  -- P 9th, PBDPAST 18th, and 02, Ask 7, the carry last
  pub named_registers : ((registers_of (up_from 1 19)).p ≡ 9) × ((registers_of (up_from 1 19)).pbdpast ≡ 18) × ((registers_of (up_from 1 19)).carry ≡ 19)
  -- OPMODE 5th and RST last
  pub named_ports : ((ports_of (up_from 1 11)).opmode ≡ 5) × ((ports_of (up_from 1 11)).rst ≡ 11)
  -- OVERFLOW 4th, and 02, Ask 4, PREADDWRAP 6th, and Ask 7 the carry last
  pub named_outputs : ((outputs_of (up_from 1 7)).overflow ≡ 4) × ((outputs_of (up_from 1 7)).preaddwrap ≡ 6) × ((outputs_of (up_from 1 7)).carry ≡ 7)
  -- a table has a width for each word
  pub tables : (length attribute_widths ≡ attribute_words) × (length register_widths ≡ register_words) × (length port_widths ≡ port_words)
  -- a word exceeds its width from its power of two on
  pub ports_over : (exceeds port_widths (replicate 10 0 ++ ((2 ^ 10) ∷ [])) ≡ true) × (exceeds port_widths (replicate 10 0 ++ ((2 ^ 10 - 1) ∷ [])) ≡ false)
  -- the carry has one bit
  pub carry_over : (exceeds register_widths (replicate 18 0 ++ (2 ∷ [])) ≡ true) × (exceeds register_widths (replicate 18 0 ++ (1 ∷ [])) ≡ false)

pub values : Values
unfolding exceeds
values =
    record {
      attributes = refl;
      registers = refl;
      ports = refl;
      outputs = refl;
      named_attributes = (refl, refl, refl, refl);
      named_registers = (refl, refl, refl);
      named_ports = (refl, refl);
      named_outputs = (refl, refl, refl);
      tables = (refl, refl, refl);
      ports_over = (refl, refl);
      carry_over = (refl, refl);
    }
