-- The lent words of one slice (01, "The lent words"): how many each record has, their widths, and the words of a record and the
-- record of some words, in 01's order. Assumes nothing.
use Rattle.std.specs.Prelude.{ℕ, zero, suc, ◌^◌, Bool, false, ◌||◌, List, [], ◌∷◌, leb, length, get_or}
use Rattle.records.specs.declared.Attributes.{Attributes}
use Rattle.records.specs.declared.Registers.{Registers}
use Rattle.records.specs.declared.Ports.{Ports}
use Rattle.records.specs.declared.Outputs.{Outputs}

-- Attributes 22 (02, Ask 1), registers 19 (02, Ask 7), ports 11, outputs 7 (02, Ask 4 and 7) a slice
abbrev pub attribute_words : ℕ
attribute_words = 22

abbrev pub register_words : ℕ
register_words = 19

abbrev pub port_words : ℕ
port_words = 11

abbrev pub output_words : ℕ
output_words = 7

-- The width of every word, in one table a record. AREG, BREG, the CASCREGs and USE_SIMD have two bits, and their list beside (`legal`,
-- `listed`, `split_fits`)
abbrev pub attribute_widths : List ℕ
attribute_widths = 2 ∷ 2 ∷ 2 ∷ 2 ∷ 1 ∷ 1 ∷ 1 ∷ 1 ∷ 1 ∷ 1 ∷ 1 ∷ 1 ∷ 1 ∷ 1 ∷ 1 ∷ 1 ∷ 1 ∷ 1 ∷ 48 ∷ 48 ∷ 48 ∷ 2 ∷ []

abbrev pub register_widths : List ℕ
register_widths = 30 ∷ 30 ∷ 18 ∷ 18 ∷ 48 ∷ 27 ∷ 27 ∷ 45 ∷ 48 ∷ 9 ∷ 4 ∷ 5 ∷ 3 ∷ 1 ∷ 1 ∷ 1 ∷ 1 ∷ 1 ∷ 1 ∷ []

abbrev pub port_widths : List ℕ
port_widths = 30 ∷ 18 ∷ 48 ∷ 27 ∷ 9 ∷ 4 ∷ 5 ∷ 3 ∷ 1 ∷ 13 ∷ 10 ∷ []

-- the test holds at some number below n
abbrev pub some : (ℕ → Bool) → (n : ℕ) → Bool
some f zero = false
some f (suc n) = some f n || f n

-- a word exceeds its width
unfoldable pub exceeds : (widths words : List ℕ) → Bool
exceeds widths words = some (λ i. leb (2 ^ get_or widths i 0) (get_or words i 0)) (length widths)

abbrev pub attributes_of : List ℕ → Attributes
attributes_of ws =
    record {
      areg = get_or ws 0 0;
      breg = get_or ws 1 0;
      acascreg = get_or ws 2 0;
      bcascreg = get_or ws 3 0;
      a_input = get_or ws 4 0;
      b_input = get_or ws 5 0;
      creg = get_or ws 6 0;
      dreg = get_or ws 7 0;
      adreg = get_or ws 8 0;
      mreg = get_or ws 9 0;
      preg = get_or ws 10 0;
      opmodereg = get_or ws 11 0;
      alumodereg = get_or ws 12 0;
      inmodereg = get_or ws 13 0;
      carryinreg = get_or ws 14 0;
      carryinselreg = get_or ws 15 0;
      use_mult = get_or ws 16 0;
      amultsel = get_or ws 17 0;
      rnd = get_or ws 18 0;
      pattern = get_or ws 19 0;
      mask = get_or ws 20 0;
      use_simd = get_or ws 21 0;
    }

abbrev pub attributes_words : Attributes → List ℕ
attributes_words r =
    r.areg
    ∷ r.breg
    ∷ r.acascreg
    ∷ r.bcascreg
    ∷ r.a_input
    ∷ r.b_input
    ∷ r.creg
    ∷ r.dreg
    ∷ r.adreg
    ∷ r.mreg
    ∷ r.preg
    ∷ r.opmodereg
    ∷ r.alumodereg
    ∷ r.inmodereg
    ∷ r.carryinreg
    ∷ r.carryinselreg
    ∷ r.use_mult
    ∷ r.amultsel
    ∷ r.rnd
    ∷ r.pattern
    ∷ r.mask
    ∷ r.use_simd
    ∷ []

abbrev pub registers_of : List ℕ → Registers
registers_of ws =
    record {
      a1 = get_or ws 0 0;
      a2 = get_or ws 1 0;
      b1 = get_or ws 2 0;
      b2 = get_or ws 3 0;
      c = get_or ws 4 0;
      d = get_or ws 5 0;
      ad = get_or ws 6 0;
      m = get_or ws 7 0;
      p = get_or ws 8 0;
      opmode = get_or ws 9 0;
      alumode = get_or ws 10 0;
      inmode = get_or ws 11 0;
      carryinsel = get_or ws 12 0;
      carryin = get_or ws 13 0;
      pd = get_or ws 14 0;
      pbd = get_or ws 15 0;
      pdpast = get_or ws 16 0;
      pbdpast = get_or ws 17 0;
      carry = get_or ws 18 0;
    }

abbrev pub registers_words : Registers → List ℕ
registers_words r =
    r.a1
    ∷ r.a2
    ∷ r.b1
    ∷ r.b2
    ∷ r.c
    ∷ r.d
    ∷ r.ad
    ∷ r.m
    ∷ r.p
    ∷ r.opmode
    ∷ r.alumode
    ∷ r.inmode
    ∷ r.carryinsel
    ∷ r.carryin
    ∷ r.pd
    ∷ r.pbd
    ∷ r.pdpast
    ∷ r.pbdpast
    ∷ r.carry
    ∷ []

abbrev pub ports_of : List ℕ → Ports
ports_of ws =
    record {
      a = get_or ws 0 0;
      b = get_or ws 1 0;
      c = get_or ws 2 0;
      d = get_or ws 3 0;
      opmode = get_or ws 4 0;
      alumode = get_or ws 5 0;
      inmode = get_or ws 6 0;
      carryinsel = get_or ws 7 0;
      carryin = get_or ws 8 0;
      ce = get_or ws 9 0;
      rst = get_or ws 10 0;
    }

abbrev pub ports_words : Ports → List ℕ
ports_words r =
    r.a
    ∷ r.b
    ∷ r.c
    ∷ r.d
    ∷ r.opmode
    ∷ r.alumode
    ∷ r.inmode
    ∷ r.carryinsel
    ∷ r.carryin
    ∷ r.ce
    ∷ r.rst
    ∷ []

abbrev pub outputs_of : List ℕ → Outputs
outputs_of ws =
    record {
      p = get_or ws 0 0;
      patterndetect = get_or ws 1 0;
      patternbdetect = get_or ws 2 0;
      overflow = get_or ws 3 0;
      underflow = get_or ws 4 0;
      preaddwrap = get_or ws 5 0;
      carry = get_or ws 6 0;
    }

abbrev pub outputs_words : Outputs → List ℕ
outputs_words r =
    r.p
    ∷ r.patterndetect
    ∷ r.patternbdetect
    ∷ r.overflow
    ∷ r.underflow
    ∷ r.preaddwrap
    ∷ r.carry
    ∷ []
