-- One slice in one clock (01, "One clock"), of its attributes a, its registers r before the edge, its ports p and the cascade x
-- from the slice below. Each layer is a function of the layers before it. Selects and modes that are refused give 0. Assumes nothing.
use Rattle.std.specs.Prelude.{ℕ, ◌+◌, ◌-◌, ◌*◌, ◌/◌, ◌%◌, ◌^◌, cond, ◌&&◌, ◌≡◌, List, [], ◌∷◌, eqb}
use Rattle.word.specs.Word.{extend, shifted}
use Rattle.lent.specs.Words.{stored, enough}
use Rattle.unit.specs.Choice.{mux, choose, bit}
use Rattle.unit.specs.Unit.{ones, split_result, carry_out, pre_adder, product, load}
use Rattle.unit.specs.Detector.{detected}
use Rattle.unit.specs.declared.Operands.{Operands}
use Rattle.unit.specs.declared.PreAdded.{PreAdded}
use Rattle.records.specs.declared.Attributes.{Attributes}
use Rattle.records.specs.declared.Registers.{Registers}
use Rattle.records.specs.declared.Ports.{Ports}
use Rattle.records.specs.declared.Outputs.{Outputs}
use Rattle.records.specs.Records.{register_words, registers_of, registers_words}
use Rattle.slice.specs.declared.inputs.Cascade.{Cascade}
use Rattle.slice.specs.declared.inputs.Controls.{Controls}
use Rattle.slice.specs.declared.inputs.Selects.{Selects}
use Rattle.slice.specs.declared.inputs.Paths.{Paths}
use Rattle.slice.specs.declared.multiplier.Product.{Product}
use Rattle.slice.specs.declared.edge.Settled.{Settled}
use Rattle.slice.specs.declared.edge.Step.{Step}

-- "In effect" is the register when the matching ..REG is 1, else the port
unfoldable pub controls_of : Attributes → Registers → Ports → Controls
controls_of a r p =
    record {
      opmode = mux a.opmodereg p.opmode r.opmode;
      alumode = mux a.alumodereg p.alumode r.alumode;
      inmode = mux a.inmodereg p.inmode r.inmode;
      carryinsel = mux a.carryinselreg p.carryinsel r.carryinsel;
    }

-- bits hi..lo of n
abbrev pub bits : (hi lo n : ℕ) → ℕ
bits hi lo n = n / 2 ^ lo % 2 ^ (hi + 1 - lo)

-- OPMODE fields: X bits 1..0, Y bits 3..2, Z bits 6..4, W bits 8..7
unfoldable pub selects_of : (opmode : ℕ) → Selects
selects_of opmode = record { w = bits 8 7 opmode; x = bits 1 0 opmode; y = bits 3 2 opmode; z = bits 6 4 opmode }

-- A input is the port or ACIN; the A path shows the input (AREG 0) or A2. B alike. C, D and CARRYIN are read from the register
-- when their ..REG is 1, else bypassed
unfoldable pub paths_of : Attributes → Registers → Ports → Cascade → Paths
paths_of a r p x =
    record {
      ain = mux a.a_input p.a x.a;
      bin = mux a.b_input p.b x.b;
      a = mux a.areg (mux a.a_input p.a x.a) r.a2;
      b = mux a.breg (mux a.b_input p.b x.b) r.b2;
      c = mux a.creg p.c r.c;
      d = mux a.dreg p.d r.d;
      carryin = mux a.carryinreg p.carryin r.carryin;
    }

-- Pre-adder: a is A1 if INMODE bit 0, else the A path, low 27 bits, then 0 if bit 1
unfoldable pub a_side : Registers → Controls → Paths → ℕ
a_side r k s = mux (bit k.inmode 1) (mux (bit k.inmode 0) s.a r.a1 % 2 ^ 27) 0

-- d is the D path if bit 2, else 0
unfoldable pub d_side : Controls → Paths → ℕ
d_side k s = mux (bit k.inmode 2) 0 s.d

-- AD is d + a, or d − a if bit 3; with it goes the mark whether that wrapped (02, Ask 4)
unfoldable pub pre_added_of : Registers → Controls → Paths → PreAdded
pre_added_of r k s = pre_adder (bit k.inmode 3) (d_side k s) (a_side r k s)

-- Multiplier: left side a or AD (AMULTSEL), AD from the register when ADREG is 1
unfoldable pub left_of : Attributes → Registers → Controls → Paths → ℕ
left_of a r k s = mux a.amultsel (a_side r k s) (mux a.adreg (pre_added_of r k s).ad r.ad)

-- right side B1 if INMODE bit 4, else the B path
unfoldable pub right_of : Registers → Controls → Paths → ℕ
right_of r k s = mux (bit k.inmode 4) s.b r.b1

-- What AD and M load, and the pre-adder's mark
unfoldable pub product_of : Attributes → Registers → Controls → Paths → Product
product_of a r k s =
    record { ad = (pre_added_of r k s).ad; wrap = (pre_added_of r k s).wrap; m = product (left_of a r k s) (right_of r k s) }

-- A:B, the A path above the B path
abbrev pub joined : (a b : ℕ) → ℕ
joined a b = a % 2 ^ 30 * 2 ^ 18 + b % 2 ^ 18

-- The operands, of the M path m, sign-extended to 48 when selected. X and Y both 1 contribute M once: X is then the product, Y is 0
unfoldable pub operands_of : Attributes → Registers → Controls → Paths → Cascade → (m : ℕ) → Operands
operands_of a r k s x m =
    record {
      w = choose (0 ∷ r.p ∷ a.rnd ∷ s.c ∷ []) (selects_of k.opmode).w;
      x = choose (0 ∷ extend 45 48 m ∷ r.p ∷ joined s.a s.b ∷ []) (selects_of k.opmode).x;
      y = choose (0 ∷ 0 ∷ ones 48 ∷ s.c ∷ []) (selects_of k.opmode).y;
      z =
          choose
          (0 ∷ x.p ∷ r.p ∷ s.c ∷ 0 ∷ shifted 48 17 x.p ∷ shifted 48 17 r.p ∷ [])
          (selects_of k.opmode).z;
      -- CARRYINSEL: 0 the CARRYIN path; 1 not PCIN bit 47; 2 "the carry shown by the slice below" (02, Ask 7); 3 PCIN bit 47;
      -- 5 not P bit 47; 7 P bit 47
      cin =
          choose
          (s.carryin
          ∷ (1 - bit x.p 47)
          ∷ x.carry
          ∷ bit x.p 47
          ∷ 0
          ∷ (1 - bit r.p 47)
          ∷ 0
          ∷ bit r.p 47
          ∷ [])
          k.carryinsel;
    }

-- the same, of all that a slice reads; M is read from the register when MREG is 1, else bypassed
unfoldable pub slice_operands : Attributes → Registers → Ports → Cascade → Operands
slice_operands a r p x =
    operands_of a r (controls_of a r p) (paths_of a r p x) x
    (mux a.mreg (product_of a r (controls_of a r p) (paths_of a r p x)).m r.m)

-- The unit's result of some operands, in USE_SIMD's lanes
unfoldable pub result_of : (simd alumode : ℕ) → Operands → ℕ
result_of simd alumode o = split_result simd alumode o.w o.x o.y o.z o.cin

-- The carry beside that result, by USE_SIMD, ALUMODE and the selects of W and Y in effect (02, Ask 7)
unfoldable pub settled_carry : Attributes → Controls → Operands → ℕ
settled_carry a k o =
    carry_out a.use_simd k.alumode (selects_of k.opmode).w (selects_of k.opmode).y o.x o.z o.cin

-- What settles before the edge: AD and its mark, M, the unit's result, the detector on it, and the carry
unfoldable pub settled_of : Attributes → Product → (result carry : ℕ) → Settled
settled_of a t result carry =
    record {
      ad = t.ad;
      wrap = t.wrap;
      m = t.m;
      p = result;
      pd = (detected result a.pattern a.mask).pd;
      pbd = (detected result a.pattern a.mask).pbd;
      carry = carry;
    }

unfoldable pub slice_settled : Attributes → Registers → Ports → Cascade → Settled
slice_settled a r p x =
    settled_of a (product_of a r (controls_of a r p) (paths_of a r p x))
    (result_of a.use_simd (controls_of a r p).alumode (slice_operands a r p x))
    (settled_carry a (controls_of a r p) (slice_operands a r p x))

-- A past word 1 with PD and PBD both 0 (02, Ask 2): P matched, or differed in every bit, and now does neither
abbrev pub strayed : (past pd pbd : ℕ) → ℕ
strayed past pd pbd = cond (eqb past 1 && eqb pd 0 && eqb pbd 0) 1 0

-- With PREG 1 the outputs show registers P, PD, PBD; with 0, the settled values. OVERFLOW is PDPAST 1, UNDERFLOW is PBDPAST 1, each
-- with PD and PBD both 0 (02, Ask 2), read from the registers; both 0 when PREG is 0. PREADDWRAP is the pre-adder's mark "as it settles
-- before AD" (02, Ask 4), whatever ADREG and PREG are. The carry is "that register with PREG 1, else the settled carry" (02, Ask 7)
unfoldable pub outputs_of_settled : Attributes → Registers → Settled → Outputs
outputs_of_settled a r t =
    record {
      p = mux a.preg t.p r.p;
      patterndetect = mux a.preg t.pd r.pd;
      patternbdetect = mux a.preg t.pbd r.pbd;
      overflow = mux a.preg 0 (strayed r.pdpast r.pd r.pbd);
      underflow = mux a.preg 0 (strayed r.pbdpast r.pd r.pbd);
      preaddwrap = t.wrap;
      carry = mux a.preg t.carry r.carry;
    }

-- ACOUT is the A path, but A1 when AREG is 2 and ACASCREG is 1; B alike; PCOUT is the output P, and the carry goes up as it is shown
unfoldable pub cascade_of : Attributes → Registers → Paths → (p carry : ℕ) → Cascade
cascade_of a r s p carry =
    record {
      a = cond (eqb a.areg 2 && eqb a.acascreg 1) r.a1 s.a;
      b = cond (eqb a.breg 2 && eqb a.bcascreg 1) r.b1 s.b;
      p = p;
      carry = carry;
    }

-- A register's load, by its bits of RST and CE
unfoldable pub edge : Ports → (rst ce word input : ℕ) → ℕ
edge p rst ce word input = load (bit p.rst rst) (bit p.ce ce) word input

-- The registers after the edge.
-- RST bits from 0: A, B, C, D, M, P, CTRL, ALUMODE, INMODE, ALLCARRYIN.
-- CE bits from 0: A1, A2, B1, B2, C, D, AD, M, P, CTRL, ALUMODE, INMODE, CARRYIN.
unfoldable pub next_of : Attributes → Registers → Ports → Paths → Settled → Registers
next_of a r p s t =
    record {
      a1 = edge p 0 0 r.a1 s.ain;
      a2 = edge p 0 1 r.a2 (cond (eqb a.areg 2) r.a1 s.ain);
      b1 = edge p 1 2 r.b1 s.bin;
      b2 = edge p 1 3 r.b2 (cond (eqb a.breg 2) r.b1 s.bin);
      c = edge p 2 4 r.c p.c;
      d = edge p 3 5 r.d p.d;
      ad = edge p 3 6 r.ad t.ad;  -- RST D also clears AD
      m = edge p 4 7 r.m t.m;
      p = edge p 5 8 r.p t.p;
      opmode = edge p 6 9 r.opmode p.opmode;
      alumode = edge p 7 10 r.alumode p.alumode;
      inmode = edge p 8 11 r.inmode p.inmode;
      carryinsel = edge p 6 9 r.carryinsel p.carryinsel;
      carryin = edge p 9 12 r.carryin p.carryin;
      pd = edge p 5 8 r.pd t.pd;
      pbd = edge p 5 8 r.pbd t.pbd;
      pdpast = edge p 5 8 r.pdpast r.pd;
      pbdpast = edge p 5 8 r.pbdpast r.pbd;
      carry = edge p 5 8 r.carry t.carry;  -- "loads and clears with P" (02, Ask 7)
    }

-- What a slice shows, hands up, and holds after the edge
unfoldable pub slice_outputs : Attributes → Registers → Ports → Cascade → Outputs
slice_outputs a r p x = outputs_of_settled a r (slice_settled a r p x)

unfoldable pub slice_cascade : Attributes → Registers → Ports → Cascade → Cascade
slice_cascade a r p x = cascade_of a r (paths_of a r p x) (slice_outputs a r p x).p (slice_outputs a r p x).carry

unfoldable pub slice_next : Attributes → Registers → Ports → Cascade → Registers
slice_next a r p x = next_of a r p (paths_of a r p x) (slice_settled a r p x)

unfoldable pub step_of : Attributes → Registers → Ports → Cascade → Step
step_of a r p x = record { shown = slice_outputs a r p x; up = slice_cascade a r p x }

-- A clock on lent words: what is given away, and the registers' words after the edge. Of words that are not as many as a slice has none is
-- written, and of too few none is read
pub record Stepped (a : Attributes) (ws : List ℕ) (p : Ports) (x : Cascade) (v : Step) (ws' : List ℕ) : Type 0 where
  pub given : v ≡ step_of a (registers_of (enough register_words ws)) p x
  pub registers : ws' ≡ stored ws (registers_words (slice_next a (registers_of (enough register_words ws)) p x))
