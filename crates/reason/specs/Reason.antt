-- Why a slice's P is what it is (02, Ask 3): the settled operands, the place that each was selected from, the rule used, and the unit's
-- result. The places are a second reading of the selects of 01, "One clock", in its order. Selects and modes that are refused give 0.
-- Assumes nothing.
use Rattle.std.specs.Prelude.{ℕ, ◌-◌, ◌%◌, ◌^◌, cond, List, [], ◌∷◌, ◌++◌, eqb, get_or, Option, Some, None}
use Rattle.std.specs.Int.Bits.{bit_and, bit_or, bit_xor}
use Rattle.word.specs.Word.{extend, shifted}
use Rattle.unit.specs.Choice.{mux, bit}
use Rattle.unit.specs.Unit.{ones, compl, lanes, lane_width, lane_count}
use Rattle.records.specs.declared.Attributes.{Attributes}
use Rattle.records.specs.declared.Registers.{Registers}
use Rattle.records.specs.declared.Ports.{Ports}
use Rattle.slice.specs.declared.inputs.Cascade.{Cascade}
use Rattle.slice.specs.declared.inputs.Controls.{Controls}
use Rattle.slice.specs.declared.inputs.Paths.{Paths}
use Rattle.unit.specs.declared.Operands.{Operands}
use Rattle.slice.specs.Slice.{controls_of, selects_of, paths_of, product_of, joined, slice_operands, slice_settled}
use Rattle.reason.specs.declared.places.Place.{Place}
use Rattle.reason.specs.declared.places.Place.TheVariants.{Zero, M, P, AB, Ones, C, Pcin, PcinShifted, PShifted, Rnd, Carryin, PcinBit47, NotPcinBit47, PBit47, NotPBit47, CarryBelow}
use Rattle.reason.specs.declared.places.Places.{Places}
use Rattle.reason.specs.declared.rules.Rule.{Rule}
use Rattle.reason.specs.declared.rules.Rule.TheVariants.{Sum, SumNotZ, NotSum, Difference, Xor, Xnor, And, Or, AndNotZ, OrNotZ, Nand, Nor, NotXOrZ, NotXAndZ}
use Rattle.reason.specs.declared.Reason.{Reason}

-- ---- places

-- the place that a select names in its list, counted from 0; the place 0 past its end
abbrev pub named : List Place → (s : ℕ) → Place
named places s = get_or places s Zero

-- W: 0, P, RND, C
abbrev pub w_place : (select : ℕ) → Place
w_place select = named (Zero ∷ P ∷ Rnd ∷ C ∷ []) select

-- X: 0, M, P, A:B
abbrev pub x_place : (select : ℕ) → Place
x_place select = named (Zero ∷ M ∷ P ∷ AB ∷ []) select

-- Y: 0, M, all ones, C. "With X and Y both 1, Y's place is 0"
abbrev pub y_place : (select : ℕ) → Place
y_place select = named (Zero ∷ Zero ∷ Ones ∷ C ∷ []) select

-- Z: 0, PCIN, P, C, (4), PCIN shifted, P shifted, (7)
abbrev pub z_place : (select : ℕ) → Place
z_place select = named (Zero ∷ Pcin ∷ P ∷ C ∷ Zero ∷ PcinShifted ∷ PShifted ∷ []) select

-- CARRYINSEL: 0 the CARRYIN path; 1 not PCIN bit 47; 2 the carry of the slice below (02, Ask 7); 3 PCIN bit 47; 5 not P bit 47;
-- 7 P bit 47
abbrev pub cin_place : (select : ℕ) → Place
cin_place select =
    named (Carryin ∷ NotPcinBit47 ∷ CarryBelow ∷ PcinBit47 ∷ Zero ∷ NotPBit47 ∷ Zero ∷ PBit47 ∷ []) select

-- where each of `operands_of`'s values comes from, by the control words in effect
unfoldable pub places_of : Controls → Places
places_of k =
    record {
      w = w_place (selects_of k.opmode).w;
      x = x_place (selects_of k.opmode).x;
      y = y_place (selects_of k.opmode).y;
      z = z_place (selects_of k.opmode).z;
      cin = cin_place k.carryinsel;
    }

-- What a place holds in this clock, of the paths s, the cascade x and the M path m: no select has a word in it
unfoldable pub held_at : Attributes → Registers → Paths → Cascade → (m : ℕ) → Place → ℕ
held_at a r s x m Zero = 0
held_at a r s x m M = extend 45 48 m
held_at a r s x m P = r.p
held_at a r s x m AB = joined s.a s.b
held_at a r s x m Ones = ones 48
held_at a r s x m C = s.c
held_at a r s x m Pcin = x.p
held_at a r s x m PcinShifted = shifted 48 17 x.p
held_at a r s x m PShifted = shifted 48 17 r.p
held_at a r s x m Rnd = a.rnd
held_at a r s x m Carryin = s.carryin
held_at a r s x m PcinBit47 = bit x.p 47
held_at a r s x m NotPcinBit47 = 1 - bit x.p 47
held_at a r s x m PBit47 = bit r.p 47
held_at a r s x m NotPBit47 = 1 - bit r.p 47
held_at a r s x m CarryBelow = x.carry

-- the same, of all that a slice reads; M is read from the register when MREG is 1, else bypassed
unfoldable pub value_at : Attributes → Registers → Ports → Cascade → Place → ℕ
value_at a r p x place =
    held_at a r (paths_of a r p x) x (mux a.mreg (product_of a r (controls_of a r p) (paths_of a r p x)).m r.m) place

-- what the operands' places hold
unfoldable pub held_values : Attributes → Registers → Paths → Cascade → (m : ℕ) → Places → Operands
held_values a r s x m places =
    record {
      w = held_at a r s x m places.w;
      x = held_at a r s x m places.x;
      y = held_at a r s x m places.y;
      z = held_at a r s x m places.z;
      cin = held_at a r s x m places.cin;
    }

-- ---- rules

-- a logic mode's rule goes by Y: Y 0, then Y all ones
abbrev pub by_y_rule : (y : ℕ) → (zeros ones : Rule) → Rule
by_y_rule y zeros ones = cond (eqb y 0) zeros ones

-- The rule of each mode: arithmetic 0 to 3, then the logic rows, Y 0 and Y all ones. A mode that is refused has none
unfoldable pub rule_of : (mode y : ℕ) → Option Rule
rule_of mode y =
    get_or
    (Some Sum ∷ Some SumNotZ ∷ Some NotSum ∷ Some Difference
    ∷ Some (by_y_rule y Xor Xnor)  -- 4
    ∷ Some (by_y_rule y Xnor Xor)  -- 5
    ∷ Some (by_y_rule y Xnor Xor)  -- 6
    ∷ Some (by_y_rule y Xor Xnor)  -- 7
    ∷ None ∷ None ∷ None ∷ None  -- 8 to 11 are refused
    ∷ Some (by_y_rule y And Or)  -- 12
    ∷ Some (by_y_rule y AndNotZ OrNotZ)  -- 13
    ∷ Some (by_y_rule y Nand Nor)  -- 14
    ∷ Some (by_y_rule y NotXOrZ NotXAndZ)  -- 15
    ∷ [])
    mode
    None

-- an arithmetic mode on the operands, in USE_SIMD's lanes
abbrev pub in_lanes : (simd mode : ℕ) → Operands → ℕ
in_lanes simd mode o = lanes (lane_width simd) (lane_count simd) mode o.w o.x o.y o.z o.cin

-- What a rule makes of the operands: an arithmetic rule in its lanes, a logic rule on the 48 bits of X and Z
unfoldable pub made_by : Rule → (simd : ℕ) → Operands → ℕ
made_by Sum simd o = in_lanes simd 0 o  -- Z+W+X+Y+CIN
made_by SumNotZ simd o = in_lanes simd 1 o  -- (2^48−1−Z)+W+X+Y+CIN
made_by NotSum simd o = in_lanes simd 2 o  -- 2^48−1−(Z+W+X+Y+CIN)
made_by Difference simd o = in_lanes simd 3 o  -- Z−(W+X+Y+CIN)
made_by Xor simd o = bit_xor (o.x % 2 ^ 48) (o.z % 2 ^ 48)
made_by Xnor simd o = compl (bit_xor (o.x % 2 ^ 48) (o.z % 2 ^ 48))
made_by And simd o = bit_and (o.x % 2 ^ 48) (o.z % 2 ^ 48)
made_by Or simd o = bit_or (o.x % 2 ^ 48) (o.z % 2 ^ 48)
made_by AndNotZ simd o = bit_and (o.x % 2 ^ 48) (compl (o.z % 2 ^ 48))
made_by OrNotZ simd o = bit_or (o.x % 2 ^ 48) (compl (o.z % 2 ^ 48))
made_by Nand simd o = compl (bit_and (o.x % 2 ^ 48) (o.z % 2 ^ 48))
made_by Nor simd o = compl (bit_or (o.x % 2 ^ 48) (o.z % 2 ^ 48))
made_by NotXOrZ simd o = bit_or (compl (o.x % 2 ^ 48)) (o.z % 2 ^ 48)
made_by NotXAndZ simd o = bit_and (compl (o.x % 2 ^ 48)) (o.z % 2 ^ 48)

-- What the rule of a slice makes of its operands; 0 where there is none
abbrev pub applied : Option Rule → (simd : ℕ) → Operands → ℕ
applied None simd o = 0
applied (Some rule) simd o = made_by rule simd o

-- ---- the reason

-- of a slice in this clock: the operands, their places, the rule, USE_SIMD, and what settles for P
unfoldable pub reason_of : Attributes → Registers → Ports → Cascade → Reason
reason_of a r p x =
    record {
      values = slice_operands a r p x;
      places = places_of (controls_of a r p);
      rule = rule_of (controls_of a r p).alumode (slice_operands a r p x).y;
      lanes = a.use_simd;
      result = (slice_settled a r p x).p;
    }

-- of a refused call: "all give zeros"
abbrev pub no_reason : Reason
no_reason =
    record {
      values = record { w = 0; x = 0; y = 0; z = 0; cin = 0 };
      places = record { w = Zero; x = Zero; y = Zero; z = Zero; cin = Zero };
      rule = None;
      lanes = 0;
      result = 0;
    }

-- ---- as words

abbrev pub place_number : Place → ℕ
place_number Zero = 0
place_number M = 1
place_number P = 2
place_number AB = 3
place_number Ones = 4
place_number C = 5
place_number Pcin = 6
place_number PcinShifted = 7
place_number PShifted = 8
place_number Rnd = 9
place_number Carryin = 10
place_number PcinBit47 = 11
place_number NotPcinBit47 = 12
place_number PBit47 = 13
place_number NotPBit47 = 14
place_number CarryBelow = 15

abbrev pub rule_number : Option Rule → ℕ
rule_number None = 0
rule_number (Some Sum) = 1
rule_number (Some SumNotZ) = 2
rule_number (Some NotSum) = 3
rule_number (Some Difference) = 4
rule_number (Some Xor) = 5
rule_number (Some Xnor) = 6
rule_number (Some And) = 7
rule_number (Some Or) = 8
rule_number (Some AndNotZ) = 9
rule_number (Some OrNotZ) = 10
rule_number (Some Nand) = 11
rule_number (Some Nor) = 12
rule_number (Some NotXOrZ) = 13
rule_number (Some NotXAndZ) = 14

-- how many words a reason has
abbrev pub why_words : ℕ
why_words = 13

abbrev pub places_numbers : Places → List ℕ
places_numbers v =
    place_number v.w ∷ place_number v.x ∷ place_number v.y ∷ place_number v.z ∷ place_number v.cin ∷ []

-- W, X, Y, Z, CIN, their places, the rule, the lanes, the result
unfoldable pub reason_words : Reason → List ℕ
reason_words v =
    (v.values.w ∷ v.values.x ∷ v.values.y ∷ v.values.z ∷ v.values.cin ∷ [])
    ++ places_numbers v.places
    ++ (rule_number v.rule ∷ v.lanes ∷ v.result ∷ [])
