-- The quick test's tables, masks and bounds are their rules: each is compared with its rule at every number. A table is a parameter: the
-- code's own is compared where it is used. Assumes nothing.
use Rattle.std.proofs.Common.{◌≡◌, ℕ, ◌+◌, ◌*◌, ◌/◌, ◌%◌, ◌^◌, ◌<◌, Bool, true, false, not, ◌&&◌, ◌||◌, eqb, ltb, leb, [], ◌∷◌, sym, refl, ap, ◌∙◌}
use lib.Bits.{bit_and, bit_or}
use Rattle.word.proofs.Every.{every, every_at, every_at_2}
use Rattle.records.specs.declared.Attributes.{Attributes}
use Rattle.records.specs.Records.{attributes_of}
use Rattle.unit.specs.Choice.{bit}
use Rattle.slice.specs.declared.inputs.Controls.{Controls}
use Rattle.slice.specs.declared.inputs.Selects.{Selects}
use Rattle.slice.specs.Slice.{selects_of}
use Rattle.legal.specs.Legal.{listed, split_fits, bad_inmode, bad_opmode, bad_alumode, bad_carryinsel}

-- two tests agree
abbrev agree : Bool → Bool → Bool
agree true b = b
agree false b = not b

agreed : (a b : Bool) → agree a b ≡ true → a ≡ b
agreed true b p = sym p
agreed false true p = p
agreed false false p = refl

-- ---- the tables, masks and bounds, each against its rule

abbrev marks : (table place : ℕ) → Bool
marks table place = eqb (table / 2 ^ (place % 64) % 2) 1

-- a word moved up by k bits, of 64
abbrev up : (n k : ℕ) → ℕ
up n k = n * 2 ^ k % 2 ^ 64

-- attributes with USE_MULT and PREG, and controls with CARRYINSEL: all that the tables are about
abbrev with : (mult preg : ℕ) → Attributes
with mult preg =
    attributes_of (0 ∷ 0 ∷ 0 ∷ 0 ∷ 0 ∷ 0 ∷ 0 ∷ 0 ∷ 0 ∷ 0 ∷ preg ∷ 0 ∷ 0 ∷ 0 ∷ 0 ∷ 0 ∷ mult ∷ [])

abbrev selecting : ℕ → Controls
selecting sel = record { opmode = 0; alumode = 0; inmode = 0; carryinsel = sel }

-- DEPTHS
abbrev pub depth_right : (table : ℕ) → Bool
depth_right table = every 4 (λ reg. every 4 (λ casc. agree (marks table (bit_or (up reg 2) casc)) (listed reg casc)))

pub depth_table : (table : ℕ) → depth_right table ≡ true → (reg casc : ℕ) → reg < 4 → casc < 4
    → marks table (bit_or (up reg 2) casc) ≡ listed reg casc
depth_table table right reg casc h g =
    agreed _ _ (every_at_2 4 4 (λ reg casc. agree (marks table (bit_or (up reg 2) casc)) (listed reg casc)) right reg casc h g)

-- the mark of USE_MULT and USE_SIMD
abbrev split_mark : (mult simd : ℕ) → ℕ
split_mark mult simd = ((up mult 1 + simd) % 2 ^ 64 + 1) % 2 ^ 64

abbrev split_agrees : (mult simd : ℕ) → Bool
split_agrees mult simd = agree (ltb (split_mark mult simd) 4) (split_fits mult simd)

pub split_table : (mult simd : ℕ) → mult < 2 → simd < 4 → ltb (split_mark mult simd) 4 ≡ split_fits mult simd
split_table mult simd h g = agreed _ _ (every_at_2 2 4 split_agrees refl mult simd h g)

-- CARRYINSELS
abbrev carry_agrees : (table sel preg : ℕ) → Bool
carry_agrees table sel preg = agree (marks table (bit_or sel (up preg 3))) (not (bad_carryinsel (with 0 preg) (selecting sel)))

abbrev pub carry_right : (table : ℕ) → Bool
carry_right table = every 8 (λ sel. every 2 (carry_agrees table sel))

pub carry_table : (table : ℕ) → carry_right table ≡ true → (a : Attributes) (k : Controls) → k.carryinsel < 8 → a.preg < 2
    → marks table (bit_or k.carryinsel (up a.preg 3)) ≡ not (bad_carryinsel a k)
unfolding bad_carryinsel
carry_table table right a k h g = agreed _ _ (every_at_2 8 2 (carry_agrees table) right k.carryinsel a.preg h g)

-- X_AND_Y and W_AND_Z
abbrev opmode_marked : (xy wz mult preg opmode : ℕ) → Bool
opmode_marked xy wz mult preg opmode =
    marks wz (bit_or (opmode / 2 ^ 4) (up preg 5)) && marks xy (bit_or (bit_or (opmode % 16) (up mult 4)) (up preg 5))

abbrev opmode_agrees : (xy wz opmode mult preg : ℕ) → Bool
opmode_agrees xy wz opmode mult preg = agree (opmode_marked xy wz mult preg opmode) (not (bad_opmode (with mult preg) (selects_of opmode)))

abbrev pub opmode_right : (xy wz : ℕ) → Bool
opmode_right xy wz = every 512 (λ o. every 2 (λ u. every 2 (opmode_agrees xy wz o u)))

pub opmode_table : (xy wz : ℕ) → opmode_right xy wz ≡ true → (a : Attributes) (opmode : ℕ) → opmode < 512 → a.use_mult < 2 → a.preg < 2
    → opmode_marked xy wz a.use_mult a.preg opmode ≡ not (bad_opmode a (selects_of opmode))
unfolding bad_opmode
opmode_table xy wz right a opmode h g l =
    agreed _ _
    (every_at_2 2 2 (opmode_agrees xy wz opmode) (every_at 512 (λ o. every 2 (λ u. every 2 (opmode_agrees xy wz o u))) right opmode h)
    a.use_mult a.preg g l)

-- WITH_AD, and the bounds beside it
abbrev inmode_bounded : (inmode mult a b : ℕ) → Bool
inmode_bounded m mult a b = (leb (m % 2) a && leb (m / 2 ^ 4) b) && leb (bit_and m 12) (up mult 4)

abbrev inmode_bad : (inmode mult a b : ℕ) → Bool
inmode_bad m mult a b =
    (eqb (bit m 2) 1 || eqb (bit m 3) 1) && eqb mult 0 || eqb (bit m 0) 1 && eqb a 0 || eqb (bit m 4) 1 && eqb b 0

abbrev inmode_agrees : (inmode mult a b : ℕ) → Bool
inmode_agrees m mult a b = agree (inmode_bounded m mult a b) (not (inmode_bad m mult a b))

inmode_all : every 32 (λ m. every 2 (λ u. every 4 (λ a. every 4 (inmode_agrees m u a)))) ≡ true
inmode_all = refl

inmode_at : (m mult a b : ℕ) → m < 32 → mult < 2 → a < 4 → b < 4 → inmode_bounded m mult a b ≡ not (inmode_bad m mult a b)
inmode_at m mult a b h g k l =
    agreed (inmode_bounded m mult a b) (not (inmode_bad m mult a b))
    (every_at_2 4 4 (inmode_agrees m mult)
    (every_at_2 32 2 (λ m u. every 4 (λ a. every 4 (inmode_agrees m u a))) inmode_all m mult h g) a b k l)

pub inmode_bounds : (a : Attributes) (k : Controls) → k.inmode < 32 → a.amultsel < 2 → a.areg < 4 → a.breg < 4
    → inmode_bounded k.inmode a.amultsel a.areg a.breg ≡ not (bad_inmode a k)
unfolding bad_inmode
inmode_bounds a k h g i j = inmode_at k.inmode a.amultsel a.areg a.breg h g i j

-- CLEAR_IN_LOGIC: what a logic mode may not have
abbrev unlogical : Selects → Bool
unlogical s = not (eqb s.w 0) || not (eqb s.y 0 || eqb s.y 2) || eqb s.x 1

abbrev masked : (opmode : ℕ) → Bool
masked opmode = eqb (bit_and opmode 0x184) 0

abbrev logic_agrees : (opmode mult preg : ℕ) → Bool
logic_agrees opmode mult preg =
    bad_opmode (with mult preg) (selects_of opmode) || agree (masked opmode) (not (unlogical (selects_of opmode)))

logic_all : every 512 (λ o. every 2 (λ u. every 2 (logic_agrees o u))) ≡ true
unfolding bad_opmode selects_of
logic_all = refl

past : (a b : Bool) → a || b ≡ true → a ≡ false → b ≡ true
past true b p q = let z : true ≡ false = q in cc
past false b p q = p

-- past number 7 the mask leaves exactly what a logic mode may have
logic_mask : (a : Attributes) (opmode : ℕ) → opmode < 512 → a.use_mult < 2 → a.preg < 2 → bad_opmode a (selects_of opmode) ≡ false
    → masked opmode ≡ not (unlogical (selects_of opmode))
unfolding bad_opmode
logic_mask a opmode h g l q =
    agreed (masked opmode) (not (unlogical (selects_of opmode)))
    (past (bad_opmode (with a.use_mult a.preg) (selects_of opmode)) (agree (masked opmode) (not (unlogical (selects_of opmode))))
    (every_at_2 2 2 (logic_agrees opmode) (every_at 512 (λ o. every 2 (λ u. every 2 (logic_agrees o u))) logic_all opmode h)
    a.use_mult a.preg g l) q)

abbrev mode_marked : (mask : Bool) → (mode : ℕ) → Bool
mode_marked mask m = ltb m 4 || not (eqb (m / 2 ^ 2) 2) && mask

abbrev mode_bad : (un : Bool) → (mode : ℕ) → Bool
mode_bad un m = leb 8 m && leb m 11 || not (ltb m 4) && un

abbrev mode_agrees : (un : Bool) → (mode : ℕ) → Bool
mode_agrees un m = agree (mode_marked (not un) m) (not (mode_bad un m))

mode_all : (un : Bool) → every 16 (mode_agrees un) ≡ true
mode_all true = refl
mode_all false = refl

mode_at : (un : Bool) (m : ℕ) → m < 16 → mode_marked (not un) m ≡ not (mode_bad un m)
mode_at un m h = agreed (mode_marked (not un) m) (not (mode_bad un m)) (every_at 16 (mode_agrees un) (mode_all un) m h)

pub alumode_mask : (a : Attributes) (mode opmode : ℕ) → mode < 16 → opmode < 512 → a.use_mult < 2 → a.preg < 2
    → bad_opmode a (selects_of opmode) ≡ false → mode_marked (masked opmode) mode ≡ not (bad_alumode mode (selects_of opmode))
unfolding bad_alumode
alumode_mask a mode opmode m h g l q =
    ap (λ (b : Bool). mode_marked b mode) (logic_mask a opmode h g l q) ∙ mode_at (unlogical (selects_of opmode)) mode m
