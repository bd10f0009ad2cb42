-- What a slice's words and settings may be (01, "Refusal numbers", 3 to 9; the widths stand in `records`). Assumes nothing.
use Rattle.std.specs.Prelude.{ℕ, Bool, not, ◌&&◌, ◌||◌, ◌==◌, nat_le, nat_lt}
use Rattle.unit.specs.Choice.{bit}
use Rattle.records.specs.declared.Attributes.{Attributes}
use Rattle.records.specs.declared.Registers.{Registers}
use Rattle.records.specs.declared.Ports.{Ports}
use Rattle.records.specs.Records.{attribute_widths, register_widths, port_widths, exceeds, attributes_words, registers_words, ports_words}
use Rattle.slice.specs.declared.inputs.Controls.{Controls}
use Rattle.slice.specs.declared.inputs.Selects.{Selects}
use Rattle.slice.specs.Slice.{controls_of, selects_of}
use Rattle.legal.specs.declared.rules.Rule.{Rule}
use Rattle.legal.specs.declared.rules.Rule.TheVariants.{Inmode, Opmode, Alumode, Carryinsel}

-- 01, "The lent words": AREG is 0 to 2; ACASCREG equals AREG, except that AREG 2 allows 1 or 2; likewise B
abbrev pub listed : (reg cascreg : ℕ) → Bool
listed reg cascreg = nat_le reg 2 && (cascreg == reg || reg == 2 && cascreg == 1)

-- USE_SIMD is 0 to 2, and 0 where USE_MULT is 1 (02, Ask 1)
abbrev pub split_fits : (mult simd : ℕ) → Bool
split_fits mult simd = nat_le simd 2 && (simd == 0 || mult == 0)

-- 3, beside the widths
unfoldable pub off_list : Attributes → Bool
off_list a = not (listed a.areg a.acascreg && listed a.breg a.bcascreg && split_fits a.use_mult a.use_simd)

-- 6: INMODE bit 2 or 3 set with AMULTSEL 0; bit 0 set with AREG 0; bit 4 set with BREG 0
unfoldable pub bad_inmode : Attributes → Controls → Bool
bad_inmode a k =
    (bit k.inmode 2 == 1 || bit k.inmode 3 == 1) && a.amultsel == 0
    || bit k.inmode 0 == 1 && a.areg == 0
    || bit k.inmode 4 == 1 && a.breg == 0

-- 7: Z select 4 or 7; exactly one of X, Y is 1; X 1 with USE_MULT 0; X 2, Z 2, Z 6 or W 1 with PREG 0
unfoldable pub bad_opmode : Attributes → Selects → Bool
bad_opmode a s =
    (s.z == 4) || s.z == 7
    || s.x == 1 && not (s.y == 1) || not (s.x == 1) && s.y == 1
    || s.x == 1 && a.use_mult == 0
    || (s.x == 2 || s.z == 2 || s.z == 6 || s.w == 1) && a.preg == 0

-- 8: ALUMODE 8 to 11; or a logic mode with W not 0, Y not 0 or 2, or X 1
unfoldable pub bad_alumode : (alumode : ℕ) → Selects → Bool
bad_alumode mode s =
    nat_le 8 mode && nat_le mode 11
    || not (nat_lt mode 4) && (not (s.w == 0) || not (s.y == 0 || s.y == 2) || s.x == 1)

-- 9: CARRYINSEL 4, 6 (2 no longer: 02, Ask 7); or 5, 7 with PREG 0
unfoldable pub bad_carryinsel : Attributes → Controls → Bool
bad_carryinsel a k =
    (k.carryinsel == 4) || k.carryinsel == 6
    || (k.carryinsel == 5 || k.carryinsel == 7) && a.preg == 0

-- Numbers 6 to 9: a slice's settings break a rule
unfoldable pub breaks : Rule → Attributes → Registers → Ports → Bool
breaks Inmode a r p = bad_inmode a (controls_of a r p)
breaks Opmode a r p = bad_opmode a (selects_of (controls_of a r p).opmode)
breaks Alumode a r p = bad_alumode (controls_of a r p).alumode (selects_of (controls_of a r p).opmode)
breaks Carryinsel a r p = bad_carryinsel a (controls_of a r p)

-- Numbers 3 to 5 but for 3's lists: every word is within its width, by the tables
unfoldable pub within_widths : Attributes → Registers → Ports → Bool
within_widths a r p =
    not (exceeds attribute_widths (attributes_words a))
    && not (exceeds register_widths (registers_words r))
    && not (exceeds port_widths (ports_words p))

-- A slice breaks none of the checks 3 to 9
unfoldable pub breaks_nothing : Attributes → Registers → Ports → Bool
breaks_nothing a r p =
    within_widths a r p
    && not (off_list a)
    && not (breaks Inmode a r p)
    && not (breaks Opmode a r p)
    && not (breaks Alumode a r p)
    && not (breaks Carryinsel a r p)
