-- Control registers in effect that hold a forbidden setting (01, "Refusal numbers": "A refusal stores nothing, in registers or in outputs.
-- So, its attributes unchanged, a column whose control registers in effect by themselves hold a forbidden setting refuses each clock until
-- cleared"). Assumes nothing.
use Prim.Native.Nat.{ℕ, ◌*◌, ◌<◌}
use mathlib.Core.Path.{◌≡◌, refl, sym, ap, subst, subst⁻¹, ◌∙◌}
use mathlib.Core.Bool.{true, false, true≢false}
use mathlib.Core.List.{List, [], ◌∷◌}
use native.Mathlib.Nat.{pos_of_ne-zero}
use native.Mathlib.Omega.{arith}
use lib.ListN.{replicate}
use Rattle.lent.specs.Refusing.{leaves}
use Rattle.unit.specs.Choice.{mux}
use Rattle.unit.proofs.Laws.{mux_1}
use Rattle.records.specs.declared.Attributes.{Attributes}
use Rattle.records.specs.declared.Registers.{Registers}
use Rattle.records.specs.declared.Ports.{Ports}
use Rattle.records.specs.Records.{register_words, port_words, registers_of, ports_of}
use Rattle.slice.specs.declared.inputs.Controls.{Controls}
use Rattle.slice.specs.Slice.{controls_of, selects_of}
use Rattle.legal.specs.declared.rules.Rule.{Rule}
use Rattle.legal.specs.declared.rules.Rule.TheVariants.{Inmode, Opmode, Alumode, Carryinsel}
use Rattle.legal.specs.Legal.{bad_inmode, bad_opmode, bad_alumode, bad_carryinsel, breaks}
use Rattle.column.specs.declared.Check.{Check}
use Rattle.column.specs.declared.Check.TheVariants as check
use Rattle.column.specs.Column.{attributes_at, registers_at, ports_at}
use Rattle.column.specs.Refusals.{Answer, accepted, number_of, broken, fails, clock_answer}
use Rattle.column.specs.Calls.{Clocked, Cleared}
use Rattle.column.proofs.Search.{lowest_none}
use Rattle.column.proofs.Answers.{accepted_none, accepted_settings, not_accepted, refused_keeps}
use Rattle.column.proofs.Fits.{cleared_stretch}

-- the check of a rule, 6 to 9
abbrev pub check_of : Rule → Check
check_of Inmode = check.Inmode
check_of Opmode = check.Opmode
check_of Alumode = check.Alumode
check_of Carryinsel = check.Carryinsel

fails_rule : (rule : Rule) (at rs ps : List ℕ) (k : ℕ) → fails (check_of rule) at rs ps k ≡ breaks rule (attributes_at at k) (registers_at rs k) (ports_at ps k)
unfolding fails broken
fails_rule Inmode at rs ps k = refl
fails_rule Opmode at rs ps k = refl
fails_rule Alumode at rs ps k = refl
fails_rule Carryinsel at rs ps k = refl

-- ---- refused until cleared

-- "by themselves hold a forbidden setting": a slice of the column fails one of the checks 6 to 9 whatever the ports are
pub record HoldsForbidden (count : ℕ) (at rs : List ℕ) : Type 0 where
  pub slice : ℕ
  pub below : slice < count
  pub rule : Rule
  pub with_any_ports : (ps : List ℕ) → fails (check_of rule) at rs ps slice ≡ true

-- any number of calls of `clock`, one after the other: the same count and attributes, any ports and any outputs lent in each, and the
-- registers that the call before left. From the registers at the start, by the answers, to the registers at the end
pub data Clocks (count : ℕ) (at : List ℕ) : (rs : List ℕ) → (answers : List Answer) → (rs' : List ℕ) → Type 0 where
  none : {rs : List ℕ} → Clocks count at rs [] rs
  call : {rs ps os : List ℕ} {r : Answer} {rs₁ os₁ : List ℕ} {answers : List Answer} {rs' : List ℕ} → Clocked count at rs ps os r rs₁ os₁
      → Clocks count at rs₁ answers rs' → Clocks count at rs (r ∷ answers) rs'

-- each answer is a refusal: its number is above 0
abbrev pub AllRefused : List Answer → Type 0
AllRefused [] = Unit {0}
AllRefused (r ∷ answers) = (0 < number_of r) × AllRefused answers

-- one clock is refused, whatever the ports and the lent outputs are
pub holder_refuses : {count : ℕ} {at rs : List ℕ} → HoldsForbidden count at rs → (ps os : List ℕ) → 0 < number_of (clock_answer count at rs ps os)
holder_refuses {count} {at} {rs} held ps os = not_accepted (clock_answer count at rs ps os) never
  where
    never : clock_answer count at rs ps os ≡ accepted → ⊥
    never p =
        let none = accepted_none count at rs ps (accepted_settings count at rs ps os p) (check_of held.rule) in
        let passes = lowest_none (fails (check_of held.rule) at rs ps) count held.slice none held.below in
        true≢false (sym (held.with_any_ports ps) ∙ passes)

-- "refuses each clock until cleared": every answer of a run is a refusal, and the registers at its end are those at its start
pub refuses_until_cleared : {count : ℕ} {at rs rs' : List ℕ} {answers : List Answer} → HoldsForbidden count at rs → Clocks count at rs answers rs'
    → AllRefused answers × (rs' ≡ rs)
refuses_until_cleared held none = (tt, refl)
refuses_until_cleared {count} {at} held (call {rs} {ps} {os} {r} {rs₁} c more) =
    let above : 0 < number_of r = subst⁻¹ (λ (a : Answer). 0 < number_of a) c.answer (holder_refuses held ps os) in
    let same = (refused_keeps c above).0 in
    let rest = refuses_until_cleared (subst⁻¹ (HoldsForbidden count at) same held) more in
    ((above, rest.0), rest.1 ∙ same)

-- ---- registers in effect

-- each control that a rule reads is its register: the ..REG is not 0. Rule 8 reads OPMODE too
abbrev pub Registered : Rule → Attributes → Type 0
Registered Inmode a = 0 < a.inmodereg
Registered Opmode a = 0 < a.opmodereg
Registered Alumode a = (0 < a.alumodereg) × (0 < a.opmodereg)
Registered Carryinsel a = 0 < a.carryinselreg

register_read : (reg x y : ℕ) → 0 < reg → mux reg x y ≡ y
register_read reg x y h = mux_1 reg x y (λ e. omega arith)

-- then the ports say nothing: a slice breaks the rule with some exactly if it does with all
pub held_by_itself : (rule : Rule) (a : Attributes) (r : Registers) → Registered rule a → (p p' : Ports) → breaks rule a r p ≡ breaks rule a r p'
unfolding breaks controls_of bad_inmode bad_carryinsel
held_by_itself Inmode a r h p p' = rw (register_read a.inmodereg p.inmode r.inmode h, register_read a.inmodereg p'.inmode r.inmode h)
held_by_itself Opmode a r h p p' = rw (register_read a.opmodereg p.opmode r.opmode h, register_read a.opmodereg p'.opmode r.opmode h)
held_by_itself Alumode a r h p p' =
    rw (
      register_read a.alumodereg p.alumode r.alumode h.0,
      register_read a.alumodereg p'.alumode r.alumode h.0,
      register_read a.opmodereg p.opmode r.opmode h.1,
      register_read a.opmodereg p'.opmode r.opmode h.1,
    )
held_by_itself Carryinsel a r h p p' =
    rw (
      register_read a.carryinselreg p.carryinsel r.carryinsel h,
      register_read a.carryinselreg p'.carryinsel r.carryinsel h,
    )

-- so one clock's refusal shows what the registers hold by themselves
pub broken_once : {count : ℕ} {at rs : List ℕ} (ps : List ℕ) (k : ℕ) → k < count → (rule : Rule) → Registered rule (attributes_at at k)
    → fails (check_of rule) at rs ps k ≡ true → HoldsForbidden count at rs
broken_once {count} {at} {rs} ps k h rule registered e =
    record {
      slice = k;
      below = h;
      rule = rule;
      with_any_ports =
          λ ps'. fails_rule rule at rs ps' k
          ∙ held_by_itself rule (attributes_at at k) (registers_at rs k) registered (ports_at ps' k) (ports_at ps k)
          ∙ sym (fails_rule rule at rs ps k)
          ∙ e;
    }

-- ---- nothing held

-- the control that a rule is named after, and its ..REG
abbrev named : Rule → Controls → ℕ
named Inmode k = k.inmode
named Opmode k = k.opmode
named Alumode k = k.alumode
named Carryinsel k = k.carryinsel

abbrev pub reg_of : Rule → Attributes → ℕ
reg_of Inmode a = a.inmodereg
reg_of Opmode a = a.opmodereg
reg_of Alumode a = a.alumodereg
reg_of Carryinsel a = a.carryinselreg

-- where that control is 0 the rule is not broken, whatever the attributes are
zero_allowed : (rule : Rule) (a : Attributes) (r : Registers) (p : Ports) → named rule (controls_of a r p) ≡ 0 → breaks rule a r p ≡ false
unfolding breaks bad_inmode bad_opmode bad_alumode bad_carryinsel selects_of
zero_allowed Inmode a r p e = rw e
zero_allowed Opmode a r p e = rw e
zero_allowed Alumode a r p e = rw e
zero_allowed Carryinsel a r p e = rw e

-- it is 0 where the register is read and is 0
by_register : (rule : Rule) (a : Attributes) (p : Ports) → 0 < reg_of rule a
    → named rule (controls_of a (registers_of (replicate register_words 0)) p) ≡ 0
unfolding controls_of
by_register Inmode a p h = register_read a.inmodereg p.inmode 0 h
by_register Opmode a p h = register_read a.opmodereg p.opmode 0 h
by_register Alumode a p h = register_read a.alumodereg p.alumode 0 h
by_register Carryinsel a p h = register_read a.carryinselreg p.carryinsel 0 h

-- and where the port is read and is 0
by_port : (rule : Rule) (a : Attributes) (r : Registers) → reg_of rule a ≡ 0
    → named rule (controls_of a r (ports_of (replicate port_words 0))) ≡ 0
unfolding controls_of
by_port Inmode a r e = rw e
by_port Opmode a r e = rw e
by_port Alumode a r e = rw e
by_port Carryinsel a r e = rw e

-- what is held by itself is held by a register in effect: the ..REG of its rule is not 0
pub held_in_effect : {count : ℕ} {at rs : List ℕ} (held : HoldsForbidden count at rs) → 0 < reg_of held.rule (attributes_at at held.slice)
held_in_effect {count} {at} {rs} held = pos_of_ne-zero never
  where
    never : reg_of held.rule (attributes_at at held.slice) ≡ 0 → ⊥
    never e =
        let rule = held.rule in
        let k = held.slice in
        let a = attributes_at at k in
        let r = registers_at rs k in
        let idle : List ℕ = replicate (port_words * count) 0 in
        true≢false
        (sym (held.with_any_ports idle)
        ∙ fails_rule rule at rs idle k
        ∙ rw (cleared_stretch port_words k count held.below) (zero_allowed rule a r _ (by_port rule a r e)))

-- a slice of a cleared column breaks no rule whose control is its register, whatever the other attributes and the ports are
pub cleared_breaks_nothing : (rule : Rule) (count : ℕ) (at ps : List ℕ) (k : ℕ) → k < count → 0 < reg_of rule (attributes_at at k)
    → fails (check_of rule) at (replicate (register_words * count) 0) ps k ≡ false
cleared_breaks_nothing rule count at ps k h reg =
    fails_rule rule at (replicate (register_words * count) 0) ps k
    ∙ rw (cleared_stretch register_words k count h)
    (zero_allowed rule (attributes_at at k) _ (ports_at ps k) (by_register rule (attributes_at at k) (ports_at ps k) reg))

-- so a column that `clear` has cleared holds no forbidden setting by itself, whatever the attributes are
pub cleared_holds_nothing : {count : ℕ} {at rs rs' : List ℕ} → Cleared count rs accepted rs' → HoldsForbidden count at rs' → ⊥
cleared_holds_nothing {count} {at} {rs} c held =
    let zeros = c.registers ∙ ap (λ (a : Answer). leaves (number_of a) (replicate (register_words * count) 0) rs) (sym c.answer) in
    let free : HoldsForbidden count at (replicate (register_words * count) 0) = subst (HoldsForbidden count at) zeros held in
    true≢false
    (sym (free.with_any_ports []) ∙ cleared_breaks_nothing free.rule count at [] free.slice free.below (held_in_effect free))
