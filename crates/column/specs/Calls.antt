-- The public calls as their callers see them: one answer, and one content of every lent word, for all inputs (01, "Refusal numbers":
-- "A refusal stores nothing, in registers or in outputs"). Assumes nothing.
use Rattle.std.specs.Prelude.{ℕ, ◌*◌, ◌≡◌, List, replicate, Result, Ok}
use Rattle.std.specs.Result.{result_and}
use Rattle.std.proofs.Common.{◌∙◌, sym}
use Rattle.lent.specs.Refusing.{leaves}
use Rattle.records.specs.Records.{register_words}
use Rattle.reason.specs.declared.Reason.{Reason}
use Rattle.reason.specs.Reason.{reason_of}
use Rattle.column.specs.declared.Refusal.{Refusal}
use Rattle.column.specs.Column.{attributes_at, registers_at, ports_at, cascade_into, column_shown, column_next}
use Rattle.column.specs.Refusals.{Answer, number_of, clock_answer, clear_answer, why_answer}

-- `clock`: the answer r, the registers rs' and the outputs os' at exit
pub record Clocked (count : ℕ) (at rs ps os : List ℕ) (r : Answer) (rs' os' : List ℕ) : Type 0 where
  pub answer : r ≡ clock_answer count at rs ps os
  pub registers : rs' ≡ leaves (number_of (clock_answer count at rs ps os)) (column_next count at rs ps) rs
  pub outputs : os' ≡ leaves (number_of (clock_answer count at rs ps os)) (column_shown count at rs ps) os

-- `clear`: "Clearing sets all registers to 0"
pub record Cleared (count : ℕ) (rs : List ℕ) (r : Answer) (rs' : List ℕ) : Type 0 where
  pub answer : r ≡ clear_answer count rs
  pub registers : rs' ≡ leaves (number_of (clear_answer count rs)) (replicate (register_words * count) 0) rs

-- the reason of what settles for P in slice k (02, Ask 3)
unfoldable pub reason_at : (at rs ps : List ℕ) → (k : ℕ) → Reason
reason_at at rs ps k = reason_of (attributes_at at k) (registers_at rs k) (ports_at ps k) (cascade_into at rs ps k)

-- `why`: the reason, or what is refused
unfoldable pub why_of : (count : ℕ) → (at rs ps : List ℕ) → (k : ℕ) → Result Reason Refusal
why_of count at rs ps k = result_and (why_answer count at rs ps k) (Ok (reason_at at rs ps k))

-- no second outcome fits
pub one_clock : {count : ℕ} {at rs ps os : List ℕ} {r₁ r₂ : Answer} {rs₁ rs₂ os₁ os₂ : List ℕ}
    → Clocked count at rs ps os r₁ rs₁ os₁ → Clocked count at rs ps os r₂ rs₂ os₂ → (r₁ ≡ r₂) × (rs₁ ≡ rs₂) × (os₁ ≡ os₂)
one_clock a b = (a.answer ∙ sym b.answer, a.registers ∙ sym b.registers, a.outputs ∙ sym b.outputs)

pub one_clear : {count : ℕ} {rs : List ℕ} {r₁ r₂ : Answer} {rs₁ rs₂ : List ℕ}
    → Cleared count rs r₁ rs₁ → Cleared count rs r₂ rs₂ → (r₁ ≡ r₂) × (rs₁ ≡ rs₂)
one_clear a b = (a.answer ∙ sym b.answer, a.registers ∙ sym b.registers)
