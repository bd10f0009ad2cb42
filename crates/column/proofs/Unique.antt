-- No second outcome fits the contract that a public call carries: of one call, two answers and two contents of the lent words that both
-- meet its `ensures` (`Post`, as rattle reads it from the source) are equal. Assumes nothing.
use mathlib.Core.Path.{◌≡◌, sym, ◌∙◌}
use contract.Lifetimes.{Lfts}
use mir.Syntax.{Dict}
use denote.RattleType.{RattleType}
use denote.Param.Laws.{Laws}
use denote.Triple.Clauses.{AtExit}
use borrow.Fn.Kinds.{Dens, res_t, ended_of}
use Rattle.word.proofs.Unique.{Once}
use Rattle.column.specs.Calls.{one_clock, one_clear}
use Rattle.column.proofs.clock.Kinds as clock_kinds
use Rattle.column.proofs.clock.Reads as clock_reads
use Rattle.column.proofs.clear.Kinds as clear_kinds
use Rattle.column.proofs.clear.Reads as clear_reads
use Rattle.column.proofs.refusals.attributes_answer.Kinds as attributes_answer_kinds
use Rattle.column.proofs.refusals.attributes_answer.Reads as attributes_answer_reads
use Rattle.column.proofs.why.Kinds as why_kinds
use Rattle.column.proofs.why.Reads as why_reads
use Rattle.column.proofs.number.Kinds as number_kinds
use Rattle.column.proofs.number.Reads as number_reads
use Rattle.column.proofs.place.Kinds as place_kinds
use Rattle.column.proofs.place.Reads as place_reads

-- x.1.1.0 and x.1.1.1.1.0 are the lent registers and outputs at exit
pub clock_once : (κs : Lfts 4) (args : Dens κs clock_kinds.ps) (r₁ r₂ : (res_t clock_kinds.r κs).Denot) (x₁ x₂ : AtExit (ended_of 4 clock_kinds.ps clock_kinds.r) κs)
    → clock_reads.Post κs args r₁ x₁ → clock_reads.Post κs args r₂ x₂
    → (r₁ ≡ r₂) × (x₁.1.1.0.now ≡ x₂.1.1.0.now) × (x₁.1.1.1.1.0.now ≡ x₂.1.1.1.1.0.now)
clock_once κs args r₁ r₂ x₁ x₂ a b = one_clock a b

pub clear_once : (κs : Lfts 1) (args : Dens κs clear_kinds.ps) (r₁ r₂ : (res_t clear_kinds.r κs).Denot) (x₁ x₂ : AtExit (ended_of 1 clear_kinds.ps clear_kinds.r) κs)
    → clear_reads.Post κs args r₁ x₁ → clear_reads.Post κs args r₂ x₂ → (r₁ ≡ r₂) × (x₁.1.0.now ≡ x₂.1.0.now)
clear_once κs args r₁ r₂ x₁ x₂ a b = one_clear a b

pub why_once : Once why_kinds.ps why_kinds.r why_reads.Post
why_once _ _ _ _ _ _ a b = a ∙ sym b

pub number_once : (T : RattleType) (laws : Laws T) (dict : Dict) → Once (number_kinds.ps T laws) (number_kinds.r T laws) (number_reads.Post T laws dict)
number_once _ _ _ _ _ _ _ _ _ a b = a ∙ sym b

pub place_once : (T : RattleType) (laws : Laws T) (dict : Dict) → Once (place_kinds.ps T laws) (place_kinds.r T laws) (place_reads.Post T laws dict)
place_once _ _ _ _ _ _ _ _ _ a b = a ∙ sym b

pub attributes_answer_once : Once attributes_answer_kinds.ps attributes_answer_kinds.r attributes_answer_reads.Post
attributes_answer_once _ _ _ _ _ _ a b = a ∙ sym b
