-- No second outcome fits the contract that a public function carries: of one call, two results and two contents of the lent words that both
-- meet its `ensures` (`Post`, as rattle reads it from the source) are equal. Assumes nothing.
use mathlib.Core.Path.{◌≡◌, sym, ◌∙◌}
use contract.Lifetimes.{Lfts}
use denote.Triple.Clauses.{AtExit}
use borrow.Fn.Kinds.{Dens, res_t, ended_of}
use Rattle.word.proofs.Unique.{Once}
use Rattle.slice.proofs.edge.stepped.Kinds as stepped_kinds
use Rattle.slice.proofs.edge.stepped.Reads as stepped_reads
use Rattle.slice.proofs.inputs.in_effect.Kinds as in_effect_kinds
use Rattle.slice.proofs.inputs.in_effect.Reads as in_effect_reads
use Rattle.slice.proofs.inputs.selects_of.Kinds as selects_of_kinds
use Rattle.slice.proofs.inputs.selects_of.Reads as selects_of_reads
use Rattle.slice.proofs.inputs.routed.Kinds as routed_kinds
use Rattle.slice.proofs.inputs.routed.Reads as routed_reads
use Rattle.slice.proofs.multiplier.m_path.Kinds as m_path_kinds
use Rattle.slice.proofs.multiplier.m_path.Reads as m_path_reads
use Rattle.slice.proofs.operands.joined.Kinds as joined_kinds
use Rattle.slice.proofs.operands.joined.Reads as joined_reads
use Rattle.slice.proofs.edge.settled_carry.Kinds as settled_carry_kinds
use Rattle.slice.proofs.edge.settled_carry.Reads as settled_carry_reads
use Rattle.slice.proofs.edge.cascade_of.Kinds as cascade_of_kinds
use Rattle.slice.proofs.edge.cascade_of.Reads as cascade_of_reads

-- x.1.0 are the lent registers at exit
pub stepped_once : (κs : Lfts 1) (args : Dens κs stepped_kinds.ps) (r₁ r₂ : (res_t stepped_kinds.r κs).Denot)
    (x₁ x₂ : AtExit (ended_of 1 stepped_kinds.ps stepped_kinds.r) κs)
    → stepped_reads.Post κs args r₁ x₁ → stepped_reads.Post κs args r₂ x₂ → (r₁ ≡ r₂) × (x₁.1.0.now ≡ x₂.1.0.now)
stepped_once κs args r₁ r₂ x₁ x₂ a b = (a.given ∙ sym b.given, a.registers ∙ sym b.registers)

pub settled_carry_once : Once settled_carry_kinds.ps settled_carry_kinds.r settled_carry_reads.Post
settled_carry_once _ _ _ _ _ _ a b = a ∙ sym b

pub in_effect_once : Once in_effect_kinds.ps in_effect_kinds.r in_effect_reads.Post
in_effect_once _ _ _ _ _ _ a b = a ∙ sym b

pub selects_of_once : Once selects_of_kinds.ps selects_of_kinds.r selects_of_reads.Post
selects_of_once _ _ _ _ _ _ a b = a ∙ sym b

pub routed_once : Once routed_kinds.ps routed_kinds.r routed_reads.Post
routed_once _ _ _ _ _ _ a b = a ∙ sym b

pub m_path_once : Once m_path_kinds.ps m_path_kinds.r m_path_reads.Post
m_path_once _ _ _ _ _ _ a b = a ∙ sym b

pub joined_once : Once joined_kinds.ps joined_kinds.r joined_reads.Post
joined_once _ _ _ _ _ _ a b = a ∙ sym b

pub cascade_of_once : Once cascade_of_kinds.ps cascade_of_kinds.r cascade_of_reads.Post
cascade_of_once _ _ _ _ _ _ a b = a ∙ sym b
