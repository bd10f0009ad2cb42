-- No second outcome fits the contract that a public call carries: of one call, two answers and two contents of the lent words that both
-- meet its `ensures` (`Post`, as rattle reads it from the source) are equal. Assumes nothing.
use mathlib.Core.Path.{◌≡◌, sym, ◌∙◌}
use contract.Lifetimes.{Lfts}
use denote.Triple.Clauses.{AtExit}
use borrow.Fn.Kinds.{Dens, res_t, ended_of}
use Rattle.word.proofs.Unique.{Once}
use Rattle.packed.specs.Calls.{one_clocked, one_plain}
use Rattle.packed.proofs.packed_clocked.Kinds as clocked_kinds
use Rattle.packed.proofs.packed_clocked.Reads as clocked_reads
use Rattle.packed.proofs.packed_plain.Kinds as plain_kinds
use Rattle.packed.proofs.packed_plain.Reads as plain_reads
use Rattle.packed.proofs.number.Kinds as number_kinds
use Rattle.packed.proofs.number.Reads as number_reads
use Rattle.packed.proofs.clocks.Kinds as clocks_kinds
use Rattle.packed.proofs.clocks.Reads as clocks_reads
use Rattle.packed.proofs.place.Kinds as place_kinds
use Rattle.packed.proofs.place.Reads as place_reads

-- x.1.1.1.1.1.0 and x.1.1.1.1.1.1.0 are the lent answers and the lent list at exit
pub clocked_once : (κs : Lfts 5) (args : Dens κs clocked_kinds.ps) (r₁ r₂ : (res_t clocked_kinds.r κs).Denot) (x₁ x₂ : AtExit (ended_of 5 clocked_kinds.ps clocked_kinds.r) κs)
    → clocked_reads.Post κs args r₁ x₁ → clocked_reads.Post κs args r₂ x₂
    → (r₁ ≡ r₂) × (x₁.1.1.1.1.1.0.now ≡ x₂.1.1.1.1.1.0.now) × (x₁.1.1.1.1.1.1.0.now ≡ x₂.1.1.1.1.1.1.0.now)
clocked_once κs args r₁ r₂ x₁ x₂ a b = one_clocked a b

pub plain_once : (κs : Lfts 4) (args : Dens κs plain_kinds.ps) (r₁ r₂ : (res_t plain_kinds.r κs).Denot) (x₁ x₂ : AtExit (ended_of 4 plain_kinds.ps plain_kinds.r) κs)
    → plain_reads.Post κs args r₁ x₁ → plain_reads.Post κs args r₂ x₂ → (r₁ ≡ r₂) × (x₁.1.1.1.1.1.0.now ≡ x₂.1.1.1.1.1.0.now)
plain_once κs args r₁ r₂ x₁ x₂ a b = one_plain a b

pub number_once : Once number_kinds.ps number_kinds.r number_reads.Post
number_once _ _ _ _ _ _ a b = a ∙ sym b

pub clocks_once : Once clocks_kinds.ps clocks_kinds.r clocks_reads.Post
clocks_once _ _ _ _ _ _ a b = a ∙ sym b

pub place_once : Once place_kinds.ps place_kinds.r place_reads.Post
place_once _ _ _ _ _ _ a b = a ∙ sym b
