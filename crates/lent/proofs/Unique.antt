-- No second outcome fits the contract that a public call carries: of one call, two contents of the lent words that both meet its
-- `ensures` (`Post`, as rattle reads it from the source) are equal. Assumes nothing.
use mathlib.Core.Path.{◌≡◌, sym, ◌∙◌}
use contract.Lifetimes.{Lfts}
use denote.Triple.Clauses.{AtExit}
use borrow.Fn.Kinds.{Dens, res_t, ended_of}
use Rattle.lent.proofs.store.Kinds as store_kinds
use Rattle.lent.proofs.store.Reads as store_reads
use Rattle.lent.proofs.zero.Kinds as zero_kinds
use Rattle.lent.proofs.zero.Reads as zero_reads

-- x.0 is the lent words at exit
pub store_once : (κs : Lfts 2) (args : Dens κs store_kinds.ps) (r₁ r₂ : (res_t store_kinds.r κs).Denot) (x₁ x₂ : AtExit (ended_of 2 store_kinds.ps store_kinds.r) κs)
    → store_reads.Post κs args r₁ x₁ → store_reads.Post κs args r₂ x₂ → x₁.0.now ≡ x₂.0.now
store_once κs args r₁ r₂ x₁ x₂ a b = a ∙ sym b

pub zero_once : (κs : Lfts 1) (args : Dens κs zero_kinds.ps) (r₁ r₂ : (res_t zero_kinds.r κs).Denot) (x₁ x₂ : AtExit (ended_of 1 zero_kinds.ps zero_kinds.r) κs)
    → zero_reads.Post κs args r₁ x₁ → zero_reads.Post κs args r₂ x₂ → x₁.0.now ≡ x₂.0.now
zero_once κs args r₁ r₂ x₁ x₂ a b = a ∙ sym b
