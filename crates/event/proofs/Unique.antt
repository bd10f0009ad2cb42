-- No second outcome fits the contract that a public call carries: of one call, two answers and two contents of the lent bytes that
-- both meet its `ensures` (`Post`, as rattle reads it from the source) are equal. Assumes nothing.
use mathlib.Core.Path.{◌≡◌, sym, ◌∙◌}
use contract.Lifetimes.{Lfts}
use denote.Triple.Clauses.{AtExit}
use borrow.Fn.Kinds.{Dens, res_t, ended_of}
use Rattle.event.proofs.put.Kinds as put_kinds
use Rattle.event.proofs.put.Reads as put_reads
use Rattle.event.proofs.showing.shown.Kinds as shown_kinds
use Rattle.event.proofs.showing.shown.Reads as shown_reads

-- x.1.1.1.0 is the lent bytes at exit
pub put_once : (κs : Lfts 2) (args : Dens κs put_kinds.ps) (r₁ r₂ : (res_t put_kinds.r κs).Denot) (x₁ x₂ : AtExit (ended_of 2 put_kinds.ps put_kinds.r) κs)
    → put_reads.Post κs args r₁ x₁ → put_reads.Post κs args r₂ x₂ → (r₁ ≡ r₂) × (x₁.1.1.1.0.now ≡ x₂.1.1.1.0.now)
put_once κs args r₁ r₂ x₁ x₂ a b = (a.ends ∙ sym b.ends, a.bytes ∙ sym b.bytes)

pub shown_once : (κs : Lfts 1) (args : Dens κs shown_kinds.ps) (r₁ r₂ : (res_t shown_kinds.r κs).Denot) (x₁ x₂ : AtExit (ended_of 1 shown_kinds.ps shown_kinds.r) κs)
    → shown_reads.Post κs args r₁ x₁ → shown_reads.Post κs args r₂ x₂ → r₁ ≡ r₂
shown_once κs args r₁ r₂ x₁ x₂ a b = a ∙ sym b
