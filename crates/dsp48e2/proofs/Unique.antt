-- No second outcome fits the contract that a call of the border carries (`Post`, as rattle reads it from the source). Assumes nothing.
use mathlib.Core.Path.{◌≡◌, sym, ◌∙◌}
use contract.Lifetimes.{Lfts}
use denote.Triple.Clauses.{AtExit}
use borrow.Fn.Kinds.{Dens, res_t, ended_of}
use Rattle.word.proofs.Unique.{Once}
use Rattle.dsp48e2.specs.Border.{one_clock, one_clear, one_why, one_clocked_run, one_plain_run}
use Rattle.dsp48e2.proofs.dsp_adder.Kinds as adder_kinds
use Rattle.dsp48e2.proofs.dsp_adder.Reads as adder_reads
use Rattle.dsp48e2.proofs.dsp_clock.Kinds as clock_kinds
use Rattle.dsp48e2.proofs.dsp_clock.Reads as clock_reads
use Rattle.dsp48e2.proofs.dsp_clear.Kinds as clear_kinds
use Rattle.dsp48e2.proofs.dsp_clear.Reads as clear_reads
use Rattle.dsp48e2.proofs.dsp_why.Kinds as why_kinds
use Rattle.dsp48e2.proofs.dsp_why.Reads as why_reads
use Rattle.dsp48e2.proofs.dsp_packed_clocked.Kinds as clocked_run_kinds
use Rattle.dsp48e2.proofs.dsp_packed_clocked.Reads as clocked_run_reads
use Rattle.dsp48e2.proofs.dsp_packed_plain.Kinds as plain_run_kinds
use Rattle.dsp48e2.proofs.dsp_packed_plain.Reads as plain_run_reads

pub adder_once : Once adder_kinds.ps adder_kinds.r adder_reads.Post
adder_once _ _ _ _ _ _ a b = a ∙ sym b

-- x.1.1.0 and x.1.1.1.1.0 are the lent registers and outputs at exit
pub clock_once : (κs : Lfts 4) (args : Dens κs clock_kinds.ps) (r₁ r₂ : (res_t clock_kinds.r κs).Denot) (x₁ x₂ : AtExit (ended_of 4 clock_kinds.ps clock_kinds.r) κs)
    → clock_reads.Post κs args r₁ x₁ → clock_reads.Post κs args r₂ x₂
    → (r₁ ≡ r₂) × (x₁.1.1.0.now ≡ x₂.1.1.0.now) × (x₁.1.1.1.1.0.now ≡ x₂.1.1.1.1.0.now)
clock_once κs args r₁ r₂ x₁ x₂ a b = one_clock a b

pub clear_once : (κs : Lfts 1) (args : Dens κs clear_kinds.ps) (r₁ r₂ : (res_t clear_kinds.r κs).Denot) (x₁ x₂ : AtExit (ended_of 1 clear_kinds.ps clear_kinds.r) κs)
    → clear_reads.Post κs args r₁ x₁ → clear_reads.Post κs args r₂ x₂ → (r₁ ≡ r₂) × (x₁.1.0.now ≡ x₂.1.0.now)
clear_once κs args r₁ r₂ x₁ x₂ a b = one_clear a b

-- x.1.1.1.1.1.0 is the lent `why` at exit
pub why_once : (κs : Lfts 4) (args : Dens κs why_kinds.ps) (r₁ r₂ : (res_t why_kinds.r κs).Denot) (x₁ x₂ : AtExit (ended_of 4 why_kinds.ps why_kinds.r) κs)
    → why_reads.Post κs args r₁ x₁ → why_reads.Post κs args r₂ x₂ → (r₁ ≡ r₂) × (x₁.1.1.1.1.1.0.now ≡ x₂.1.1.1.1.1.0.now)
why_once κs args r₁ r₂ x₁ x₂ a b = one_why a b

-- x.1.1.1.1.1.0 and x.1.1.1.1.1.1.0 are the lent answers and the lent list at exit
pub clocked_run_once : (κs : Lfts 5) (args : Dens κs clocked_run_kinds.ps) (r₁ r₂ : (res_t clocked_run_kinds.r κs).Denot)
    (x₁ x₂ : AtExit (ended_of 5 clocked_run_kinds.ps clocked_run_kinds.r) κs)
    → clocked_run_reads.Post κs args r₁ x₁ → clocked_run_reads.Post κs args r₂ x₂
    → (r₁ ≡ r₂) × (x₁.1.1.1.1.1.0.now ≡ x₂.1.1.1.1.1.0.now) × (x₁.1.1.1.1.1.1.0.now ≡ x₂.1.1.1.1.1.1.0.now)
clocked_run_once κs args r₁ r₂ x₁ x₂ a b = one_clocked_run a b

pub plain_run_once : (κs : Lfts 4) (args : Dens κs plain_run_kinds.ps) (r₁ r₂ : (res_t plain_run_kinds.r κs).Denot)
    (x₁ x₂ : AtExit (ended_of 4 plain_run_kinds.ps plain_run_kinds.r) κs)
    → plain_run_reads.Post κs args r₁ x₁ → plain_run_reads.Post κs args r₂ x₂
    → (r₁ ≡ r₂) × (x₁.1.1.1.1.1.0.now ≡ x₂.1.1.1.1.1.0.now)
plain_run_once κs args r₁ r₂ x₁ x₂ a b = one_plain_run a b
