-- No second outcome fits the contract that a public call carries: of one call, two answers and two contents of what was lent that both
-- meet its `ensures` (`Post`, as rattle reads it from the source) are equal. Assumes nothing.
use Rattle.std.proofs.Common.{◌≡◌, sym, ◌∙◌}
use contract.Lifetimes.{Lfts}
use denote.Triple.Clauses.{AtExit}
use borrow.Fn.Kinds.{Dens, res_t, ended_of}
use Rattle.text.specs.Calls.{one_line}
use Rattle.text.proofs.line.Kinds as line_kinds
use Rattle.text.proofs.line.Reads as line_reads
use Rattle.text.proofs.put_line.Kinds as put_line_kinds
use Rattle.text.proofs.put_line.Reads as put_line_reads

-- x.1.1.0 is the lent words at exit
pub line_once : (κs : Lfts 2) (args : Dens κs line_kinds.ps) (r₁ r₂ : (res_t line_kinds.r κs).Denot)
    (x₁ x₂ : AtExit (ended_of 2 line_kinds.ps line_kinds.r) κs)
    → line_reads.Post κs args r₁ x₁ → line_reads.Post κs args r₂ x₂ → (r₁ ≡ r₂) × (x₁.1.1.0.now ≡ x₂.1.1.0.now)
line_once κs args r₁ r₂ x₁ x₂ a b = one_line a b

-- x.1.1.1.0 is the bytes at exit
pub put_line_once : (κs : Lfts 3) (args : Dens κs put_line_kinds.ps) (r₁ r₂ : (res_t put_line_kinds.r κs).Denot)
    (x₁ x₂ : AtExit (ended_of 3 put_line_kinds.ps put_line_kinds.r) κs)
    → put_line_reads.Post κs args r₁ x₁ → put_line_reads.Post κs args r₂ x₂ → (r₁ ≡ r₂) × (x₁.1.1.1.0.now ≡ x₂.1.1.1.0.now)
put_line_once κs args r₁ r₂ x₁ x₂ a b = (a.ends ∙ sym b.ends, a.bytes ∙ sym b.bytes)
