-- No second outcome fits the contract that a public function carries: of one call, two results, or two contents of the lent words, that
-- both meet its `ensures` (`Post`, as rattle reads it from the source) are equal. Assumes nothing.
use mathlib.Core.Path.{◌≡◌, sym, ◌∙◌}
use contract.Lifetimes.{Lfts}
use denote.Triple.Clauses.{AtExit}
use borrow.Fn.Kinds.{Dens, res_t, ended_of}
use Rattle.word.proofs.Unique.{Once}
use Rattle.records.proofs.Attributes.cleared.Kinds as attributes_cleared_kinds
use Rattle.records.proofs.Attributes.cleared.Reads as attributes_cleared_reads
use Rattle.records.proofs.Attributes.words.Kinds as attributes_words_kinds
use Rattle.records.proofs.Attributes.words.Reads as attributes_words_reads
use Rattle.records.proofs.Registers.cleared.Kinds as registers_cleared_kinds
use Rattle.records.proofs.Registers.cleared.Reads as registers_cleared_reads
use Rattle.records.proofs.Registers.words.Kinds as registers_words_kinds
use Rattle.records.proofs.Registers.words.Reads as registers_words_reads
use Rattle.records.proofs.Ports.cleared.Kinds as ports_cleared_kinds
use Rattle.records.proofs.Ports.cleared.Reads as ports_cleared_reads
use Rattle.records.proofs.Ports.words.Kinds as ports_words_kinds
use Rattle.records.proofs.Ports.words.Reads as ports_words_reads
use Rattle.records.proofs.Outputs.cleared.Kinds as outputs_cleared_kinds
use Rattle.records.proofs.Outputs.cleared.Reads as outputs_cleared_reads
use Rattle.records.proofs.Outputs.words.Kinds as outputs_words_kinds
use Rattle.records.proofs.Outputs.words.Reads as outputs_words_reads
use Rattle.records.proofs.AttributesRecord.of.Kinds as attributes_of_kinds
use Rattle.records.proofs.AttributesRecord.of.Reads as attributes_of_reads
use Rattle.records.proofs.RegistersRecord.of.Kinds as registers_of_kinds
use Rattle.records.proofs.RegistersRecord.of.Reads as registers_of_reads
use Rattle.records.proofs.Registers.put.Kinds as put_kinds
use Rattle.records.proofs.Registers.put.Reads as put_reads
use Rattle.records.proofs.PortsRecord.of.Kinds as ports_of_kinds
use Rattle.records.proofs.PortsRecord.of.Reads as ports_of_reads

pub attributes_cleared_once : Once attributes_cleared_kinds.ps attributes_cleared_kinds.r attributes_cleared_reads.Post
attributes_cleared_once _ _ _ _ _ _ a b = a ∙ sym b

pub attributes_words_once : Once attributes_words_kinds.ps attributes_words_kinds.r attributes_words_reads.Post
attributes_words_once _ _ _ _ _ _ a b = a ∙ sym b

pub registers_cleared_once : Once registers_cleared_kinds.ps registers_cleared_kinds.r registers_cleared_reads.Post
registers_cleared_once _ _ _ _ _ _ a b = a ∙ sym b

pub registers_words_once : Once registers_words_kinds.ps registers_words_kinds.r registers_words_reads.Post
registers_words_once _ _ _ _ _ _ a b = a ∙ sym b

pub ports_cleared_once : Once ports_cleared_kinds.ps ports_cleared_kinds.r ports_cleared_reads.Post
ports_cleared_once _ _ _ _ _ _ a b = a ∙ sym b

pub ports_words_once : Once ports_words_kinds.ps ports_words_kinds.r ports_words_reads.Post
ports_words_once _ _ _ _ _ _ a b = a ∙ sym b

pub outputs_cleared_once : Once outputs_cleared_kinds.ps outputs_cleared_kinds.r outputs_cleared_reads.Post
outputs_cleared_once _ _ _ _ _ _ a b = a ∙ sym b

pub outputs_words_once : Once outputs_words_kinds.ps outputs_words_kinds.r outputs_words_reads.Post
outputs_words_once _ _ _ _ _ _ a b = a ∙ sym b

pub attributes_of_once : Once attributes_of_kinds.ps attributes_of_kinds.r attributes_of_reads.Post
attributes_of_once _ _ _ _ _ _ a b = a ∙ sym b

pub registers_of_once : Once registers_of_kinds.ps registers_of_kinds.r registers_of_reads.Post
registers_of_once _ _ _ _ _ _ a b = a ∙ sym b

pub ports_of_once : Once ports_of_kinds.ps ports_of_kinds.r ports_of_reads.Post
ports_of_once _ _ _ _ _ _ a b = a ∙ sym b

-- x.1.0 are the lent words at exit
pub put_once : (κs : Lfts 1) (args : Dens κs put_kinds.ps) (r₁ r₂ : (res_t put_kinds.r κs).Denot) (x₁ x₂ : AtExit (ended_of 1 put_kinds.ps put_kinds.r) κs)
    → put_reads.Post κs args r₁ x₁ → put_reads.Post κs args r₂ x₂ → x₁.1.0.now ≡ x₂.1.0.now
put_once κs args r₁ r₂ x₁ x₂ a b = a ∙ sym b
