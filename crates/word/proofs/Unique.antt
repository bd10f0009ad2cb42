-- No second result fits the contract that a public function carries (`Post`, as rattle reads it from the source). Assumes nothing.
use Rattle.std.proofs.Common.{◌≡◌, ℕ, List, sym, ◌∙◌}
use contract.Lifetimes.{Lfts}
use denote.Triple.Clauses.{AtExit}
use borrow.Fn.Kinds.{ParamKind, ResultKind, Dens, Out, res_t, ended_of}
use Rattle.word.proofs.signed_of.Kinds as signed_of_kinds
use Rattle.word.proofs.signed_of.Reads as signed_of_reads
use Rattle.word.proofs.word_of.Kinds as word_of_kinds
use Rattle.word.proofs.word_of.Reads as word_of_reads
use Rattle.word.proofs.shift17.Kinds as shift17_kinds
use Rattle.word.proofs.shift17.Reads as shift17_reads
use Rattle.word.proofs.low_sum.Kinds as low_sum_kinds
use Rattle.word.proofs.low_sum.Reads as low_sum_reads
use Rattle.word.proofs.high_sum.Kinds as high_sum_kinds
use Rattle.word.proofs.high_sum.Reads as high_sum_reads

-- of one call, two results that both meet the contract are equal
abbrev pub Once : {n : ℕ} (ps : List (ParamKind n)) (r : ResultKind n) → Out n ps r → Type 0
Once {n} ps r post =
    (κs : Lfts n) (args : Dens κs ps) (r₁ r₂ : (res_t r κs).Denot) (x₁ x₂ : AtExit (ended_of n ps r) κs)
    → post κs args r₁ x₁ → post κs args r₂ x₂ → r₁ ≡ r₂

pub signed_of_once : Once signed_of_kinds.ps signed_of_kinds.r signed_of_reads.Post
signed_of_once _ _ _ _ _ _ a b = a ∙ sym b

pub word_of_once : Once word_of_kinds.ps word_of_kinds.r word_of_reads.Post
word_of_once _ _ _ _ _ _ a b = a ∙ sym b

pub shift17_once : Once shift17_kinds.ps shift17_kinds.r shift17_reads.Post
shift17_once _ _ _ _ _ _ a b = a ∙ sym b

pub low_sum_once : Once low_sum_kinds.ps low_sum_kinds.r low_sum_reads.Post
low_sum_once _ _ _ _ _ _ a b = a ∙ sym b

pub high_sum_once : Once high_sum_kinds.ps high_sum_kinds.r high_sum_reads.Post
high_sum_once _ _ _ _ _ _ a b = a ∙ sym b
