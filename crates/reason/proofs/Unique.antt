-- No second result fits the contract that a public function carries: of one call, two results that both meet its `ensures` (`Post`, as
-- rattle reads it from the source) are equal. Assumes nothing.
use mathlib.Core.Path.{sym, ◌∙◌}
use Rattle.word.proofs.Unique.{Once}
use Rattle.reason.proofs.reason_of.Kinds as reason_of_kinds
use Rattle.reason.proofs.reason_of.Reads as reason_of_reads
use Rattle.reason.proofs.Reason.none.Kinds as none_kinds
use Rattle.reason.proofs.Reason.none.Reads as none_reads
use Rattle.reason.proofs.Reason.words.Kinds as words_kinds
use Rattle.reason.proofs.Reason.words.Reads as words_reads

pub reason_of_once : Once reason_of_kinds.ps reason_of_kinds.r reason_of_reads.Post
reason_of_once _ _ _ _ _ _ a b = a ∙ sym b

pub none_once : Once none_kinds.ps none_kinds.r none_reads.Post
none_once _ _ _ _ _ _ a b = a ∙ sym b

pub words_once : Once words_kinds.ps words_kinds.r words_reads.Post
words_once _ _ _ _ _ _ a b = a ∙ sym b
