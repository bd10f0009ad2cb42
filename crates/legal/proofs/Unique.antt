-- No second result fits the contract that a public function carries: of one call, two results that both meet its `ensures` (`Post`, as
-- rattle reads it from the source) are equal. Assumes nothing.
use Rattle.std.proofs.Common.{sym, ◌∙◌}
use Rattle.word.proofs.Unique.{Once}
use Rattle.legal.proofs.rules.breaks.Kinds as breaks_kinds
use Rattle.legal.proofs.rules.breaks.Reads as breaks_reads
use Rattle.legal.proofs.rules.off_list.Kinds as off_list_kinds
use Rattle.legal.proofs.rules.off_list.Reads as off_list_reads
use Rattle.legal.proofs.quick.breaks_nothing.Kinds as breaks_nothing_kinds
use Rattle.legal.proofs.quick.breaks_nothing.Reads as breaks_nothing_reads

pub breaks_once : Once breaks_kinds.ps breaks_kinds.r breaks_reads.Post
breaks_once _ _ _ _ _ _ a b = a ∙ sym b

pub off_list_once : Once off_list_kinds.ps off_list_kinds.r off_list_reads.Post
off_list_once _ _ _ _ _ _ a b = a ∙ sym b

pub breaks_nothing_once : Once breaks_nothing_kinds.ps breaks_nothing_kinds.r breaks_nothing_reads.Post
breaks_nothing_once _ _ _ _ _ _ a b = a ∙ sym b
