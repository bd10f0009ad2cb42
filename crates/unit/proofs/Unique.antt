-- No second result fits the contract that a public function carries: of one call, two results that both meet its `ensures` (`Post`, as
-- rattle reads it from the source) are equal. Assumes nothing.
use Rattle.std.proofs.Common.{sym, ◌∙◌}
use Rattle.word.proofs.Unique.{Once}
use Rattle.unit.proofs.summed.Kinds as summed_kinds
use Rattle.unit.proofs.summed.Reads as summed_reads
use Rattle.unit.proofs.pre_adder.Kinds as pre_adder_kinds
use Rattle.unit.proofs.pre_adder.Reads as pre_adder_reads
use Rattle.unit.proofs.multiply.Kinds as multiply_kinds
use Rattle.unit.proofs.multiply.Reads as multiply_reads
use Rattle.unit.proofs.cut_mark.Kinds as cut_mark_kinds
use Rattle.unit.proofs.cut_mark.Reads as cut_mark_reads
use Rattle.unit.proofs.extend.Kinds as extend_kinds
use Rattle.unit.proofs.extend.Reads as extend_reads
use Rattle.unit.proofs.detect.Kinds as detect_kinds
use Rattle.unit.proofs.detect.Reads as detect_reads
use Rattle.unit.proofs.load.Kinds as load_kinds
use Rattle.unit.proofs.load.Reads as load_reads
use Rattle.unit.proofs.in_lanes.Kinds as in_lanes_kinds
use Rattle.unit.proofs.in_lanes.Reads as in_lanes_reads
use Rattle.unit.proofs.carry_out.Kinds as carry_out_kinds
use Rattle.unit.proofs.carry_out.Reads as carry_out_reads
use Rattle.unit.proofs.choice.bit.Kinds as bit_kinds
use Rattle.unit.proofs.choice.bit.Reads as bit_reads
use Rattle.unit.proofs.adder.Kinds as adder_kinds
use Rattle.unit.proofs.adder.Reads as adder_reads

pub summed_once : Once summed_kinds.ps summed_kinds.r summed_reads.Post
summed_once _ _ _ _ _ _ a b = a ∙ sym b

pub pre_adder_once : Once pre_adder_kinds.ps pre_adder_kinds.r pre_adder_reads.Post
pre_adder_once _ _ _ _ _ _ a b = a ∙ sym b

pub multiply_once : Once multiply_kinds.ps multiply_kinds.r multiply_reads.Post
multiply_once _ _ _ _ _ _ a b = a ∙ sym b

pub cut_mark_once : Once cut_mark_kinds.ps cut_mark_kinds.r cut_mark_reads.Post
cut_mark_once _ _ _ _ _ _ a b = a ∙ sym b

pub extend_once : Once extend_kinds.ps extend_kinds.r extend_reads.Post
extend_once _ _ _ _ _ _ a b = a ∙ sym b

pub detect_once : Once detect_kinds.ps detect_kinds.r detect_reads.Post
detect_once _ _ _ _ _ _ a b = a ∙ sym b

pub load_once : Once load_kinds.ps load_kinds.r load_reads.Post
load_once _ _ _ _ _ _ a b = a ∙ sym b

pub in_lanes_once : Once in_lanes_kinds.ps in_lanes_kinds.r in_lanes_reads.Post
in_lanes_once _ _ _ _ _ _ a b = a ∙ sym b

pub carry_out_once : Once carry_out_kinds.ps carry_out_kinds.r carry_out_reads.Post
carry_out_once _ _ _ _ _ _ a b = a ∙ sym b

pub bit_once : Once bit_kinds.ps bit_kinds.r bit_reads.Post
bit_once _ _ _ _ _ _ a b = a ∙ sym b

pub adder_once : Once adder_kinds.ps adder_kinds.r adder_reads.Post
adder_once _ _ _ _ _ _ a b = a ∙ sym b
