-- No word passed of this slice exceeds its width, and none of a slice passed.
use Rattle.std.proofs.Common.{◌≡◌, false}
use Rattle.std.specs.Prelude.{None}
use Rattle.records.specs.Records.{some}
use Rattle.column.specs.Refusals.{lowest}
use Rattle.column.specs.Parts.{over}
use Rattle.column.proofs.Limits.{exceeds_at}
use Rattle.column.proofs.refusals.first_over.Given as goal

abbrev pub invariant-loop-i : goal.invariant-loop-i
invariant-loop-i l = (l.found ≡ None) × (some (exceeds_at l.widths l.words l.k) l.i ≡ false)

abbrev pub invariant-slices : goal.invariant-slices
invariant-slices l = (l.found ≡ None) × (lowest (over l.widths l.words) l.k ≡ None)
