-- No second outcome fits the contract that a public call carries: of one call, two answers and two contents of what is lent that both
-- meet its `ensures` (`Post`, as rattle reads it from the source) are equal. Assumes nothing.
use mathlib.Core.Path.{◌≡◌}
use contract.Lifetimes.{Lfts}
use denote.Triple.Clauses.{AtExit}
use borrow.Fn.Kinds.{Dens, res_t, ended_of}
use Rattle.listing.specs.Calls.{Lent, lending, one_piece, one_end}
use Rattle.listing.proofs.play.Kinds as play_kinds
use Rattle.listing.proofs.play.Reads as play_reads
use Rattle.listing.proofs.finish.Kinds as finish_kinds
use Rattle.listing.proofs.finish.Reads as finish_reads

-- what is lent to `play` at exit
abbrev lent : (κs : Lfts 8) → AtExit (ended_of 8 play_kinds.ps play_kinds.r) κs → Lent
lent κs x =
    lending x.1.0.now x.1.1.0.now x.1.1.1.0.now x.1.1.1.1.0.now x.1.1.1.1.1.0.now x.1.1.1.1.1.1.0.now

pub play_once : (κs : Lfts 8) (args : Dens κs play_kinds.ps) (r₁ r₂ : (res_t play_kinds.r κs).Denot) (x₁ x₂ : AtExit (ended_of 8 play_kinds.ps play_kinds.r) κs)
    → play_reads.Post κs args r₁ x₁ → play_reads.Post κs args r₂ x₂
    → (r₁.used ≡ r₂.used) × (r₁.made ≡ r₂.made) × (r₁.goes ≡ r₂.goes) × (lent κs x₁ ≡ lent κs x₂)
    × (x₁.1.1.1.1.1.1.1.0.now ≡ x₂.1.1.1.1.1.1.1.0.now)
play_once κs args r₁ r₂ x₁ x₂ a b = one_piece a b

-- x.1.0 is the lent bytes at exit
pub finish_once : (κs : Lfts 2) (args : Dens κs finish_kinds.ps) (r₁ r₂ : (res_t finish_kinds.r κs).Denot) (x₁ x₂ : AtExit (ended_of 2 finish_kinds.ps finish_kinds.r) κs)
    → finish_reads.Post κs args r₁ x₁ → finish_reads.Post κs args r₂ x₂ → (r₁ ≡ r₂) × (x₁.1.0.now ≡ x₂.1.0.now)
finish_once κs args r₁ r₂ x₁ x₂ a b = one_end a b
