-- No second outcome fits the contract that a public call carries: of one call, two answers and two contents of the lent words that both
-- meet its `ensures` (`Post`, as rattle reads it from the source) are equal. Assumes nothing.
use mathlib.Core.Path.{◌≡◌, sym, ◌∙◌}
use contract.Lifetimes.{Lfts}
use denote.Triple.Clauses.{AtExit}
use borrow.Fn.Kinds.{Dens, res_t, ended_of}
use Rattle.player.proofs.is_working.Kinds as is_working_kinds
use Rattle.player.proofs.is_working.Reads as is_working_reads
use Rattle.player.proofs.read.Kinds as read_kinds
use Rattle.player.proofs.read.Reads as read_reads
use Rattle.player.proofs.store.Kinds as store_kinds
use Rattle.player.proofs.store.Reads as store_reads
use Rattle.player.proofs.fits.Kinds as fits_kinds
use Rattle.player.proofs.fits.Reads as fits_reads
use Rattle.player.proofs.PhaseFromU64.from.Kinds as phase_kinds
use Rattle.player.proofs.PhaseFromU64.from.Reads as phase_reads
use Rattle.player.proofs.ShowsFromTuple2U64U64.from.Kinds as shows_kinds
use Rattle.player.proofs.ShowsFromTuple2U64U64.from.Reads as shows_reads
use Rattle.player.proofs.Tuple2U64U64FromShows.from.Kinds as words_kinds
use Rattle.player.proofs.Tuple2U64U64FromShows.from.Reads as words_reads

pub is_working_once : (κs : Lfts 0) (args : Dens κs is_working_kinds.ps) (r₁ r₂ : (res_t is_working_kinds.r κs).Denot)
    (x₁ x₂ : AtExit (ended_of 0 is_working_kinds.ps is_working_kinds.r) κs)
    → is_working_reads.Post κs args r₁ x₁ → is_working_reads.Post κs args r₂ x₂ → r₁ ≡ r₂
is_working_once κs args r₁ r₂ x₁ x₂ a b = a ∙ sym b

pub read_once : (κs : Lfts 1) (args : Dens κs read_kinds.ps) (r₁ r₂ : (res_t read_kinds.r κs).Denot) (x₁ x₂ : AtExit (ended_of 1 read_kinds.ps read_kinds.r) κs)
    → read_reads.Post κs args r₁ x₁ → read_reads.Post κs args r₂ x₂ → r₁ ≡ r₂
read_once κs args r₁ r₂ x₁ x₂ a b = a ∙ sym b

-- x.1.0 is the lent numbers at exit
pub store_once : (κs : Lfts 1) (args : Dens κs store_kinds.ps) (r₁ r₂ : (res_t store_kinds.r κs).Denot) (x₁ x₂ : AtExit (ended_of 1 store_kinds.ps store_kinds.r) κs)
    → store_reads.Post κs args r₁ x₁ → store_reads.Post κs args r₂ x₂ → x₁.1.0.now ≡ x₂.1.0.now
store_once κs args r₁ r₂ x₁ x₂ a b = a ∙ sym b

pub fits_once : (κs : Lfts 1) (args : Dens κs fits_kinds.ps) (r₁ r₂ : (res_t fits_kinds.r κs).Denot) (x₁ x₂ : AtExit (ended_of 1 fits_kinds.ps fits_kinds.r) κs)
    → fits_reads.Post κs args r₁ x₁ → fits_reads.Post κs args r₂ x₂ → r₁ ≡ r₂
fits_once κs args r₁ r₂ x₁ x₂ a b = a ∙ sym b

-- the conversions: of a phase, of what is shown, and of that back to its words
pub phase_from_once : (κs : Lfts 0) (args : Dens κs phase_kinds.ps) (r₁ r₂ : (res_t phase_kinds.r κs).Denot)
    (x₁ x₂ : AtExit (ended_of 0 phase_kinds.ps phase_kinds.r) κs)
    → phase_reads.Post κs args r₁ x₁ → phase_reads.Post κs args r₂ x₂ → r₁ ≡ r₂
phase_from_once κs args r₁ r₂ x₁ x₂ a b = a ∙ sym b

pub shows_from_once : (κs : Lfts 0) (args : Dens κs shows_kinds.ps) (r₁ r₂ : (res_t shows_kinds.r κs).Denot)
    (x₁ x₂ : AtExit (ended_of 0 shows_kinds.ps shows_kinds.r) κs)
    → shows_reads.Post κs args r₁ x₁ → shows_reads.Post κs args r₂ x₂ → r₁ ≡ r₂
shows_from_once κs args r₁ r₂ x₁ x₂ a b = a ∙ sym b

pub words_from_once : (κs : Lfts 0) (args : Dens κs words_kinds.ps) (r₁ r₂ : (res_t words_kinds.r κs).Denot)
    (x₁ x₂ : AtExit (ended_of 0 words_kinds.ps words_kinds.r) κs)
    → words_reads.Post κs args r₁ x₁ → words_reads.Post κs args r₂ x₂ → (r₁.0 ≡ r₂.0) × (r₁.1 ≡ r₂.1)
words_from_once κs args r₁ r₂ x₁ x₂ a b = (a.0 ∙ sym b.0, a.1 ∙ sym b.1)
