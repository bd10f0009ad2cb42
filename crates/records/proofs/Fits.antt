-- Words within the widths of a table. Assumes nothing.
use mathlib.Core.List.{List, [], ◌∷◌}
use Prim.Native.Nat.{ℕ, zero, suc, ◌^◌, ◌<◌, suc-le-suc}
use native.Mathlib.Nat.{le_of_suc-le-suc, not-suc-le-zero, zero-lt-suc}
use mathlib.Core.Path.{◌≡◌}
use mathlib.Core.Bool.{false}
use borrow.Author.Tests.{leb-false, lt-leb}
use lib.Pow.{pow_pos}
use lib.ListN.{length, get_or, replicate}
use Rattle.records.specs.Records.{exceeds, attribute_widths, attributes_of, attributes_words, register_widths, registers_of, registers_words, port_widths, ports_of, ports_words}
use Rattle.records.proofs.Searching.{some_false, none_some}

-- each word is below the power of two of its width
pub data Fit : (widths words : List ℕ) → Type 0 where
  none : Fit [] []
  more : {w x : ℕ} {ws xs : List ℕ} → x < 2 ^ w → Fit ws xs → Fit (w ∷ ws) (x ∷ xs)

-- a word of a record that fits
pub fit_at : {widths words : List ℕ} → Fit widths words → (i : ℕ) → i < length widths → get_or words i 0 < 2 ^ get_or widths i 0
fit_at none i h = absurd (not-suc-le-zero h)
fit_at (more l f) zero h = l
fit_at (more l f) (suc i) h = fit_at f i (le_of_suc-le-suc h)

-- f 0, f 1 and so on: n words
abbrev pub each : (n : ℕ) → (ℕ → ℕ) → List ℕ
each zero f = []
each (suc n) f = f 0 ∷ each n (λ i. f (suc i))

-- words that are each within their width fit the table
pub fit_each : (widths : List ℕ) (f : ℕ → ℕ) → ((i : ℕ) → i < length widths → f i < 2 ^ get_or widths i 0) → Fit widths (each (length widths) f)
fit_each [] f h = none
fit_each (w ∷ ws) f h = more (h 0 (zero-lt-suc (length ws))) (fit_each ws (λ i. f (suc i)) (λ i l. h (suc i) (suc-le-suc l)))

-- zeros fit every table
pub zeros_fit : (widths : List ℕ) → Fit widths (replicate (length widths) 0)
zeros_fit [] = none
zeros_fit (w ∷ ws) = more (pow_pos w) (zeros_fit ws)

-- ---- the table's check, and what it says of each word

pub within : (widths words : List ℕ) → exceeds widths words ≡ false → (i : ℕ) → i < length widths → get_or words i 0 < 2 ^ get_or widths i 0
unfolding exceeds
within widths words p i h = leb-false (2 ^ get_or widths i 0) (get_or words i 0) (some_false _ (length widths) i p h)

pub fit_within : {widths words : List ℕ} → Fit widths words → exceeds widths words ≡ false
unfolding exceeds
fit_within {widths} {words} f = none_some _ (length widths) (λ i h. lt-leb (2 ^ get_or widths i 0) (get_or words i 0) (fit_at f i h))

-- words of a record that exceed no width fit the table
pub attributes_fit : (ws : List ℕ) → exceeds attribute_widths ws ≡ false → Fit attribute_widths (attributes_words (attributes_of ws))
attributes_fit ws p = fit_each attribute_widths (λ i. get_or ws i 0) (within attribute_widths ws p)

pub registers_fit : (ws : List ℕ) → exceeds register_widths ws ≡ false → Fit register_widths (registers_words (registers_of ws))
registers_fit ws p = fit_each register_widths (λ i. get_or ws i 0) (within register_widths ws p)

pub ports_fit : (ws : List ℕ) → exceeds port_widths ws ≡ false → Fit port_widths (ports_words (ports_of ws))
ports_fit ws p = fit_each port_widths (λ i. get_or ws i 0) (within port_widths ws p)
